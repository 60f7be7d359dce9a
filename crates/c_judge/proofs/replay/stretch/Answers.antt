-- SPDX-License-Identifier: Apache-2.0
-- What was fetched is the section's stretch, and its events are known; the answers that the run leaves are all of what was given.
use mathlib.Core.Path.{◌∙◌}
use native.Mathlib.Omega.{arith}
use lib.ListN.{length}
use Rattle.c_judge.proofs.Replays.{section, part_length, judged}
use Rattle.c_judge.proofs.replay.stretch.Goals as goal

pub run_events-requires : goal.run_events-requires
run_events-requires c =
    let s = c in
    let e = c.fetch.ensures in
    let n = part_length s.args.file.now s.args.events (length s.args.asked.now) s.requires.asked_in_bounds.0 in
    record { accepted = s.requires.accepted; events_value = (rw e s.requires.events_known, rw e (omega (arith, n, s.requires.asked_in_bounds.2))) }

pub returns : goal.returns
returns c =
    let s = c in
    let n = length s.args.asked.now in
    let l = part_length s.args.file.now s.args.events n s.requires.asked_in_bounds.0 ∙ s.requires.asked_in_bounds.1 in
    let r = rw c.fetch.ensures at c.run_events.ensures in
    judged _ _ (section s.args.file.now s.args.events n) s.args.recorded.now _ s.args.before _ _ _ _ l r c.beside.ensures
