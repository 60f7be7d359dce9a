-- SPDX-License-Identifier: Apache-2.0
-- `fm31_run::run::run_events` meets its contract.
use Rattle.fm31_run.proofs.Seats.{alone}
use Rattle.fm31_run.proofs.run.run_events.Goals as goal

pub returns : goal.returns
returns c =
    let r = c in
    let s = r in
    let a = s.args in
    alone a.size a.state a.memory.now a.events.now a.answers.now _ _ _ s.requires.events_value.0
    s.requires.events_value.1 r.run_at.ensures
