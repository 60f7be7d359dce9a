-- SPDX-License-Identifier: Apache-2.0
-- The states that are read of the image, before the event and after it, are those that the record's step speaks of.
use mathlib.Core.Path.{ap, ◌∙◌}
use native.Mathlib.Omega.{arith}
use lib.ListN.{length}
use Rattle.fm3130_image.proofs.Accepts.{image_long}
use Rattle.fm3130_image.proofs.Images.{image_length}
use Rattle.fm3130_list.proofs.Runs.{known_at}
use Rattle.c_lamps.proofs.Parts.{one_ran}
use Rattle.c_lamps.proofs.run.one.Goals as goal

pub state_at-before-requires : goal.state_at-before-requires
state_at-before-requires c = let s = c in image_long _ s.requires.accepted.image

pub happen-answer-requires-clause-event_bound : goal.happen-answer-requires-clause-event_bound
happen-answer-requires-clause-event_bound c =
    known_at c.args.events.now c.requires.events_value.0 0 (omega (arith, c.requires.events_value.2))

pub state_at-state-requires : goal.state_at-state-requires
state_at-state-requires c = let d = c.happen-answer.ensures in ap length d.image ∙ image_length _

pub returns : goal.returns
returns c =
    let at11 = c in
    let s = at11 in
    let d = c.happen-answer.ensures in
    one_ran _ s.args.proving _ _ _ _ _ _ _ s.requires.events_value.2 (s.requires.events_value.1 ∙ s.requires.events_value.2) d
    (rw (at11.state_at-before.ensures, c.state_at-state.ensures) at c.step.ensures)
