-- SPDX-License-Identifier: Apache-2.0
-- A Clock, or an event that touches no memory; the answer byte is of the state that the event left.
use mathlib.Core.Path.{ap, ◌∙◌}
use lib.ListN.{length}
use Rattle.fm3130_image.proofs.Images.{image_length}
use Rattle.fm3130_image.proofs.Accepts.{image_well}
use Rattle.place_event.proofs.Quiets.{answered_clock, answered_quiet}
use Rattle.place_event.proofs.event.happen.Goals as goal

pub shown-requires : goal.shown-requires
shown-requires c =
    ap length c.clock-line.ensures.image ∙ image_length _

pub returns-then-event-eq1 : goal.returns-then-event-eq1
returns-then-event-eq1 c =
    answered_clock _ _ _ _ _ _ _ (image_well _ c.requires.accepted.image) c.if-event-eq1.true
    c.clock-line.ensures c.shown.ensures.0 c.lined.ensures

pub shown-requires-2 : goal.shown-requires-2
shown-requires-2 c =
    ap length (c.quiet.ensures c.args.memory.now).image ∙ image_length _

pub returns : goal.returns
returns c =
    answered_quiet _ _ _ _ _ (c.quiet.ensures _) c.shown-2.ensures.0 c.lined-2.ensures
