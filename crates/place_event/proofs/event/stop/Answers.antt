-- SPDX-License-Identifier: Apache-2.0
-- Heard or not.
use mathlib.Core.Path.{sym}
use Rattle.wire.specs.Machine as Machine
use Rattle.wire.specs.declared.Phase.TheVariants.{Idle}
use Rattle.fm3130_image.specs.Image.{image_of}
use Rattle.fm3130_image.proofs.Lies.{phase_over}
use Rattle.place_event.proofs.Quiets.{stop_heard, line_unheard}
use Rattle.place_event.proofs.event.stop.Goals as goal

pub returns-then-image-ne-POWER_ON : goal.returns-then-image-ne-POWER_ON
unfolding image_of
returns-then-image-ne-POWER_ON c s e = rw (line_unheard s Machine.stop (λ z. c.if-image-ne-POWER_ON.true (rw e z))) e

pub returns : goal.returns
unfolding image_of
returns c s e =
    rw (stop_heard s (rw e at c.if-image-ne-POWER_ON.false), c.begin.ensures, e) (sym (phase_over s Idle))
