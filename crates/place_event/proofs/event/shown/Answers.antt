-- SPDX-License-Identifier: Apache-2.0
-- Nothing without a supply; else by 00h and 0Eh.
use mathlib.Core.Path.{refl}
use native.Mathlib.Omega.{arith}
use Rattle.fm3130_image.specs.Image.{image_of}
use Rattle.fm3130_companion.specs.Pin.{pin_of}
use Rattle.place_event.proofs.Quiets.{shown_off, shown_supplied}
use Rattle.place_event.proofs.event.shown.Goals as goal

pub returns-then-image-eq-POWER_OFF : goal.returns-then-image-eq-POWER_OFF
unfolding image_of
returns-then-image-eq-POWER_OFF c = (λ s e. rw (shown_off s (rw e at c.if-image-eq-POWER_OFF.true)) refl, omega arith)

pub returns : goal.returns
unfolding image_of pin_of
returns c =
    let p = c.pin_by.ensures in
    let n = p.1 in (
      λ s e. rw (shown_supplied s (λ z. c.if-image-eq-POWER_OFF.false (rw e z)), p.0, e) refl,
      omega arith,
    )
