-- SPDX-License-Identifier: Apache-2.0
-- The three tests.
use Rattle.std.proofs.Common.{sym, refl, ◌∙◌}
use Rattle.fm3130_image.specs.Image.{image_of, calendar_at}
use Rattle.place_tick.proofs.Ticks.{ticks_dark, ticks_stopped, ticks_valid}
use Rattle.place_tick.proofs.is_ticking.Goals as goal

pub returns-then-image-eq-POWER_OFF : goal.returns-then-image-eq-POWER_OFF
unfolding image_of
returns-then-image-eq-POWER_OFF c s e = ticks_dark s (rw e at c.if-image-eq-POWER_OFF.true)

pub returns-then-has : goal.returns-then-has
unfolding image_of
returns-then-has c s e = ticks_stopped s (rw e at (sym c.has.ensures ∙ c.if-has.true))

pub returns : goal.returns
unfolding image_of calendar_at
returns c s e =
    ticks_valid s (λ z. c.if-image-eq-POWER_OFF.false (rw e z)) (rw e at (sym c.has.ensures ∙ c.if-has.false))
    (c.is_valid.ensures ∙ rw (c.calendar_at.ensures, e) refl)
