-- SPDX-License-Identifier: Apache-2.0
-- The seconds decide, or all five.
use Rattle.std.proofs.Common.{◌≡◌, true, false, sym, refl, ◌∙◌}
use Rattle.fm3130_registers.specs.Alarm.{agrees}
use Rattle.fm3130_image.specs.Image.{image_of}
use Rattle.place_tick.proofs.rings.Goals as goal

pub returns-then-not-agrees : goal.returns-then-not-agrees
unfolding image_of
returns-then-not-agrees c s e =
    let a : agrees s.companion.registers.alarm.seconds s.companion.core.seconds ≡ false =
    rw e at (sym c.agrees.ensures ∙ c.if-not-agrees.true) in
    rw a refl

pub returns : goal.returns
unfolding image_of
returns c s e =
    let a : agrees s.companion.registers.alarm.seconds s.companion.core.seconds ≡ true =
    rw e at (sym c.agrees.ensures ∙ c.if-not-agrees.false) in
    rw (a, c.agrees-5.ensures, c.agrees-4.ensures, c.agrees-3.ensures, c.agrees-2.ensures, e) refl
