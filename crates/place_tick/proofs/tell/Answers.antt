-- SPDX-License-Identifier: Apache-2.0
-- 00h, and 02h to 08h where they follow.
use Rattle.std.proofs.Common.{◌≡◌, true, false, ◌||◌, refl, ◌∙◌, length-set}
use Rattle.bits.specs.Weight.{has}
use Rattle.fm3130_registers.specs.Map.{W, R}
use Rattle.fm3130_companion.specs.Change.{with_time, with_registers}
use Rattle.fm3130_registers.specs.Control.{told_of}
use Rattle.fm3130.specs.Code.Bus.{with_companion}
use Rattle.fm3130_image.specs.Image.{image_of}
use Rattle.place_tick.proofs.Ticks.{tell_kept, tell_shown}
use Rattle.place_tick.proofs.tell.Goals as goal

pub shape_of-image-then-has : goal.shape_of-image-then-has
shape_of-image-then-has c = simp length-set

pub returns-then-has : goal.returns-then-has
unfolding image_of
returns-then-has c s e =
    let t : (has s.companion.registers.control W || has s.companion.registers.control R) ≡ true =
    rw (c.has.ensures, c.has-2.ensures, e) at c.if-has.true in
    rw (c.told.ensures, e) (tell_kept s _ _ t)

pub show_core-requires : goal.show_core-requires
show_core-requires c = simp length-set c.requires

pub shape_of-image : goal.shape_of-image
shape_of-image c = rw c.image-1.given (simp length-set)

pub returns : goal.returns
unfolding image_of
returns c s e =
    let t : (has s.companion.registers.control W || has s.companion.registers.control R) ≡ false =
    rw (c.has.ensures, c.has-2.ensures, e) at c.if-has.false in
    c.show_core.ensures
    (with_companion s (with_registers s.companion (with_time s.companion.registers
    (told_of s.companion.registers.control c.args.rung c.args.century) s.companion.registers.time)))
    (rw (c.told.ensures, e) refl)
    ∙ tell_shown s _ _ t
