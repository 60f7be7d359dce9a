-- SPDX-License-Identifier: Apache-2.0
-- By the address.
use mathlib.Core.Path.{◌≡◌}
use mathlib.Core.Bool.{true, false}
use lib.Dec.{eqb}
use borrow.Author.Tests.{eq-eqb, ne_eqb}
use Rattle.fm3130_image.specs.Image.{image_of}
use Rattle.place_companion.proofs.Desks.{loaded_control, loaded_other}
use native.Mathlib.Omega.{arith}
use lib.ListN.{length-set}
use Rattle.place_companion.proofs.loaded.Goals as goal

pub next_address-requires : goal.next_address-requires
next_address-requires c = c.requires.1

pub bounds-image-0 : goal.bounds-image-0
bounds-image-0 c = let l = c.requires.0 in simp length-set (omega arith)

pub bounds-image-0-then-address-eq-CONTROL : goal.bounds-image-0-then-address-eq-CONTROL
bounds-image-0-then-address-eq-CONTROL c = let l = c.requires.0 in simp length-set (omega arith)

pub shape_of-image-then-address-eq-CONTROL : goal.shape_of-image-then-address-eq-CONTROL
shape_of-image-then-address-eq-CONTROL c = simp length-set

pub returns-then-address-eq-CONTROL : goal.returns-then-address-eq-CONTROL
unfolding image_of
returns-then-address-eq-CONTROL c s e =
    let a : eqb s.companion.address 0 ≡ true = rw e at (eq-eqb _ _ c.if-address-eq-CONTROL.true) in
    rw (c.flags_after.ensures, c.next_address.ensures, e) (loaded_control s _ a)

pub shape_of-image-else-address-eq-CONTROL : goal.shape_of-image-else-address-eq-CONTROL
shape_of-image-else-address-eq-CONTROL c = simp length-set

pub returns-else-address-eq-CONTROL : goal.returns-else-address-eq-CONTROL
unfolding image_of
returns-else-address-eq-CONTROL c s e =
    let a : eqb s.companion.address 0 ≡ false = rw e at (ne_eqb _ _ c.if-address-eq-CONTROL.false) in
    rw (c.next_address.ensures, e) (loaded_other s _ a)
