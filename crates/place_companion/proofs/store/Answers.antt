-- SPDX-License-Identifier: Apache-2.0
-- By the address; it steps on first, since the write does not ask it again.
use Prim.Native.Nat.{◌≤◌}
use mathlib.Core.Path.{◌≡◌, refl}
use mathlib.Core.Bool.{true, false, not, ◌&&◌}
use lib.Dec.{leb, eqb}
use borrow.Author.Tests.{eq-eqb, ne_eqb}
use Rattle.bits.specs.Weight.{has}
use Rattle.fm3130_registers.specs.Map.{W}
use Rattle.fm3130_companion.specs.Part.{stepped_of}
use Rattle.fm3130.specs.Code.Bus.{with_companion}
use Rattle.fm3130_image.specs.Image.{image_of}
use Rattle.place_companion.proofs.Desks.{took_as, took_from, took_whole, register_put}
use Rattle.place_companion.proofs.Desks.{store_control, store_trim, store_none, store_byte}
use borrow.Author.Rules.{rules}
use native.Mathlib.Omega.{arith}
use lib.ListN.{length-set}
use Rattle.place_companion.proofs.store.Goals as goal

pub next_address-requires : goal.next_address-requires
next_address-requires c = c.requires.1

pub store_control-requires : goal.store_control-requires
store_control-requires c = simp length-set c.requires.0

pub shape_of-image-then-address-eq-CONTROL : goal.shape_of-image-then-address-eq-CONTROL
shape_of-image-then-address-eq-CONTROL c = rw c.image-1.given (simp length-set)

pub returns-then-address-eq-CONTROL : goal.returns-then-address-eq-CONTROL
unfolding image_of
returns-then-address-eq-CONTROL c s e =
    let a : eqb s.companion.address 0 ≡ true = rw e at (eq-eqb _ _ c.if-address-eq-CONTROL.true) in
    took_as (store_control s.companion _ a)
    (took_from s (stepped_of s.companion)
    (c.store_control.ensures (with_companion s (stepped_of s.companion)) (rw (c.next_address.ensures, e) refl)))

pub bounds-image-0 : goal.bounds-image-0
bounds-image-0 c = let l = c.requires.0 in simp length-set (omega arith)

pub bounds-image-1 : goal.bounds-image-1
bounds-image-1 c =
    let l = c.requires.0 in simp length-set (omega arith)

pub bounds-image-1-then-address-eq-TRIM : goal.bounds-image-1-then-address-eq-TRIM
bounds-image-1-then-address-eq-TRIM c =
    let l = c.requires.0 in simp length-set (omega arith)

pub shape_of-image-then-address-eq-TRIM : goal.shape_of-image-then-address-eq-TRIM
shape_of-image-then-address-eq-TRIM c = simp length-set

pub returns-then-address-eq-TRIM : goal.returns-then-address-eq-TRIM
unfolding image_of
returns-then-address-eq-TRIM c s e =
    let n : eqb s.companion.address 0 ≡ false = rw e at (ne_eqb _ _ c.if-address-eq-CONTROL.false) in
    let a : eqb s.companion.address 1 ≡ true = rw e at (eq-eqb _ _ c.if-address-eq-TRIM.true) in
    took_as (store_trim s.companion _ n a)
    (took_whole s _ (rw (c.trim_after.ensures, c.next_address.ensures, e) refl))

pub bounds-image-0-2 : goal.bounds-image-0-2
bounds-image-0-2 c = let l = c.requires.0 in simp length-set (omega arith)

pub shape_of-image-then-address-has : goal.shape_of-image-then-address-has
shape_of-image-then-address-has c = simp length-set

pub returns-then-address-has : goal.returns-then-address-has
unfolding image_of
returns-then-address-has c s e =
    let n : eqb s.companion.address 0 ≡ false = rw e at (ne_eqb _ _ c.if-address-eq-CONTROL.false) in
    let m : eqb s.companion.address 1 ≡ false = rw e at (ne_eqb _ _ c.if-address-eq-TRIM.false) in
    let t : (leb s.companion.address 8 && not (has s.companion.registers.control W)) ≡ true =
    rw (c.has.ensures, e) at c.if-address-has.true in
    took_as (store_none s.companion _ n m t)
    (took_whole s (stepped_of s.companion) (rw (c.next_address.ensures, e) refl))

pub overflow_cast-at : goal.overflow_cast-at
overflow_cast-at c = let h = c.requires.1 in search rules

pub stored-requires : goal.stored-requires
stored-requires c = let h = c.requires.1 in search rules

pub bounds-image-at : goal.bounds-image-at
bounds-image-at c =
    let p = c.requires in
    let l = p.0 in
    let h = p.1 in
    simp length-set (omega arith)

pub shape_of-image : goal.shape_of-image
shape_of-image c = simp length-set

pub returns : goal.returns
unfolding image_of
returns c s e =
    let n : eqb s.companion.address 0 ≡ false = rw e at (ne_eqb _ _ c.if-address-eq-CONTROL.false) in
    let m : eqb s.companion.address 1 ≡ false = rw e at (ne_eqb _ _ c.if-address-eq-TRIM.false) in
    let t : (leb s.companion.address 8 && not (has s.companion.registers.control W)) ≡ false =
    rw (c.has.ensures, e) at c.if-address-has.false in
    let l : s.companion.address ≤ 14 = rw e at c.requires.1 in
    took_as (store_byte s.companion _ n m t)
    (took_whole s _ (rw (c.stored.ensures, c.next_address.ensures, e)
    (register_put s _ _ s.companion.address (omega arith))))
