-- SPDX-License-Identifier: Apache-2.0
-- A set that is not refused is between transfers, and no two of its devices have the same selects.
use Prim.Native.Nat.{ℕ}
use mathlib.Core.Path.{◌≡◌, refl, sym, ap, ◌∙◌}
use mathlib.Core.Bool.{Bool, true, false, cond, not}
use native.Mathlib.Omega.{arith}
use borrow.Author.Tests.{eq-eqb}
use Rattle.wire.specs.declared.Phase.{Phase}
use Rattle.wire.specs.declared.Phase.TheVariants.{Idle, Slave, AddressHigh, AddressLow, Pointer, Write, Read}
use Rattle.bus_limits.specs.Limits.{is_idle}
use Rattle.law_wired.proofs.Wire.{not_true}
use Rattle.set_event.specs.Set.{Held, Together, number_of, select_in}
use Rattle.set_event.specs.Make.{is_lent, is_within, is_between, places_are, differ, selects_differ, count_fits, make_number}
use Rattle.set_event.proofs.Facts.{here_is, place_has}
use Rattle.law_ensemble.specs.Transaction.{Unlike, Made}
use Rattle.law_ensemble.proofs.Pairs.{each_two}

zero_of : (b : Bool) (x k : ℕ) → (k ≡ 0 → ⊥) → cond b x k ≡ 0 → (b ≡ true) × (x ≡ 0)
zero_of true x k d e = (refl, e)
zero_of false x k d e = absurd (d e)

pub idle_is : (p : Phase) → is_idle p ≡ true → p ≡ Idle
idle_is Idle e = refl
idle_is (Slave k b) e = not_true e
idle_is (AddressHigh k b) e = not_true e
idle_is (AddressLow h k b) e = not_true e
idle_is (Pointer k b) e = not_true e
idle_is (Write s k b) e = not_true e
idle_is (Read s k b) e = not_true e

differ_is : (a b : Held) → differ a b ≡ true → select_in a ≡ select_in b → ⊥
differ_is a b e k = not_true (sym (ap not (eq-eqb (select_in a) (select_in b) k)) ∙ e)

-- no two devices have the same selects
pub unlike_of : (t : Together) → selects_differ t ≡ true → Unlike t
unlike_of t e v w a b d =
    each_two (λ (h k : Held). select_in h ≡ select_in k → ⊥) (λ h k n s. n (sym s)) differ differ_is t e v w a b d

pub made : Made
unfolding make_number is_between
made t e =
    let h1 = zero_of (count_fits t) _ 9 (λ k. omega (arith, k)) e in
    let h2 = zero_of (places_are is_lent t) _ 1 (λ k. omega (arith, k)) h1.1 in
    let h3 = zero_of (places_are is_within t) _ 2 (λ k. omega (arith, k)) h2.1 in
    let h4 = zero_of (selects_differ t) _ 10 (λ k. omega (arith, k)) h3.1 in
    let h5 = zero_of (places_are is_between t) _ 11 (λ k. omega (arith, k)) h4.1 in (
      λ v hv. idle_is _ (here_is t.set.count (number_of v) _ (place_has is_between t h5.0 v) hv),
      unlike_of t
          h4.0,
    )
