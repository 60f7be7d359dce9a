-- SPDX-License-Identifier: Apache-2.0
-- The four outcomes of a field's step, one for each way through its tests; and what the step rests on: the limits that it
-- meets, and the byte of the next number.
use mathlib.Core.Path.{◌≡◌, ap}
use mathlib.Core.Bool.{Bool, true, false}
use Prim.Native.Nat.{ℕ, ◌+◌, ◌%◌, ◌<◌}
use borrow.Author.Tests.{eq-eqb, ne_eqb}
use Rattle.calendar.specs.declared.fields.Carried.{Carried}
use Rattle.calendar.specs.Field.{value, step_of}
use Rattle.calendar.proofs.Field.{in_field_facts, bcd_next_nine, bcd_next_less}

abbrev pub carried_of : ℕ → Bool → Carried
carried_of x b = record { byte = x; carry = b }

module _ (low top x : ℕ) {b : Bool} where
  pub step_none : b ≡ false → carried_of x false ≡ step_of low top b x
  unfolding step_of
  step_none e = rw e

  pub step_top : b ≡ true → value x ≡ top → carried_of low true ≡ step_of low top b x
  unfolding step_of
  step_top e h = rw (e, eq-eqb (value x) top h)

  pub step_nine : b ≡ true → (value x ≡ top → ⊥) → x % 16 ≡ 9 → carried_of (x + 7) false ≡ step_of low top b x
  unfolding step_of
  step_nine e h d = rw (e, ne_eqb (value x) top h) (ap (λ (n : ℕ). carried_of n false) (bcd_next_nine x d))

  pub step_less : b ≡ true → (value x ≡ top → ⊥) → x % 16 < 9 → carried_of (x + 1) false ≡ step_of low top b x
  unfolding step_of
  step_less e h d = rw (e, ne_eqb (value x) top h) (ap (λ (n : ℕ). carried_of n false) (bcd_next_less x d))

pub ruleset stepping = (in_field_facts, bcd_next_nine, bcd_next_less)
