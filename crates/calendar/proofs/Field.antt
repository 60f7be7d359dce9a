-- SPDX-License-Identifier: Apache-2.0
-- A field of two decimal digits, once over its limits.
-- The limits as a test and as facts on numbers say the same. A byte within the limits is at most the greatest
-- number's byte. A step keeps the limits, and adds the carry to the field's number; where the field turns over, what
-- is lost, top + 1 - low, is what the carry out stands for. This sum is linear, so the sums of all fields add up to
-- the law of the whole calendar.
use mathlib.Core.Path.{◌≡◌, refl, ap}
use mathlib.Core.Bool.{Bool, true, false, not}
use mathlib.Core.List.{List, [], ◌∷◌}
use Prim.Native.Nat.{ℕ, ◌+◌, ◌*◌, ◌%◌, ◌≤◌, ◌<◌}
use native.Mathlib.Omega.{arith}
use lib.Dec.{T, ltb, leb, eqb, ltb→lt, leb→le, lt→ltb, le→leb}
use borrow.Author.Tests.{eqb-true, eqb-false, eq-eqb, ne_eqb}
use Rattle.calendar.specs.declared.fields.Carried.{Carried}
use Rattle.calendar.specs.Field.{value, bcd, bit, in_field, turn_of, step_of}
use Rattle.calendar.proofs.Tests.{Each, none, ◌also◌, joined_each, each_joined}

-- the limits as facts on numbers
pub record InField (low top x : ℕ) : Type 0 where
  pub digit : x % 16 < 10
  pub least : low ≤ value x
  pub most : value x ≤ top

abbrev field_tests : ℕ → ℕ → ℕ → List Bool
field_tests low top x = ltb (x % 16) 10 ∷ leb low (value x) ∷ leb (value x) top ∷ []

pub in_field_facts : (low top x : ℕ) → T (in_field low top x) → InField low top x
unfolding in_field
in_field_facts low top x t = facts (joined_each (field_tests low top x) t)
  where
    facts : Each (field_tests low top x) → InField low top x
    facts (digit also least also most also none) =
        record {
          digit = ltb→lt (x % 16) 10 digit;
          least = leb→le low (value x) least;
          most = leb→le (value x) top most;
        }

pub in_field_test : (low top x : ℕ) → InField low top x → T (in_field low top x)
unfolding in_field
in_field_test low top x f =
    each_joined (field_tests low top x)
    (lt→ltb (x % 16) 10 f.digit also le→leb low (value x) f.least also le→leb (value x) top f.most also none)

-- a byte within the limits is at most the byte of the greatest number
pub in_field_le : (low top x : ℕ) → InField low top x → x ≤ bcd top
in_field_le low top x f = omega (arith, f.digit, f.most)

-- the byte of the next number, where the low digit is 9 and where it is less
pub bcd_next_nine : (x : ℕ) → x % 16 ≡ 9 → x + 7 ≡ bcd (value x + 1)
bcd_next_nine x h = omega arith

pub bcd_next_less : (x : ℕ) → x % 16 < 9 → x + 1 ≡ bcd (value x + 1)
bcd_next_less x h = omega arith

pub value_bcd : (n : ℕ) → value (bcd n) ≡ n
value_bcd n = omega arith

pub bcd_value : (x : ℕ) → x % 16 < 10 → bcd (value x) ≡ x
bcd_value x h = omega arith

pub bcd_digit : (n : ℕ) → bcd n % 16 < 10
bcd_digit n = omega arith

pub bit_le : (b : Bool) → bit b ≤ 1
bit_le true = omega arith
bit_le false = omega arith

-- what a step makes of the field x with the carry b: within the limits, the sum, and no carry out without one in
pub record Stepped (low top : ℕ) (b : Bool) (x : ℕ) (s : Carried) : Type 0 where
  pub field : InField low top s.byte
  pub sum : value s.byte + (top + 1) * bit s.carry ≡ value x + low * bit s.carry + bit b
  pub less : bit s.carry ≤ bit b

module _ (low top x : ℕ) (small : low < 10) (f : InField low top x) where
  turn_stepped : (t : Bool) → eqb (value x) top ≡ t → Stepped low top true x (turn_of t low x)
  turn_stepped true e =
      let h : value x ≡ top = eqb-true _ _ e in
      record {
        field = record { digit = omega arith; least = omega arith; most = omega arith };
        sum = omega arith;
        less = omega arith;
      }
  turn_stepped false e =
      let n = eqb-false (value x) top e in
      let v = value_bcd (value x + 1) in
      record {
        field = record { digit = bcd_digit (value x + 1); least = omega arith; most = omega (arith, n) };
        sum = omega arith;
        less = omega arith;
      }

  pub step_stepped : (b : Bool) → Stepped low top b x (step_of low top b x)
  unfolding step_of
  step_stepped true = turn_stepped (eqb (value x) top) refl
  step_stepped false = record { field = f; sum = omega arith; less = omega arith }

  -- with a carry the byte changes, without one it stays
  pub step_same : low < top → (b : Bool) → eqb x (step_of low top b x).byte ≡ not b
  unfolding step_of
  step_same wide true =
      let s = step_stepped true in
      ne_eqb x (step_of low top true x).byte
      (λ e. let h : value x ≡ value (step_of low top true x).byte = ap value e in
      by_carry (step_of low top true x).carry refl h)
    where
      by_carry : (b : Bool) → (step_of low top true x).carry ≡ b → value x ≡ value (step_of low top true x).byte → ⊥
      by_carry true c h =
          let z : bit (step_of low top true x).carry ≡ 1 = ap bit c in
          let p = ap (λ (n : ℕ). (top + 1) * n) z in
          let q = ap (λ (n : ℕ). low * n) z in
          omega (arith, (step_stepped true).sum)
      by_carry false c h =
          let z : bit (step_of low top true x).carry ≡ 0 = ap bit c in
          let p = ap (λ (n : ℕ). (top + 1) * n) z in
          let q = ap (λ (n : ℕ). low * n) z in
          omega (arith, (step_stepped true).sum)
  step_same wide false = eq-eqb x x refl
