-- SPDX-License-Identifier: Apache-2.0
-- Fields tested by their digits, with no number made of them. Bytes of two digits lie as their numbers do; a day of the week
-- is one digit; the bytes of the months are twelve, which one test computes over all bytes up to 12h; and a date from 1 to
-- the last date of a byte that is a month is a date of that month.
use mathlib.Core.Path.{◌≡◌, refl, ap, sym, ◌∙◌}
use mathlib.Core.Bool.{Bool, true, false, not, ◌&&◌, ◌||◌, and-true, and-false}
use mathlib.Core.List.{List, [], ◌∷◌}
use Prim.Native.Nat.{ℕ, zero, suc, ◌+◌, ◌*◌, ◌/◌, ◌%◌, ◌≤◌, ◌<◌}
use native.Mathlib.Omega.{arith}
use lib.Dec.{T, ltb, leb, eqb}
use lib.ListN.{replicate}
use borrow.Author.Tests.{ltb-true, leb-true, leb-false, le-leb, lt-leb, lt-ltb, ne_eqb}
use Rattle.calendar.specs.Field.{value, bcd, in_field}
use Rattle.calendar.specs.Month.{month_length, pick}
use Rattle.calendar.proofs.Table.{every_at}
use Rattle.calendar.proofs.Field.{value_bcd, bcd_digit}
use Rattle.calendar.proofs.Month.{month_length_leap, month_length_february}

same_order : (a b c d : ℕ) → (a ≤ b → c ≤ d) → (c ≤ d → a ≤ b) → leb a b ≡ leb c d
same_order a b c d f g = by (leb a b) refl
  where
    by : (t : Bool) → leb a b ≡ t → leb a b ≡ leb c d
    by true e = e ∙ sym (le-leb c d (f (leb-true a b e)))
    by false e = e ∙ sym (lt-leb c d (above (leb c d) refl))
      where
        above : (t : Bool) → leb c d ≡ t → d < c
        above true h = let l = leb-false a b e in let k = g (leb-true c d h) in absurd (omega arith)
        above false h = leb-false c d h

pub digits_tested : (x top : ℕ) → top % 16 < 10 → (ltb (x % 16) 10 && leb x top) ≡ in_field 0 (value top) x
unfolding in_field
digits_tested x top h = by (ltb (x % 16) 10) refl
  where
    by : (t : Bool) → ltb (x % 16) 10 ≡ t → (t && leb x top) ≡ (t && leb 0 (value x) && leb (value x) (value top))
    by true e =
        let d = ltb-true (x % 16) 10 e in
        same_order x top (value x) (value top) (λ l. omega arith) (λ l. omega arith)
        ∙ ap (λ (t : Bool). t && leb (value x) (value top)) (sym (le-leb 0 (value x) (omega arith)))
    by false e = refl

pub day_tested : (x : ℕ) → (not (eqb x 0) && leb x 7) ≡ in_field 1 7 x
unfolding in_field
day_tested zero = refl
day_tested (suc x) = by (leb (suc x) 7) refl
  where
    by : (t : Bool) → leb (suc x) 7 ≡ t
        → (not (eqb (suc x) 0) && leb (suc x) 7)
        ≡ (ltb (suc x % 16) 10 && leb 1 (value (suc x)) && leb (value (suc x)) 7)
    by true e =
        let l = leb-true (suc x) 7 e in
        rw (
          ne_eqb (suc x) 0 (λ z. omega arith),
          e,
          lt-ltb (suc x % 16) 10 (omega arith),
          le-leb 1 (value (suc x)) (omega arith),
          le-leb (value (suc x)) 7 (omega arith),
        )
    by false e =
        let l = leb-false (suc x) 7 e in
        rw (e, lt-leb (value (suc x)) 7 (omega arith))
        (and-false (not (eqb (suc x) 0)) ∙ sym (and-false (ltb (suc x % 16) 10 && leb 1 (value (suc x)))))

-- February's last date by the digits of the year
pub february_leap : (y : ℕ) → (y / 16 * 2 + y % 4) % 4 ≡ 0 → 0x29 ≡ bcd (month_length 2 (value y))
february_leap y z = ap bcd (month_length_leap 2 (value y) refl (omega arith))

pub february_common : (y : ℕ) → ((y / 16 * 2 + y % 4) % 4 ≡ 0 → ⊥) → 0x28 ≡ bcd (month_length 2 (value y))
february_common y n = ap bcd (month_length_february 2 (value y) refl (λ z. n (omega arith)))

-- the bytes of the months, from the last to the first, and what a number that is none of some knows
abbrev month_bytes : List ℕ
month_bytes = 0x12 ∷ 0x11 ∷ 0x10 ∷ 9 ∷ 8 ∷ 7 ∷ 6 ∷ 5 ∷ 4 ∷ 3 ∷ 2 ∷ 1 ∷ []

abbrev among : ℕ → List ℕ → Bool
among m [] = false
among m (k ∷ ks) = eqb m k || among m ks

abbrev NoneOf : ℕ → List ℕ → Type 0
NoneOf m [] = Unit {0}
NoneOf m (k ∷ ks) = NoneOf m ks × (m ≡ k → ⊥)

none_among : (m : ℕ) (ks : List ℕ) → NoneOf m ks → among m ks ≡ false
none_among m [] h = refl
none_among m (k ∷ ks) h = rw (ne_eqb m k h.1) (none_among m ks h.0)

-- the test of a byte: it is no month, or one of the list
is_listed : ℕ → ℕ → Bool
is_listed m x = not (in_field 1 12 m) || among m month_bytes

refused : (a b : Bool) → b ≡ false → T (not a || b) → a ≡ false
refused false b e t = refl
refused true b e t = absurd (rw e at t)

above_months : (m : ℕ) → 18 < m → in_field 1 12 m ≡ false
unfolding in_field
above_months m h = rw (lt-leb (value m) 12 (omega arith)) (and-false (ltb (m % 16) 10 && leb 1 (value m)))

up_to_months : (m : ℕ) → m ≤ 18 → T (not (in_field 1 12 m) || among m month_bytes)
unfolding is_listed in_field
up_to_months m h = every_at is_listed (replicate 19 0) tt m (omega arith)

pub no_month : (m : ℕ) → NoneOf m month_bytes → in_field 1 12 m ≡ false
no_month m n = by (leb m 18) refl
  where
    by : (t : Bool) → leb m 18 ≡ t → in_field 1 12 m ≡ false
    by true e = refused (in_field 1 12 m) _ (none_among m month_bytes n) (up_to_months m (leb-true m 18 e))
    by false e = above_months m (leb-false m 18 e)

-- a date from 1 on is one from 0 on that is not 0
date_from_one : (x top : ℕ) → (not (eqb x 0) && in_field 0 top x) ≡ in_field 1 top x
unfolding in_field
date_from_one zero top = refl
date_from_one (suc x) top =
    rw (
      ne_eqb (suc x) 0 (λ z. omega arith),
      le-leb 0 (value (suc x)) (omega arith),
      le-leb 1 (value (suc x)) (omega arith),
    )

no_date : (x : ℕ) → (not (eqb x 0) && in_field 0 0 x) ≡ false
unfolding in_field
no_date zero = refl
no_date (suc x) =
    rw (ne_eqb (suc x) 0 (λ z. omega arith), lt-leb (value (suc x)) 0 (omega arith))
    (and-false (ltb (suc x % 16) 10 && leb 0 (value (suc x))))

-- a date from 1 to the last date of a month byte: both are tested by it
module _ (m y : ℕ) where
  abbrev last_date : Bool → ℕ
  last_date t = pick t (bcd (month_length (value m) (value y))) 0

  pub last_date_digit : (t : Bool) → last_date t % 16 < 10
  last_date_digit true = bcd_digit (month_length (value m) (value y))
  last_date_digit false = omega arith

  module _ (x : ℕ) where
    by_month : (t : Bool)
        → (not (eqb x 0) && in_field 0 (value (last_date t)) x) ≡ (in_field 1 (month_length (value m) (value y)) x && t)
    by_month true =
        rw (value_bcd (month_length (value m) (value y)))
        (date_from_one x (month_length (value m) (value y))
        ∙ sym (and-true (in_field 1 (month_length (value m) (value y)) x)))
    by_month false = no_date x ∙ sym (and-false (in_field 1 (month_length (value m) (value y)) x))

    pub date_tested :
        (not (eqb x 0) && in_field 0 (value (last_date (in_field 1 12 m))) x)
        ≡ (in_field 1 (month_length (value m) (value y)) x && in_field 1 12 m)
    date_tested = by_month (in_field 1 12 m)
