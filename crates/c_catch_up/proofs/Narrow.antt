-- SPDX-License-Identifier: Apache-2.0
-- An alarm field passes every number or one, and the numbers of a unit that pass lie in a stretch of the next larger
-- unit: without a field asked, from the first number's to the last's; with the number v of b asked, those y for which
-- y * b + v is in the stretch. Once over the span b.
use Prim.Native.Nat.{ℕ, ◌+◌, ◌*◌, ◌-◌, ◌/◌, ◌%◌, ◌≤◌, ◌<◌}
use mathlib.Core.Path.{◌≡◌, refl, sym, ◌∙◌, ap}
use mathlib.Core.Bool.{Bool, true, false, ◌||◌}
use native.Mathlib.Omega.{arith}
use native.Mathlib.Nat.{mod-lt, add-mul, one-mul, div-add-mod', le-div_iff_mul-le, div-lt_iff_lt-mul, div-eq_of_lt-le}
use native.Mathlib.Nat.{div-mul-le_self, div-le_self}
use lib.Dec.{eqb, leb}
use borrow.Author.Tests.{eq-eqb, ne_eqb, eqb-true, eqb-false, leb-true, leb-false}
use Rattle.bits.specs.Weight.{has}
use Rattle.calendar.specs.Field.{value, bcd}
use Rattle.calendar.proofs.Field.{value_bcd, bcd_value, bcd_digit}
use Rattle.c_catch_up.specs.declared.search.Stretch.{Stretch}
use Rattle.fm3130_registers.specs.Map.{MATCH}
use Rattle.c_catch_up.specs.Code.Search.{passes, Asks, Some, Narrowed, Skips}

-- no number has digits that are none
pub asks_none : (a : ℕ) → 9 < a % 128 % 16 → Asks a 255
asks_none a h =
    record {
      least = omega arith;
      is = λ x l. ne_eqb (a % 128) (bcd x) (λ e. let d = bcd_digit x in omega arith) ∙ sym (ne_eqb 255 x (λ e. omega arith));
    }

same_number : (y x : ℕ) → y % 16 < 10 → (b : Bool) → eqb (value y) x ≡ b → eqb y (bcd x) ≡ b
same_number y x h true t =
    let e = eqb-true (value y) x t in
    let s = bcd_value y h in
    eq-eqb y (bcd x) (sym s ∙ ap bcd e)
same_number y x h false t =
    ne_eqb y (bcd x) (λ e. eqb-false (value y) x t (ap value e ∙ value_bcd x))

pub asks_one : (a n : ℕ) → a % 128 % 16 ≤ 9 → n ≡ value (a % 128) → Asks a n
asks_one a n h e =
    record {
      least = omega arith;
      is = λ x l. rw e (same_number (a % 128) x (omega arith) (eqb (value (a % 128)) x) refl);
    }

-- what passes, by Match and the number asked
pub passes_is : (a n x : ℕ) → Asks a n → x < 255 → has a MATCH || eqb n x ≡ passes a x
passes_is a n x k h = ap (λ (b : Bool). has a MATCH || b) (sym (k.is x h))

pub passes_any : (a x : ℕ) → has a MATCH ≡ true → passes a x ≡ true
passes_any a x e = rw e

pub passes_one : (a n x : ℕ) → Asks a n → x < 255 → has a MATCH ≡ false → passes a x ≡ true → x ≡ n
passes_one a n x k h e p = sym (eqb-true n x (ap (λ (b : Bool). b || eqb n x) (sym e) ∙ passes_is a n x k h ∙ p))

pub one_passes : (a n x : ℕ) → Asks a n → x < 255 → x ≡ n → passes a x ≡ true
one_passes a n x k h e = sym (passes_is a n x k h) ∙ rw (eq-eqb n x (sym e)) (or_true (has a MATCH))
  where
    or_true : (b : Bool) → b || true ≡ true
    or_true true = refl
    or_true false = refl

-- the next month to look at: the one after, or the next one of the name asked for
pub skips_none : (a month : ℕ) → Skips a month (month + 1)
skips_none a month =
    record { after = omega arith; most = omega arith; none = λ k h l p. omega arith }

skips_name : (month n k : ℕ) → n ≤ 255 → k % 12 + 1 ≡ n → month < k → k < month + 12 - (month + 265 - n) % 12 → ⊥
skips_name month n k l e h u = omega arith

pub skips_one : (a n month : ℕ) → Asks a n → has a MATCH ≡ false → Skips a month (month + 12 - (month + 265 - n) % 12)
skips_one a n month k m =
    record {
      after = omega arith;
      most = omega arith;
      none = λ j h l p. skips_name month n j k.least (passes_one a n (j % 12 + 1) k (omega arith) m p) h l;
    }

abbrev pub stretch : ℕ → ℕ → Stretch
stretch lo hi = record { from = lo; to = hi }

module _ (a b : ℕ) (s : Stretch) where
  -- where nothing passes, nothing is left
  pub narrowed_none :
      ((x : ℕ) → s.from ≤ x → x < s.to → passes a (x % b) ≡ true → ⊥) → Narrowed a b s (stretch 0 0)
  narrowed_none never =
      record {
        most = omega arith;
        down = λ x h k p. absurd (never x h k p);
        up = λ y h k. absurd (omega arith);
      }

module _ (a b : ℕ) (s : Stretch) (pos : 0 < b) where
  row : (y : ℕ) → (y + 1) * b ≡ y * b + b
  row y = add-mul y 1 b ∙ ap (λ (n : ℕ). y * b + n) (one-mul b)

  parts : (x : ℕ) → (x / b * b + x % b ≡ x) × (x % b < b)
  parts x = (div-add-mod' x b, mod-lt x pos)

  -- no field is asked: from the first number's unit to the last's
  module _ (some : s.from < s.to) (m : has a MATCH ≡ true) where
    lo : ℕ
    lo = s.from

    hi : ℕ
    hi = s.to - 1

    -- the first of the unit y, or the first of all
    any_up : (y : ℕ) → lo / b ≤ y → y < hi / b + 1 → (t : Bool) → leb lo (y * b) ≡ t
        → Some (λ x. (x / b ≡ y) × (passes a (x % b) ≡ true)) s.from s.to
    unfolding lo hi
    any_up y h k true t =
        let l = leb-true lo (y * b) t in
        let u = (le-div_iff_mul-le {k = b} {x = y} {y = hi} pos).0 (omega arith) in
        record {
          at = y * b;
          from = l;
          to = omega arith;
          holds = (div-eq_of_lt-le b (omega arith) (omega (arith, row y)), passes_any a (y * b % b) m);
        }
    any_up y h k false t =
        let l = leb-false lo (y * b) t in
        let u = (div-lt_iff_lt-mul {k = b} {x = lo} {y = y + 1} pos).0 (omega arith) in
        record {
          at = lo;
          from = omega arith;
          to = some;
          holds = (div-eq_of_lt-le b (omega arith) u, passes_any a (lo % b) m);
        }

    pub narrowed_any : Narrowed a b s (stretch (s.from / b) ((s.to - 1) / b + 1))
    unfolding lo hi
    narrowed_any =
        record {
          most = let h = (le-div_iff_mul-le {k = b} {x = hi / b} {y = s.to} pos).1 (omega (arith, div-mul-le_self hi b)) in omega arith;
          down =
              λ x h k p.
              let u = (le-div_iff_mul-le {k = b} {x = lo / b} {y = x} pos).1 (omega (arith, div-mul-le_self lo b)) in
              let v = (le-div_iff_mul-le {k = b} {x = x / b} {y = hi} pos).1 (omega (arith, div-mul-le_self x b)) in
              omega arith;
          up = λ y h k. any_up y h k (leb lo (y * b)) refl;
        }

  -- the number n is asked
  module _ (n : ℕ) (k : Asks a n) (small : b ≤ 60) (below : n < b) (m : has a MATCH ≡ false) where
    abbrev slack : ℕ
    slack = b - 1 - n

    one_down :
        (x : ℕ) → s.from ≤ x → x < s.to → passes a (x % b) ≡ true
        → ((s.from + slack) / b ≤ x / b) × (x / b < (s.to + slack) / b)
    one_down x h l p =
        let d = parts x in
        let r = row (x / b) in
        let e = passes_one a n (x % b) k (omega arith) m p in
        let u = (div-lt_iff_lt-mul {k = b} {x = s.from + slack} {y = x / b + 1} pos).1 (omega arith) in
        let v = (le-div_iff_mul-le {k = b} {x = x / b + 1} {y = s.to + slack} pos).1 (omega arith) in
        omega arith

    one_up :
        (y : ℕ) → (s.from + slack) / b ≤ y → y < (s.to + slack) / b
        → Some (λ x. (x / b ≡ y) × (passes a (x % b) ≡ true)) s.from s.to
    one_up y h l =
        let r = row y in
        let u = (div-lt_iff_lt-mul {k = b} {x = s.from + slack} {y = y + 1} pos).0 (omega arith) in
        let v = (le-div_iff_mul-le {k = b} {x = y + 1} {y = s.to + slack} pos).0 (omega arith) in
        let e : (y * b + n) / b ≡ y = div-eq_of_lt-le b (omega arith) (omega arith) in
        let d = parts (y * b + n) in
        let f : (y * b + n) % b ≡ n = omega (arith, ap (λ (z : ℕ). z * b) e) in
        record {
          at = y * b + n;
          from = omega arith;
          to = omega arith;
          holds = (e, one_passes a n ((y * b + n) % b) k (omega arith) f);
        }

    pub narrowed_one : Narrowed a b s (stretch ((s.from + slack) / b) ((s.to + slack) / b))
    narrowed_one =
        record {
          most =
              let r = row (s.to / b + 1) in
              let r' = row (s.to / b) in
              let d = parts s.to in
              let u = (div-lt_iff_lt-mul {k = b} {x = s.to + slack} {y = s.to / b + 1 + 1} pos).1 (omega arith) in
              omega arith;
          down = one_down;
          up = one_up;
        }

-- the end's unit and one more fit where the end does
pub unit_below : (x b : ℕ) → 0 < b → (x - 1) / b ≤ x
unit_below x b h = omega (arith, div-le_self (x - 1) b)

-- what the narrowing of a stretch rests on
pub ruleset narrowing = (passes_one, narrowed_none, narrowed_any, narrowed_one, unit_below)
