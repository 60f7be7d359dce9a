-- SPDX-License-Identifier: Apache-2.0
-- Months in a row. Four years are 48 months and 1,461 days, whatever the years are; so a century later months start
-- 36,525 days later, and a month's start stays near its even share of the days. How near is computed for 48 months. So
-- the month of a day is the one of its share, or the one before; and it is one month alone.
use mathlib.Core.Path.{◌≡◌, refl, sym, ◌∙◌, ap, subst}
use mathlib.Core.Bool.{Bool, true, false, ◌&&◌}
use Prim.Native.Nat.{ℕ, zero, suc, ◌+◌, ◌*◌, ◌-◌, ◌/◌, ◌%◌, ◌≤◌, ◌<◌}
use native.Mathlib.Omega.{arith}
use native.Mathlib.Nat.{suc-add}
use lib.Dec.{T, ltb, leb, eqb, leb→le}
use borrow.Author.Tests.{ltb-true, ltb-false, eqb-true, eqb-false}
use Rattle.calendar.specs.Month.{month_length}
use Rattle.calendar.specs.Instant.{month_start}
use Rattle.calendar.proofs.Tests.{and_left, and_right}
use Rattle.calendar.proofs.Month.{month_length_limits}
use Rattle.calendar.proofs.Instant.{month_start_next, month_start_first}
use Rattle.law_century.proofs.Instants.{month_start_before}
use Rattle.calendar_days.specs.Code.Places.{InMonth, StandsIn}

-- four years are one leap cycle
month_length_cycle : (m y : ℕ) → month_length m (y + 4) ≡ month_length m y
unfolding month_length
month_length_cycle m y =
    let e : (y + 4) % 4 ≡ y % 4 = omega arith in
    rw e

cycle_first : month_start (0 + 48) ≡ month_start 0 + 1461
unfolding month_start month_length
cycle_first = refl

month_start_cycle : (k : ℕ) → month_start (k + 48) ≡ month_start k + 1461
unfolding month_start
month_start_cycle zero = cycle_first
month_start_cycle (suc k) =
    let m : (k + 48) % 12 ≡ k % 12 = omega arith in
    let y : (k + 48) / 12 ≡ k / 12 + 4 = omega arith in
    rw (suc-add, m, y, month_length_cycle (k % 12 + 1) (k / 12)) (omega (arith, month_start_cycle k))

month_start_cycles : (q k : ℕ) → month_start (k + 48 * q) ≡ month_start k + 1461 * q
month_start_cycles zero k =
    let e : k + 48 * 0 ≡ k = omega arith in
    rw e (omega arith)
month_start_cycles (suc q) k =
    let e : k + 48 * suc q ≡ k + 48 * q + 48 = omega arith in
    let f = ap month_start e ∙ month_start_cycle (k + 48 * q) in
    omega (arith, month_start_cycles q k)

-- a century later
pub month_start_later : (k : ℕ) → month_start (k + 1200) ≡ month_start k + 36525
month_start_later k = month_start_cycles 25 k

-- a month of this century or the next, by its place in its century
pub month_start_wrap : (k : ℕ) → k < 2400 → month_start k ≡ month_start (k % 1200) + 36525 * (k / 1200)
month_start_wrap k h = by_century (ltb k 1200) refl
  where
    by_century : (b : Bool) → ltb k 1200 ≡ b → month_start k ≡ month_start (k % 1200) + 36525 * (k / 1200)
    by_century true e =
        let l = ltb-true k 1200 e in
        let r : k % 1200 ≡ k = omega arith in
        rw r (omega arith)
    by_century false e =
        let l = ltb-false k 1200 e in
        let r : k ≡ k % 1200 + 1200 = omega arith in
        let s = ap month_start r ∙ month_start_later (k % 1200) in
        omega arith

-- near its even share of the days: computed for the months of one cycle
abbrev is_near : ℕ → Bool
is_near k = leb (48 * month_start k) (1461 * k + 63) && leb (1461 * k) (48 * month_start k + 78)

abbrev are_near : ℕ → Bool
are_near zero = true
are_near (suc k) = is_near k && are_near k

cycle_near : T (are_near 48)
unfolding month_start month_length
cycle_near = tt

near_or : (n k : ℕ) → T (is_near n) → (k < n → T (is_near k)) → k < suc n → (b : Bool) → eqb k n ≡ b → T (is_near k)
near_or n k t earlier h true e = subst (λ (j : ℕ). T (is_near j)) (sym (eqb-true k n e)) t
near_or n k t earlier h false e =
    let d = eqb-false k n e in
    earlier (omega arith)

near_below : (n k : ℕ) → T (are_near n) → k < n → T (is_near k)
near_below zero k t h = absurd (omega arith)
near_below (suc n) k t h =
    near_or n k (and_left (is_near n) (are_near n) t) (λ l. near_below n k (and_right (is_near n) (are_near n) t) l) h
    (eqb k n) refl

pub month_start_near : (k : ℕ) → (48 * month_start k ≤ 1461 * k + 63) × (1461 * k ≤ 48 * month_start k + 78)
month_start_near k =
    let r = k % 48 in
    let e : k ≡ r + 48 * (k / 48) = omega arith in
    let s = ap month_start e ∙ month_start_cycles (k / 48) r in
    let t = near_below 48 r cycle_near (omega arith) in
    let u = leb→le (48 * month_start r) (1461 * r + 63) (and_left (leb (48 * month_start r) (1461 * r + 63)) _ t) in
    let l = leb→le (1461 * r) (48 * month_start r + 78) (and_right (leb (48 * month_start r) (1461 * r + 63)) _ t) in
    (omega arith, omega arith)

-- the month of a day's share
abbrev pub share_of : ℕ → ℕ
share_of d = (48 * d + 78) / 1461

module _ (d : ℕ) (h : d < 73000) where
  pub in_share : month_start (share_of d) ≤ d → InMonth d (share_of d)
  in_share l =
      let n = month_start_near (share_of d + 1) in
      record { known = omega arith; from = l; to = omega arith }

  -- it is not the first month, which starts on day 0
  pub share_some : d < month_start (share_of d) → 1 ≤ share_of d
  share_some l = by_share (eqb (share_of d) 0) refl
    where
      by_share : (b : Bool) → eqb (share_of d) 0 ≡ b → 1 ≤ share_of d
      by_share true e = omega (arith, ap month_start (eqb-true (share_of d) 0 e), month_start_first)
      by_share false e =
          let n = eqb-false (share_of d) 0 e in
          omega arith

  pub before_share : d < month_start (share_of d) → InMonth d (share_of d - 1)
  before_share l =
      let s = share_some l in
      let n = month_start_near (share_of d - 1) in
      let e : share_of d ≡ share_of d - 1 + 1 = omega arith in
      record { known = omega arith; from = omega arith; to = subst (λ (k : ℕ). d < month_start k) e l }

-- a day's place in its month, by the start that the table has
pub stands_found : (d k start : ℕ) → InMonth d k → start ≡ month_start k → StandsIn d (record { month = k; past = d - start })
stands_found d k start t e = record { in_month = t; past = ap (λ (n : ℕ). d - n) e }

pub record MonthOf (d : ℕ) : Type 0 where
  pub index : ℕ
  pub in_month : InMonth d index

pub month_exists : (d : ℕ) → d < 73000 → MonthOf d
month_exists d h = by_share (ltb d (month_start (share_of d))) refl
  where
    by_share : (b : Bool) → ltb d (month_start (share_of d)) ≡ b → MonthOf d
    by_share true e =
        record { index = share_of d - 1; in_month = before_share d h (ltb-true d (month_start (share_of d)) e) }
    by_share false e = record { index = share_of d; in_month = in_share d h (ltb-false d (month_start (share_of d)) e) }

-- a day is in one month alone
pub in_month_unique : (d j k : ℕ) → InMonth d j → InMonth d k → j ≡ k
in_month_unique d j k m n = by_order (ltb j k) (ltb k j) refl refl
  where
    by_order : (s t : Bool) → ltb j k ≡ s → ltb k j ≡ t → j ≡ k
    by_order true t p q = omega (arith, month_start_before j k (ltb-true j k p), m.to, n.from)
    by_order false true p q = omega (arith, month_start_before k j (ltb-true k j q), n.to, m.from)
    by_order false false p q = omega (arith, ltb-false j k p, ltb-false k j q)

-- a month's first day is in it
pub month_first : (k : ℕ) → k < 2400 → InMonth (month_start k) k
month_first k h =
    let e = month_start_next k (k % 12 + 1) (k / 12) (omega arith) (omega arith) (omega arith) in
    let l = month_length_limits (k % 12 + 1) (k / 12) (omega arith) (omega arith) in
    record { known = h; from = omega arith; to = omega arith }

-- a day well before the end is not in the last month
pub month_not_last : (d k : ℕ) → InMonth d k → d < 73000 → k < 2399
month_not_last d k m h = omega (arith, (month_start_near k).1, m.from)

-- no day of these months is beyond the end of them
pub month_start_most : (k : ℕ) → k < 2400 → month_start k < 73100
month_start_most k h = omega (arith, (month_start_near k).0)

-- what the month of a day rests on
pub ruleset placing = (in_share, share_some, before_share, stands_found)
