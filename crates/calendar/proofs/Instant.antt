-- SPDX-License-Identifier: Apache-2.0
-- The tick of a valid calendar moves its place in the century on by one second, the last second going to the first.
-- A month starts where the one before it ends, and the century has 36,525 days. So midnight moves the day number on
-- by one: within a month by the date's own sum, at its end by the month's length. The sums of seconds, minutes and
-- hours then give the second.
use mathlib.Core.Path.{◌≡◌, refl, ap}
use mathlib.Core.Bool.{Bool, true, false}
use Prim.Native.Nat.{ℕ, ◌+◌, ◌*◌, ◌-◌, ◌/◌, ◌%◌, ◌≤◌, ◌<◌}
use native.Mathlib.Omega.{arith}
use native.Mathlib.Numerals.{add-one}
use Rattle.calendar.specs.Field.{value, bit}
use Rattle.calendar.specs.Month.{month_length}
use Rattle.calendar.specs.Next.{length_of, tick_of, hours_of, date_of, year_of}
use Rattle.calendar.specs.Instant.{month_start, month_index, day_number, instant}
use Rattle.calendar.specs.declared.Calendar.{Calendar}
use Rattle.calendar.proofs.Field.{bit_le}
use Rattle.calendar.proofs.Valid.{Valid}
use Rattle.calendar.proofs.Tick.{Ticked, tick_ticked, tick_same_month}

-- the start of the month after month m of year y, whose index is k
pub month_start_next :
    (k m y : ℕ) → k ≡ 12 * y + (m - 1) → 1 ≤ m → m ≤ 12
    → month_start (k + 1) ≡ month_start k + month_length m y
unfolding month_start
month_start_next k m y e h l =
    let a : k % 12 + 1 ≡ m = omega arith in
    let b : k / 12 ≡ y = omega arith in
    rw (add-one, ← a, ← b)

pub month_start_first : month_start 0 ≡ 0
unfolding month_start
month_start_first = refl

pub month_start_century : month_start 1200 ≡ 36525
unfolding month_start month_length
month_start_century = refl

-- from month i to the next, j, where d says that the century's last month goes to its first
month_start_turn :
    (d : Bool) (i j l : ℕ) → i < 1200 → j + 1200 * bit d ≡ i + 1
    → month_start (i + 1) ≡ month_start i + l → month_start j + 36525 * bit d ≡ month_start i + l
month_start_turn false i j l h e s =
    let k : j ≡ i + 1 = omega arith in
    rw k (omega arith)
month_start_turn true i j l h e s =
    let k : j ≡ 0 = omega arith in
    let n : i + 1 ≡ 1200 = omega arith in
    let w : month_start (i + 1) ≡ 36525 = rw n month_start_century in
    rw k (omega (arith, month_start_first))

module _ (c : Calendar) (v : Valid c) where
  t : Ticked c
  t = tick_ticked c v

  -- the month's index goes one up with the date's carry, and from the last back to 0
  tick_month_index :
      (date_of c).carry ≡ true
      → month_index (tick_of c).calendar + 1200 * bit (year_of c).carry ≡ month_index c + 1
  unfolding tick_of
  tick_month_index e =
      let z : bit (date_of c).carry ≡ 1 = ap bit e in
      omega (arith, t.month.sum, t.month.field.least, t.year.sum, v.month.least)

  -- a date that carries on was its month's last, and is 1
  tick_date_turn :
      (date_of c).carry ≡ true
      → (value c.date ≡ length_of c) × (value (date_of c).byte ≡ 1) × (bit (hours_of c).carry ≡ 1)
  tick_date_turn e =
      let z : bit (date_of c).carry ≡ 1 = ap bit e in
      let p = ap (λ (n : ℕ). (length_of c + 1) * n) z in
      omega (arith, t.date.sum, t.date.field.least, v.date.most, bit_le (hours_of c).carry)

  -- the century's last midnight takes the day number back to 0, every other one moves it on
  tick_day_number :
      (b : Bool) → (date_of c).carry ≡ b
      → day_number (tick_of c).calendar + 36525 * bit (year_of c).carry ≡ day_number c + bit (hours_of c).carry
  unfolding tick_of
  tick_day_number false e =
      let z : bit (date_of c).carry ≡ 0 = ap bit e in
      let w : bit (year_of c).carry ≡ 0 = omega (arith, t.month.less, t.year.less) in
      let p = ap (λ (n : ℕ). length_of c * n) z in
      let s = tick_same_month c v e in
      rw (s.0, s.1) (omega (arith, t.date.sum, v.date.least))
  tick_day_number true e =
      let x = tick_date_turn e in
      let i = month_index c in
      let m = v.month in
      let s = month_start_next i (value c.month) (value c.year) refl m.least m.most in
      let h : month_index c < 1200 = omega (arith, m.most, v.year.most) in
      let j = month_index (tick_of c).calendar in
      let r = month_start_turn (year_of c).carry i j (length_of c) h (tick_month_index e) s in
      omega (arith, x.0, x.1, x.2, v.date.least)

  pub tick_instant : instant (tick_of c).calendar + 3155760000 * bit (tick_of c).century ≡ instant c + 1
  unfolding tick_of
  tick_instant =
      omega (arith, tick_day_number (date_of c).carry refl, t.seconds.sum, t.minutes.sum, t.hours.sum)
