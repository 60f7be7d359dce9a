-- SPDX-License-Identifier: Apache-2.0
-- The place of a valid calendar in its century, and that no two dates and times have one place. Months follow each
-- other without a gap, so a day is in one month alone. The date is then what is left of the day, the clock what is left
-- of the second; and a byte of two decimal digits is settled by its number.
use mathlib.Core.Path.{◌≡◌, refl, sym, ap, subst}
use mathlib.Core.Bool.{Bool, true, false}
use Prim.Native.Nat.{ℕ, zero, suc, ◌+◌, ◌*◌, ◌-◌, ◌≤◌, ◌<◌}
use native.Mathlib.Omega.{arith}
use native.Mathlib.Nat.{add-zero}
use lib.Dec.{ltb}
use borrow.Author.Tests.{ltb-true, ltb-false}
use Rattle.calendar.specs.Field.{value}
use Rattle.calendar.specs.Next.{length_of}
use Rattle.calendar.specs.Instant.{month_start, month_index, day_number, time_of, instant}
use Rattle.calendar.specs.declared.Calendar.{Calendar}
use Rattle.calendar.proofs.Field.{InField}
use Rattle.calendar.proofs.Valid.{Valid}
use Rattle.calendar.proofs.Instant.{month_start_next, month_start_century}
use Rattle.law_century.specs.Century.{DateAndTime, date_and_time}

month_start_rising : (k n : ℕ) → month_start k ≤ month_start (k + n)
unfolding month_start
month_start_rising k zero = rw add-zero (omega arith)
month_start_rising k (suc n) =
    let e : k + suc n ≡ suc (k + n) = omega arith in
    rw e (omega (arith, month_start_rising k n))

-- a month starts no earlier than one before it ends
pub month_start_before : (j k : ℕ) → j < k → month_start (j + 1) ≤ month_start k
month_start_before j k h =
    let e : k ≡ j + 1 + (k - (j + 1)) = omega arith in
    subst (λ (n : ℕ). month_start (j + 1) ≤ month_start n) (sym e) (month_start_rising (j + 1) (k - (j + 1)))

module _ (c : Calendar) (v : Valid c) where
  index_below : month_index c < 1200
  index_below = omega (arith, v.month.most, v.year.most)

  month_ends : month_start (month_index c + 1) ≡ month_start (month_index c) + length_of c
  month_ends =
      month_start_next (month_index c) (value c.month) (value c.year) refl v.month.least v.month.most

  pub day_below : day_number c < 36525
  day_below =
      omega (
        arith,
        month_start_before (month_index c) 1200 index_below,
        month_start_century,
        month_ends,
        v.date.least,
        v.date.most,
      )

  pub time_below : time_of c < 86400
  time_below = omega (arith, v.seconds.most, v.minutes.most, v.hours.most)

  pub instant_below : instant c < 3155760000
  instant_below = omega (arith, day_below, time_below)

-- equal day numbers are of one month
same_month :
    (j k a b l m : ℕ) → month_start j + a ≡ month_start k + b → a < l → b < m
    → month_start (j + 1) ≡ month_start j + l → month_start (k + 1) ≡ month_start k + m → j ≡ k
same_month j k a b l m e ha hb hj hk = by_order (ltb j k) (ltb k j) refl refl
  where
    by_order : (s t : Bool) → ltb j k ≡ s → ltb k j ≡ t → j ≡ k
    by_order true t p q = omega (arith, month_start_before j k (ltb-true j k p))
    by_order false true p q = omega (arith, month_start_before k j (ltb-true k j q))
    by_order false false p q = omega (arith, ltb-false j k p, ltb-false k j q)

-- a byte is settled by its number
pub settled : {low top low' top' : ℕ} (x y : ℕ) → InField low top x → InField low' top' y → value x ≡ value y → x ≡ y
settled x y f g e = omega (arith, f.digit, g.digit)

-- a time of day is settled by its seconds, and a second of the century by its day and time
same_clock :
    (s m h s' m' h' : ℕ) → s < 60 → m < 60 → s' < 60 → m' < 60
    → (h * 60 + m) * 60 + s ≡ (h' * 60 + m') * 60 + s' → (s ≡ s') × (m ≡ m') × (h ≡ h')
same_clock s m h s' m' h' a b a' b' e =
    let p : h * 60 + m ≡ h' * 60 + m' = omega arith in
    omega arith

same_parts : (d t d' t' : ℕ) → t < 86400 → t' < 86400 → d * 86400 + t ≡ d' * 86400 + t' → (d ≡ d') × (t ≡ t')
same_parts d t d' t' h h' e = omega arith

module _ (c d : Calendar) (v : Valid c) (w : Valid d) (e : instant c ≡ instant d) where
  parts : (day_number c ≡ day_number d) × (time_of c ≡ time_of d)
  parts = same_parts (day_number c) (time_of c) (day_number d) (time_of d) (time_below c v) (time_below d w) e

  months : month_index c ≡ month_index d
  months =
      same_month (month_index c) (month_index d) (value c.date - 1) (value d.date - 1) (length_of c) (length_of d)
      parts.0
      (omega (arith, v.date.least, v.date.most)) (omega (arith, w.date.least, w.date.most))
      (month_ends c v) (month_ends d w)

  same_time_of_day : (c.seconds ≡ d.seconds) × (c.minutes ≡ d.minutes) × (c.hours ≡ d.hours)
  same_time_of_day =
      let k =
      same_clock (value c.seconds) (value c.minutes) (value c.hours)
      (value d.seconds) (value d.minutes) (value d.hours)
      (omega (arith, v.seconds.most)) (omega (arith, v.minutes.most))
      (omega (arith, w.seconds.most)) (omega (arith, w.minutes.most)) parts.1 in (
        settled c.seconds d.seconds v.seconds w.seconds k.0,
        settled c.minutes d.minutes v.minutes w.minutes k.1,
        settled c.hours d.hours v.hours w.hours k.2,
      )

  same_date : (c.date ≡ d.date) × (c.month ≡ d.month) × (c.year ≡ d.year)
  same_date =
      let y : value c.year ≡ value d.year =
      omega (arith, months, v.month.least, v.month.most, w.month.least, w.month.most) in
      let m : value c.month ≡ value d.month = omega (arith, months, v.month.least, w.month.least) in
      let p = ap month_start months in
      let a : value c.date ≡ value d.date = omega (arith, parts.0, v.date.least, w.date.least) in (
        settled c.date d.date v.date w.date a,
        settled c.month d.month v.month w.month m,
        settled c.year d.year v.year w.year y,
      )

  pub same_time : date_and_time c ≡ date_and_time d
  same_time =
      λ i. record {
        seconds = same_time_of_day.0 i;
        minutes = same_time_of_day.1 i;
        hours = same_time_of_day.2 i;
        date = same_date.0 i;
        month = same_date.1 i;
        year = same_date.2 i;
      }

-- a calendar from its two parts
abbrev pub with_day : DateAndTime → ℕ → Calendar
with_day t day =
    record {
      seconds = t.seconds;
      minutes = t.minutes;
      hours = t.hours;
      day = day;
      date = t.date;
      month = t.month;
      year = t.year;
    }

pub same_instant : (c d : Calendar) → date_and_time c ≡ date_and_time d → instant c ≡ instant d
same_instant c d e = ap (λ (t : DateAndTime). instant (with_day t 0)) e

pub same_calendar : (c d : Calendar) → date_and_time c ≡ date_and_time d → c.day ≡ d.day → c ≡ d
same_calendar c d e f = λ i. with_day (e i) (f i)
