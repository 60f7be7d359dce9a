-- SPDX-License-Identifier: Apache-2.0
-- The tick of a valid calendar: what it does to each field, and that the outcome is valid.
-- Each field is one step, so the law of a step gives it its limits again. The date alone is held to another limit,
-- the length of the month after the tick: where the date carries on it is 1, and where it does not, month and year
-- are as they were.
use mathlib.Core.Path.{◌≡◌, refl, ap}
use mathlib.Core.Bool.{Bool, true, false, not, cond}
use Prim.Native.Nat.{ℕ, ◌+◌, ◌*◌}
use native.Mathlib.Omega.{arith}
use lib.Dec.{lit<}
use Rattle.calendar.specs.Field.{value, bit, step_of}
use Rattle.calendar.specs.Highest.{changed_of, highest_of}
use Rattle.calendar.specs.Next.{length_of, later_of, tick_of, seconds_of, minutes_of, hours_of, day_of, date_of, month_of, year_of}
use Rattle.calendar.specs.declared.fields.Carried.{Carried}
use Rattle.calendar.specs.declared.Calendar.{Calendar}
use Rattle.calendar.specs.declared.Advanced.{Advanced}
use Rattle.calendar.specs.declared.Rolled.{Rolled}
use Rattle.calendar.proofs.Field.{InField, Stepped, step_stepped, step_same, bit_le}
use Rattle.calendar.proofs.Month.{month_length_limits}
use Rattle.calendar.proofs.Valid.{Valid}

-- what the tick does to each field
pub record Ticked (c : Calendar) : Type 0 where
  pub seconds : Stepped 0 59 true c.seconds (seconds_of c)
  pub minutes : Stepped 0 59 (seconds_of c).carry c.minutes (minutes_of c)
  pub hours : Stepped 0 23 (minutes_of c).carry c.hours (hours_of c)
  pub day : Stepped 1 7 (hours_of c).carry c.day (day_of c)
  pub date : Stepped 1 (length_of c) (hours_of c).carry c.date (date_of c)
  pub month : Stepped 1 12 (date_of c).carry c.month (month_of c)
  pub year : Stepped 0 99 (month_of c).carry c.year (year_of c)

pub tick_ticked : (c : Calendar) → Valid c → Ticked c
tick_ticked c v =
    record {
      seconds = step_stepped 0 59 c.seconds (lit< tt) v.seconds true;
      minutes = step_stepped 0 59 c.minutes (lit< tt) v.minutes (seconds_of c).carry;
      hours = step_stepped 0 23 c.hours (lit< tt) v.hours (minutes_of c).carry;
      day = step_stepped 1 7 c.day (lit< tt) v.day (hours_of c).carry;
      date = step_stepped 1 (length_of c) c.date (lit< tt) v.date (hours_of c).carry;
      month = step_stepped 1 12 c.month (lit< tt) v.month (date_of c).carry;
      year = step_stepped 0 99 c.year (lit< tt) v.year (month_of c).carry;
    }

module _ (c : Calendar) (v : Valid c) where
  t : Ticked c
  t = tick_ticked c v

  -- month and year move only with the date's carry
  pub tick_same_month :
      (date_of c).carry ≡ false
      → (value (month_of c).byte ≡ value c.month) × (value (year_of c).byte ≡ value c.year)
  tick_same_month e =
      let z : bit (date_of c).carry ≡ 0 = ap bit e in
      (omega (arith, t.month.sum, t.month.less), omega (arith, t.month.less, t.year.sum, t.year.less))

  tick_date : (b : Bool) → (date_of c).carry ≡ b → InField 1 (length_of (tick_of c).calendar) (date_of c).byte
  unfolding tick_of
  tick_date true e =
      let z : bit (date_of c).carry ≡ 1 = ap bit e in
      let p = ap (λ (n : ℕ). (length_of c + 1) * n) z in
      let m = t.month.field in
      let l = month_length_limits (value (month_of c).byte) (value (year_of c).byte) m.least m.most in
      record {
        digit = t.date.field.digit;
        least = t.date.field.least;
        most = omega (arith, t.date.sum, v.date.most, bit_le (hours_of c).carry);
      }
  tick_date false e = rw ((tick_same_month e).0, (tick_same_month e).1) t.date.field

  pub tick_valid : Valid (tick_of c).calendar
  unfolding tick_of
  tick_valid =
      record {
        seconds = t.seconds.field;
        minutes = t.minutes.field;
        hours = t.hours.field;
        day = t.day.field;
        date = tick_date (date_of c).carry refl;
        month = t.month.field;
        year = t.year.field;
      }

-- the field that the tick says, by its carries, is the highest that changed: each field changes exactly with a carry
cond_not : {A : Type 0} (t : Bool) (x y : A) → cond (not t) x y ≡ cond t y x
cond_not true x y = refl
cond_not false x y = refl

pub tick_rolled : (c : Calendar) → Valid c
    → highest_of (seconds_of c).carry (minutes_of c).carry (hours_of c).carry (date_of c).carry (month_of c).carry
    ≡ changed_of c (later_of c)
unfolding highest_of changed_of
tick_rolled c v =
    let l = month_length_limits (value c.month) (value c.year) v.month.least v.month.most in
    rw (
      step_same 0 99 c.year (lit< tt) v.year (lit< tt) (month_of c).carry,
      step_same 1 12 c.month (lit< tt) v.month (lit< tt) (date_of c).carry,
      step_same 1 (length_of c) c.date (lit< tt) v.date (omega arith) (hours_of c).carry,
      step_same 0 23 c.hours (lit< tt) v.hours (lit< tt) (minutes_of c).carry,
      step_same 0 59 c.minutes (lit< tt) v.minutes (lit< tt) (seconds_of c).carry,
      step_same 0 59 c.seconds (lit< tt) v.seconds (lit< tt) true,
    ) (simp cond_not)

-- an advanced calendar from its seven stepped fields, and what it says
abbrev pub advanced_of : (seconds minutes hours day date month year : Carried) → Rolled → Advanced
advanced_of seconds minutes hours day date month year rolled =
    record {
      calendar =
          record {
            seconds = seconds.byte;
            minutes = minutes.byte;
            hours = hours.byte;
            day = day.byte;
            date = date.byte;
            month = month.byte;
            year = year.byte;
          };
      century = year.carry;
      rolled = rolled;
    }

-- the seven steps, as they come one by one, are the tick
pub tick_of_steps :
    (c : Calendar) {length : ℕ} {seconds minutes hours day date month year : Carried} {rolled : Rolled}
    → Valid c
    → length ≡ length_of c
    → seconds ≡ step_of 0 59 true c.seconds
    → minutes ≡ step_of 0 59 seconds.carry c.minutes
    → hours ≡ step_of 0 23 minutes.carry c.hours
    → day ≡ step_of 1 7 hours.carry c.day
    → date ≡ step_of 1 length hours.carry c.date
    → month ≡ step_of 1 12 date.carry c.month
    → year ≡ step_of 0 99 month.carry c.year
    → rolled ≡ highest_of seconds.carry minutes.carry hours.carry date.carry month.carry
    → advanced_of seconds minutes hours day date month year rolled ≡ tick_of c
unfolding tick_of
tick_of_steps c v e f g h i j k l r = cc (tick_rolled c v)
