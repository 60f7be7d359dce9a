-- SPDX-License-Identifier: Apache-2.0
-- The calendar at a second. Seconds, days and months are counted from the century's start and on into the next century,
-- so that no stretch of time is cut where the century ends. All definitions are auxiliary.
--
--   InMonth d k        the day d is in the month k
--   day_of_second i      the day that the second i is in
--   calendar_at i k w   the calendar at the second i, its day being in the month k and the day w of the week
--   PlacedAt i w c     c is that calendar, for the month that the second's day is in
--   moment_of c         where a valid calendar stands: its month, its day, the second of that day
--   Standing m         m is such a place
--   StandsIn d p       p is the month that the day d is in, with its days before d
--
use Rattle.std.specs.Prelude.{◌≡◌, ℕ, ◌+◌, ◌-◌, ◌/◌, ◌%◌, ◌≤◌, ◌<◌}
use Rattle.calendar.specs.Field.{bcd}
use Rattle.calendar.specs.Instant.{month_start, month_index, day_number, time_of}
use Rattle.calendar.specs.declared.Calendar.{Calendar}
use Rattle.calendar_days.specs.declared.places.Moment.{Moment}
use Rattle.calendar_days.specs.declared.starts.Place.{Place}

pub record InMonth (d k : ℕ) : Type 0 where
  pub known : k < 2400
  pub from : month_start k ≤ d
  pub to : d < month_start (k + 1)

abbrev pub day_of_second : ℕ → ℕ
day_of_second i = i / 60 / 60 / 24

unfoldable pub calendar_at : ℕ → ℕ → ℕ → Calendar
calendar_at i k w =
    record {
      seconds = bcd (i % 60);
      minutes = bcd (i / 60 % 60);
      hours = bcd (i / 60 / 60 % 24);
      day = w;
      date = bcd (day_of_second i - month_start k + 1);
      month = bcd (k % 12 + 1);
      year = bcd (k / 12 % 100);
    }

pub record PlacedAt (i w : ℕ) (c : Calendar) : Type 0 where
  pub index : ℕ
  pub in_month : InMonth (day_of_second i) index
  pub is : c ≡ calendar_at i index w

abbrev pub moment_of : Calendar → Moment
moment_of c = record { month = month_index c; day = day_number c; second = time_of c }

pub record Standing (m : Moment) : Type 0 where
  pub month : month_start m.month ≤ m.day
  pub day : m.day < 36525
  pub second : m.second < 86400

pub record StandsIn (d : ℕ) (p : Place) : Type 0 where
  pub in_month : InMonth d p.month
  pub past : p.past ≡ d - month_start p.month
