-- SPDX-License-Identifier: Apache-2.0
-- Where a valid calendar stands in its century of 1,200 months, 36,525 days and 3,155,760,000 seconds. By this place
-- the laws say what 01, Ticks, alarm, power, calls "the next second". All definitions are auxiliary.
--
--   month_start k     how many days of the century are before its month k, counted from 0
--   month_index c     which month of the century c is in, counted from 0
--   day_number c      which day of the century c is in, counted from 0
--   time_of c         the seconds of the day
--   instant c        the seconds since 00:00:00 on 01/01/00
--
use Rattle.std.specs.Prelude.{ℕ, zero, suc, ◌+◌, ◌*◌, ◌-◌, ◌/◌, ◌%◌}
use Rattle.calendar.specs.Field.{value}
use Rattle.calendar.specs.Month.{month_length}
use Rattle.calendar.specs.declared.Calendar.{Calendar}

-- each month starts where the one before it ends
unfoldable pub month_start : ℕ → ℕ
month_start zero = 0
month_start (suc k) = month_start k + month_length (k % 12 + 1) (k / 12)

abbrev pub month_index : Calendar → ℕ
month_index c = 12 * value c.year + (value c.month - 1)

abbrev pub day_number : Calendar → ℕ
day_number c = month_start (month_index c) + (value c.date - 1)

abbrev pub time_of : Calendar → ℕ
time_of c = (value c.hours * 60 + value c.minutes) * 60 + value c.seconds

abbrev pub instant : Calendar → ℕ
instant c = day_number c * 86400 + time_of c
