-- SPDX-License-Identifier: Apache-2.0
-- A calendar put right. 02, number 14: "each field that is out of range on its own goes to its lowest legal figure, then a
-- date beyond its month's end goes to the last day".
--
--   mended_field low top x   a field within its limits as it is, any other at its least number
--   ranged_of c              each field by itself
--   clipped_date n x         a date as it is, or the last day of a month of n days
--   mended_of c              the calendar put right
--
use Rattle.std.specs.Prelude.{ℕ, cond, leb}
use Rattle.calendar.specs.Field.{value, bcd, in_field}
use Rattle.calendar.specs.Next.{length_of}
use Rattle.calendar.specs.declared.Calendar.{Calendar}

-- "Out of range on its own goes to its lowest legal figure": low is one digit, so it is its own byte
abbrev pub mended_field : ℕ → ℕ → ℕ → ℕ
mended_field low top x = cond (in_field low top x) x low

-- "Each field .. on its own", with the limits of a valid core; a date by itself is 1 to 31
unfoldable pub ranged_of : Calendar → Calendar
ranged_of c =
    record {
      seconds = mended_field 0 59 c.seconds;
      minutes = mended_field 0 59 c.minutes;
      hours = mended_field 0 23 c.hours;
      day = mended_field 1 7 c.day;
      date = mended_field 1 31 c.date;
      month = mended_field 1 12 c.month;
      year = mended_field 0 99 c.year;
    }

-- "A date beyond its month's end goes to the last day"
abbrev pub clipped_date : ℕ → ℕ → ℕ
clipped_date n x = cond (leb (value x) n) x (bcd n)

-- "Then": the month's end is that of month and year as they were put right
unfoldable pub mended_of : Calendar → Calendar
mended_of c =
    let r = ranged_of c in
    record {
      seconds = r.seconds;
      minutes = r.minutes;
      hours = r.hours;
      day = r.day;
      date = clipped_date (length_of r) r.date;
      month = r.month;
      year = r.year;
    }
