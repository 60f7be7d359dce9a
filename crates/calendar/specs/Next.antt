-- SPDX-License-Identifier: Apache-2.0
-- Which calendars are valid, and what a tick makes of a calendar. 01, Ticks, alarm, power.
--
--   length_of c             how many days the month of c has
--   is_valid c              c is a date and a time that exist
--   seconds_of .. year_of    each field after the tick of a valid calendar, with its carry
--   later_of c              the next second of a valid calendar
--   tick_of c               the tick of a valid calendar
--   next_of c               the tick of any calendar
--
use Rattle.std.specs.Prelude.{ℕ, Bool, true, false, ◌&&◌}
use Rattle.calendar.specs.Field.{value, in_field, step_of}
use Rattle.calendar.specs.Month.{month_length}
use Rattle.calendar.specs.Highest.{changed_of}
use Rattle.calendar.specs.declared.fields.Carried.{Carried}
use Rattle.calendar.specs.declared.Calendar.{Calendar}
use Rattle.calendar.specs.declared.Advanced.{Advanced}
use Rattle.calendar.specs.declared.Rolled.TheVariants.{Nothing}

-- Auxiliary: the length of the calendar's own month
abbrev pub length_of : Calendar → ℕ
length_of c = month_length (value c.month) (value c.year)

-- 01, Ticks, alarm, power: "A valid core: BCD digits; seconds and minutes to 59, hours to 23, day 1 to 7, month 1 to
-- 12, year 00 to 99, date 1 to the month's length"
unfoldable pub is_valid : Calendar → Bool
is_valid c =
    in_field 0 59 c.seconds && in_field 0 59 c.minutes && in_field 0 23 c.hours && in_field 1 7 c.day
    && in_field 1 (length_of c) c.date && in_field 1 12 c.month && in_field 0 99 c.year

-- 01, Ticks, alarm, power: "goes to the next second", field by field from the seconds up
abbrev pub seconds_of : Calendar → Carried
seconds_of c = step_of 0 59 true c.seconds

abbrev pub minutes_of : Calendar → Carried
minutes_of c = step_of 0 59 (seconds_of c).carry c.minutes

abbrev pub hours_of : Calendar → Carried
hours_of c = step_of 0 23 (minutes_of c).carry c.hours

-- 01, Ticks, alarm, power: "at midnight the day goes 7 to 1 or one up"
abbrev pub day_of : Calendar → Carried
day_of c = step_of 1 7 (hours_of c).carry c.day

abbrev pub date_of : Calendar → Carried
date_of c = step_of 1 (length_of c) (hours_of c).carry c.date

abbrev pub month_of : Calendar → Carried
month_of c = step_of 1 12 (date_of c).carry c.month

abbrev pub year_of : Calendar → Carried
year_of c = step_of 0 99 (month_of c).carry c.year

-- 01, Ticks, alarm, power: "A valid core goes to the next second"
abbrev pub later_of : Calendar → Calendar
later_of c =
    record {
      seconds = (seconds_of c).byte;
      minutes = (minutes_of c).byte;
      hours = (hours_of c).byte;
      day = (day_of c).byte;
      date = (date_of c).byte;
      month = (month_of c).byte;
      year = (year_of c).byte;
    }

-- 01, Ticks, alarm, power: "Year 99 to 00 sets CF"; 02, number 4: "the highest field that changed"
unfoldable pub tick_of : Calendar → Advanced
tick_of c = record { calendar = later_of c; century = (year_of c).carry; rolled = changed_of c (later_of c) }

-- Auxiliary: the tick, where the test says whether the calendar is valid
abbrev pub tick_if : Bool → Calendar → Advanced
tick_if true c = tick_of c
tick_if false c = record { calendar = c; century = false; rolled = Nothing }

-- 01, Ticks, alarm, power (ruling): "An invalid core is left unchanged and raises nothing"; 02, number 4: it "says
-- nothing"
unfoldable pub next_of : Calendar → Advanced
next_of c = tick_if (is_valid c) c
