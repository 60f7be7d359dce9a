-- SPDX-License-Identifier: Apache-2.0
-- Which field of the calendar a tick changed last: 02, number 4, "the highest field that changed: nothing, seconds,
-- minutes, hours, date, month or year". The day of the week is none of them.
--
--   rolled_number           the number of each case
--   changed_of a b          the highest field in which b differs from a
--   highest_of ..           the same of a tick, by the carries into the fields above the seconds
--
use Rattle.std.specs.Prelude.{ℕ, Bool, cond, eqb}
use Rattle.calendar.specs.declared.Calendar.{Calendar}
use Rattle.calendar.specs.declared.Rolled.{Rolled}
use Rattle.calendar.specs.declared.Rolled.TheVariants.{Nothing, Seconds, Minutes, Hours, Date, Month, Year}

-- 01, Forms by place in the code: "a definition lists this paper's number .. for each of its cases"
abbrev pub rolled_number : Rolled → ℕ
rolled_number Nothing = 0
rolled_number Seconds = 1
rolled_number Minutes = 2
rolled_number Hours = 3
rolled_number Date = 4
rolled_number Month = 5
rolled_number Year = 6

-- 02, number 4: "the highest field that changed", from the year down
unfoldable pub changed_of : Calendar → Calendar → Rolled
changed_of a b =
    cond (eqb a.year b.year)
    (cond (eqb a.month b.month)
    (cond (eqb a.date b.date)
    (cond (eqb a.hours b.hours)
    (cond (eqb a.minutes b.minutes) (cond (eqb a.seconds b.seconds) Nothing Seconds) Minutes)
    Hours)
    Date)
    Month)
    Year

-- Auxiliary: the highest field that took a carry; the seconds always do
unfoldable pub highest_of : (minutes hours date month year : Bool) → Rolled
highest_of minutes hours date month year =
    cond year Year (cond month Month (cond date Date (cond hours Hours (cond minutes Minutes Seconds))))
