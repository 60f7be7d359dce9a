-- SPDX-License-Identifier: Apache-2.0
-- Many ticks of a calendar in one call (02, number 7: "One call for n ticks must leave .. exactly as n single ticks
-- would"). `after n c` is n ticks one by one (crate calendar), and `crossings n c` how many of them set CF.
use Rattle.std.specs.Prelude.{ℕ, ltb}
use Rattle.calendar.specs.After.{after, crossings}
use Rattle.calendar.specs.declared.Calendar.{Calendar}
use Rattle.calendar_days.specs.declared.Reached.{Reached}

-- 02, number 7: "up to 31,622,400 ticks", those of a leap year
abbrev pub most_ticks : ℕ
most_ticks = 31622400

-- 02, number 7: the calendar that n single ticks lead to, and whether one of them sets CF
unfoldable pub after_of : ℕ → Calendar → Reached
after_of n c = record { calendar = after n c; century = ltb 0 (crossings n c) }
