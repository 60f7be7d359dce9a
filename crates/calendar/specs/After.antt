-- SPDX-License-Identifier: Apache-2.0
-- Several ticks, one after the other. 01, Ticks, alarm, power.
use Rattle.std.specs.Prelude.{ℕ, zero, suc, ◌+◌}
use Rattle.calendar.specs.Field.{bit}
use Rattle.calendar.specs.Next.{next_of}
use Rattle.calendar.specs.declared.Calendar.{Calendar}

-- Auxiliary: the calendar after n ticks
unfoldable pub after : ℕ → Calendar → Calendar
after zero c = c
after (suc n) c = (next_of (after n c)).calendar

-- 01, Ticks, alarm, power: "Year 99 to 00 sets CF": how many of n ticks do
unfoldable pub crossings : ℕ → Calendar → ℕ
crossings zero c = 0
crossings (suc n) c = crossings n c + bit (next_of (after n c)).century
