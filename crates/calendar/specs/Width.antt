-- SPDX-License-Identifier: Apache-2.0
-- Which calendars the registers can store. 01, Registers.
use Rattle.std.specs.Prelude.{Bool, ◌&&◌, ltb}
use Rattle.calendar.specs.declared.Calendar.{Calendar}

-- 01, Registers: "Stored bits: 7Fh, 7Fh, 3Fh, 07h, 3Fh, 1Fh, FFh", the last, of the year, being any byte
unfoldable pub is_within : Calendar → Bool
is_within c =
    ltb c.seconds 128 && ltb c.minutes 128 && ltb c.hours 64 && ltb c.day 8 && ltb c.date 64
    && ltb c.month 32
