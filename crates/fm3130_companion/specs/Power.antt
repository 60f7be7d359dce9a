-- SPDX-License-Identifier: Apache-2.0
-- The companion when power goes and comes (01, Ticks, alarm, power).
--   lost_date, lost_registers   what both supplies' loss leaves of the calendar and of the registers
--   backed_of, lost_of          main power lost with backup; both supplies gone, which is the fresh companion too
--   returned_of                the companion when main power returns after backup
use Rattle.std.specs.Prelude.{◌+◌}
use Rattle.calendar.specs.declared.Calendar.{Calendar}
use Rattle.fm3130_companion.specs.declared.Registers.{Registers}
use Rattle.fm3130_companion.specs.declared.Companion.{Companion}
use Rattle.fm3130_registers.specs.Map.{CONTROL, LB, POR, OSCEN}
use Rattle.fm3130_companion.specs.Registers.{put_at}
use Rattle.fm3130_registers.specs.Control.{por_set}
use Rattle.fm3130_companion.specs.Change.{with_registers, with_address}

-- 01, Ticks, alarm, power (ruling): all 0 but "day, date and month, which are 1".
abbrev pub lost_date : Calendar
lost_date = record { seconds = 0; minutes = 0; hours = 0; day = 1; date = 1; month = 1; year = 0 }

-- 01, Ticks, alarm, power (ruling): "registers become all 0 but OSCEN, POR and LB, which are 1, and day, date and
-- month, which are 1".
abbrev pub lost_registers : Registers
lost_registers =
    record {
      control = LB + POR;
      trim = OSCEN;
      time = lost_date;
      alarm = record { seconds = 0; minutes = 0; hours = 0; date = 0; month = 0 };
      setup = 0;
    }

-- 01, Ticks, alarm, power: "Power lost: .. both addresses become 0"; with backup the rest is kept.
abbrev pub backed_of : Companion → Companion
backed_of c = with_address c 0

-- 01, Ticks, alarm, power (ruling): at the moment both supplies are gone; "the core holds the same date"; the fresh
-- state too.
unfoldable pub lost_of : Companion
lost_of = record { registers = lost_registers; core = lost_date; address = 0 }

-- 01, Ticks, alarm, power: main power returned after backup.
unfoldable pub returned_of : Companion → Companion
returned_of c = with_registers c (put_at c.registers CONTROL (por_set c.registers.control))
