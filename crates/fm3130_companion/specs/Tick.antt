-- SPDX-License-Identifier: Apache-2.0
-- A one-second tick where power or backup is present (01, Ticks, alarm, power).
--   matches            the alarm and a calendar
--   rung               whether a tick that counts brings the core to the alarm
--   counted_of          a tick that counts
--   tick_of             a tick
--   rolled_of           the field that a tick says
use Rattle.std.specs.Prelude.{Bool, cond, ◌&&◌}
use Rattle.bits.specs.Weight.{has}
use Rattle.calendar.specs.Next.{is_valid, next_of}
use Rattle.calendar.specs.declared.Calendar.{Calendar}
use Rattle.calendar.specs.declared.Rolled.{Rolled}
use Rattle.calendar.specs.declared.Rolled.TheVariants.{Nothing}
use Rattle.fm3130_companion.specs.declared.Alarm.{Alarm}
use Rattle.fm3130_companion.specs.declared.Companion.{Companion}
use Rattle.fm3130_companion.specs.declared.Ticked.{Ticked}
use Rattle.fm3130_registers.specs.Map.{OSCEN}
use Rattle.fm3130_registers.specs.Control.{followed, told_of}
use Rattle.fm3130_registers.specs.Alarm.{agrees}
use Rattle.fm3130_companion.specs.Change.{with_time}

-- 01, Ticks, alarm, power: "if each alarm field with Match 0 equals the core's field; with none selected, every
-- second".
abbrev pub matches : Alarm → Calendar → Bool
matches a c =
    agrees a.seconds c.seconds && agrees a.minutes c.minutes && agrees a.hours c.hours
    && agrees a.date c.date && agrees a.month c.month

-- 01, Ticks, alarm, power: "After an advance AF is set if .."; an invalid core "raises nothing (ruling)".
abbrev pub rung : Companion → Bool
rung c = is_valid c.core && matches c.registers.alarm (next_of c.core).calendar

-- 01, Ticks, alarm, power: the core goes to its next second, the flags rise, "Then, on every tick that counts, core
-- valid or not, 02h to 08h take the core if R and W are 0".
abbrev pub counted_of : Companion → Companion
counted_of c =
    record {
      registers =
          with_time c.registers (told_of c.registers.control (rung c) (next_of c.core).century)
          (followed c.registers.control (next_of c.core).calendar c.registers.time);
      core = (next_of c.core).calendar;
      address = c.address;
    }

-- 01, Ticks, alarm, power: "A tick counts if OSCEN is 0 .."; "A tick that does not count changes nothing".
unfoldable pub tick_of : Companion → Companion
tick_of c = cond (has c.registers.trim OSCEN) c (counted_of c)

-- 02, number 4: "Let the tick itself say the highest field that changed"; "A tick that does not count, or finds an
-- invalid core, says nothing".
unfoldable pub rolled_of : Companion → Rolled
rolled_of c = cond (has c.registers.trim OSCEN) Nothing (next_of c.core).rolled

-- Auxiliary: what a tick returns.
abbrev pub ticked_of : Companion → Rolled → Ticked
ticked_of c w = record { companion = c; rolled = w }
