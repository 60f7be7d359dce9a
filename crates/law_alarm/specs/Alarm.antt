-- SPDX-License-Identifier: Apache-2.0
-- 01, Ticks, alarm, power: what one tick raises, on every state, well-formed or not, with any memory, by the bytes of
-- the registers and of the core before and after it.
--   equals, agreed               each alarm register with Match 0 has its field's number
--   AlarmRises, CenturyRises     when AF and CF are 1 after a tick
--   masked, AlarmByMasks         the same by the stored bits alone
--   EnableFree                   AF after a tick, whatever else 00h holds
--   InvalidRaisesNothing         a core that is no date
use Rattle.std.specs.Prelude.{ℕ, ◌%◌, ◌≡◌, Bool, true, false, ◌&&◌, ◌||◌, List, eqb}
use Rattle.calendar.specs.Next.{is_valid}
use Rattle.calendar.specs.declared.Calendar.{Calendar}
use Rattle.fm3130_companion.specs.Part.{is_within}
use Rattle.fm3130_companion.specs.declared.Alarm.{Alarm}
use Rattle.fm3130.specs.declared.State.{State}
use Rattle.law_alarm.specs.Second.{bit, counts, after, with00h}

-- Auxiliary: a register of the alarm and a field of the core: "bit 7 is Match", and below it "the rest as the calendar
-- byte"; a field with Match 1 is not asked.
abbrev pub equals : ℕ → ℕ → Bool
equals register field = bit 0x80 register || eqb (register % 0x80) field

-- "If each alarm field with Match 0 equals the core's field; with none selected, every second": 09h to 0Dh are "alarm
-- seconds, minutes, hours, date, month".
abbrev pub agreed : Alarm → Calendar → Bool
agreed a c =
    equals a.seconds c.seconds && equals a.minutes c.minutes && equals a.hours c.hours
    && equals a.date c.date && equals a.month c.month

-- AF, bit 6 of 00h: "After an advance AF is set if .."; it was 1 before, or the tick counts, the core was a date that
-- exists, and the core after the tick agrees with the alarm.
abbrev pub AlarmRises : Type 0
AlarmRises =
    (s : State) (m : List ℕ)
    → bit 0x40 (after s m).registers.control
    ≡ bit 0x40 s.companion.registers.control
    || (counts s && (is_valid s.companion.core && agreed s.companion.registers.alarm (after s m).core))

-- The same by the bits that 01 stores: "7Fh, 7Fh, 3Fh", and of date and month "3Fh, 1Fh".
abbrev pub equals_below : ℕ → ℕ → ℕ → Bool
equals_below span register field = bit 0x80 register || eqb (register % span) field

abbrev pub masked : Alarm → Calendar → Bool
masked a c =
    equals_below 0x80 a.seconds c.seconds && equals_below 0x80 a.minutes c.minutes
    && equals_below 0x40 a.hours c.hours && equals_below 0x40 a.date c.date
    && equals_below 0x20 a.month c.month

-- Where the "bits that the register map fixes at 0 are 0", these are all there are below Match.
abbrev pub AlarmByMasks : Type 0
AlarmByMasks =
    (s : State) (m : List ℕ) → is_within s.companion ≡ true
    → bit 0x40 (after s m).registers.control
    ≡ bit 0x40 s.companion.registers.control
    || (counts s && (is_valid s.companion.core && masked s.companion.registers.alarm (after s m).core))

-- CF, bit 5 of 00h: "Year 99 to 00 sets CF", and nothing else does.
abbrev pub CenturyRises : Type 0
CenturyRises =
    (s : State) (m : List ℕ)
    → bit 0x20 (after s m).registers.control
    ≡ bit 0x20 s.companion.registers.control
    || (counts s
    && (is_valid s.companion.core && (eqb s.companion.core.year 0x99 && eqb (after s m).core.year 0x00)))

-- "AEN does not gate AF (ruling)", nor does any other bit of 00h: two states with the same AF, whatever else their 00h
-- holds, have the same AF after a tick.
abbrev pub EnableFree : Type 0
EnableFree =
    (s : State) (m : List ℕ) (x y : ℕ) → bit 0x40 x ≡ bit 0x40 y
    → bit 0x40 (after (with00h s x) m).registers.control ≡ bit 0x40 (after (with00h s y) m).registers.control

-- "An invalid core is left unchanged and raises nothing (ruling)": the core and 00h are as they were.
abbrev pub InvalidRaisesNothing : Type 0
InvalidRaisesNothing =
    (s : State) (m : List ℕ) → is_valid s.companion.core ≡ false
    → ((after s m).core ≡ s.companion.core) × ((after s m).registers.control ≡ s.companion.registers.control)
