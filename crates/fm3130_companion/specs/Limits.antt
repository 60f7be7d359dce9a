-- SPDX-License-Identifier: Apache-2.0
-- The limits of a companion (01, Entries and refusal numbers: state limits): its address is a register's, and the
-- bits that the register map fixes at 0 are 0, also in the core.
--   fixed_clear span b               no bit of a byte between its bit 7 and the span
--   alarm_within registers_within  the alarm; all registers
--   is_within                     the companion
use Rattle.std.specs.Prelude.{ℕ, ◌%◌, Bool, ◌&&◌, ltb, leb}
use Rattle.calendar.specs.Width as width
use Rattle.fm3130_companion.specs.declared.Alarm.{Alarm}
use Rattle.fm3130_companion.specs.declared.Registers.{Registers}
use Rattle.fm3130_companion.specs.declared.Companion.{Companion}
use Rattle.fm3130_registers.specs.Map.{LAST}

-- Auxiliary: below its bit 7 a byte has bits under the span alone.
abbrev pub fixed_clear : ℕ → ℕ → Bool
fixed_clear span b = ltb (b % 128) span

-- 01, Registers: 09h to 0Dh have bit 7 and the calendar byte's stored bits, so bit 6 of 0Bh and 0Ch, and bits 6 and 5
-- of 0Dh, are fixed at 0.
unfoldable pub alarm_within : Alarm → Bool
alarm_within a = fixed_clear 64 a.hours && fixed_clear 64 a.date && fixed_clear 32 a.month

-- 01, Registers: bit 6 of 01h is 0; 02h to 08h have their stored bits; 00h and 0Eh have no fixed bit.
unfoldable pub registers_within : Registers → Bool
registers_within r = fixed_clear 64 r.trim && width.is_within r.time && alarm_within r.alarm

-- 01, Entries and refusal numbers: "companion address at most 14, .. bits that the register map fixes at 0 are 0
-- (also in the calendar core)".
unfoldable pub is_within : Companion → Bool
is_within c = leb c.address LAST && registers_within c.registers && width.is_within c.core
