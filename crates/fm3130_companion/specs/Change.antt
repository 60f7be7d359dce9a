-- SPDX-License-Identifier: Apache-2.0
-- One part replaced, the rest kept.
--   with_time         registers with another 00h and another 02h to 08h
--   with_registers    the companion with other registers
--   with_address      the companion at another address
use Rattle.std.specs.Prelude.{ℕ}
use Rattle.calendar.specs.declared.Calendar.{Calendar}
use Rattle.fm3130_companion.specs.declared.Registers.{Registers}
use Rattle.fm3130_companion.specs.declared.Companion.{Companion}

-- Auxiliary: 00h and 02h to 08h replaced.
abbrev pub with_time : Registers → ℕ → Calendar → Registers
with_time r control time =
    record { control = control; trim = r.trim; time = time; alarm = r.alarm; setup = r.setup }

-- Auxiliary: the registers replaced.
abbrev pub with_registers : Companion → Registers → Companion
with_registers c r = record { registers = r; core = c.core; address = c.address }

-- Auxiliary: the address replaced.
abbrev pub with_address : Companion → ℕ → Companion
with_address c a = record { registers = c.registers; core = c.core; address = a }
