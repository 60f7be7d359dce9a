-- SPDX-License-Identifier: Apache-2.0
-- One part replaced, the rest kept.
--   with_counts         registers with other counters
--   with_registers      the companion with other registers
--   with_address        the companion at another address
use Rattle.std.specs.Prelude.{ℕ}
use Rattle.fm31_counters.specs.declared.Counts.{Counts}
use Rattle.fm31_counters.specs.declared.Registers.{Registers}
use Rattle.fm31_counters.specs.declared.Counters.{Counters}

-- Auxiliary: 0Dh to 10h replaced.
abbrev pub with_counts : Registers → Counts → Registers
with_counts r n =
    record {
      flags = r.flags;
      watchdog = r.watchdog;
      control = r.control;
      counting = r.counting;
      counts = n;
      serial = r.serial;
    }

-- Auxiliary: the registers replaced.
abbrev pub with_registers : Counters → Registers → Counters
with_registers c r = record { registers = r; snapshot = c.snapshot; address = c.address }

-- Auxiliary: the address replaced.
abbrev pub with_address : Counters → ℕ → Counters
with_address c a = record { registers = c.registers; snapshot = c.snapshot; address = a }
