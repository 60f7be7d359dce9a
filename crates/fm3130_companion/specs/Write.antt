-- SPDX-License-Identifier: Apache-2.0
-- What a data byte does to the register at the companion's address (01, Registers).
--   core_written, control_written   the core after a write of 00h; the write
--   trim_written                   a write of 01h
--   byte_stored                    a write to a register that always stores
--   time_written                   a write of one of 02h to 08h
--   written_of                     a write at the address
use Rattle.std.specs.Prelude.{ℕ, cond, leb, eqb}
use Rattle.bits.specs.Weight.{has}
use Rattle.calendar.specs.declared.Calendar.{Calendar}
use Rattle.fm3130_companion.specs.declared.Companion.{Companion}
use Rattle.fm3130_registers.specs.Map.{CONTROL, TRIM, YEARS, W}
use Rattle.fm3130_companion.specs.Registers.{put_at}
use Rattle.fm3130_registers.specs.Stored.{stored_at, trim_after}
use Rattle.fm3130_companion.specs.Change.{with_time, with_registers}
use Rattle.fm3130_registers.specs.Control.{control_after, core_after, time_after}

-- 01, Registers: the core after a write of 00h.
abbrev pub core_written : Companion → ℕ → Calendar
core_written c b = core_after c.registers.control b c.core c.registers.time

-- 01, Registers: a write of 00h, the core first, then 02h to 08h by the core as it now is.
abbrev pub control_written : Companion → ℕ → Companion
control_written c b =
    record {
      registers =
          with_time c.registers (control_after c.registers.control b)
          (time_after c.registers.control b (core_written c b) c.registers.time);
      core = core_written c b;
      address = c.address;
    }

-- 01, Registers: a write of 01h.
abbrev pub trim_written : Companion → ℕ → Companion
trim_written c b =
    with_registers c (put_at c.registers TRIM (trim_after c.registers.control c.registers.trim b))

-- 01, Registers: the stored bits of the byte at the address.
abbrev pub byte_stored : Companion → ℕ → Companion
byte_stored c b = with_registers c (put_at c.registers c.address (stored_at c.address b))

-- 01, Registers: "A write with W = 0 is acknowledged and not stored".
abbrev pub time_written : Companion → ℕ → Companion
time_written c b = cond (has c.registers.control W) (byte_stored c b) c

-- 01, Registers: by the address: 00h, 01h, 02h to 08h, 09h to 0Eh.
abbrev pub written_of : Companion → ℕ → Companion
written_of c b =
    cond (eqb c.address CONTROL) (control_written c b)
    (cond (eqb c.address TRIM) (trim_written c b) (cond (leb c.address YEARS) (time_written c b) (byte_stored c b)))
