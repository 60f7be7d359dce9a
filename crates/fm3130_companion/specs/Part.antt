-- SPDX-License-Identifier: Apache-2.0
-- The companion as a device uses it: what a byte of a transfer does to it (01, Transfers), and, passed on from the
-- other files, what a tick and the loss of power do, what the pin shows, what memory is protected, and the limits.
--   Taken, stepped_of          what taking a byte leaves; the companion at the next address
--   refused_address, aim_of    an address byte that is refused; an address byte
--   loads_bad_date, refused_date   a data byte that would load the core with no date; what it leaves
--   store_of                  a data byte at its eighth clock
--   load_of                   the byte that a read sends
--   control_read, loaded_of    what the end of a read of 00h leaves; of any read
use Rattle.std.specs.Prelude.{ℕ, Bool, true, false, cond, not, ◌&&◌, leb, eqb}
use Rattle.calendar.specs.Next.{is_valid}
use Rattle.fm3130_companion.specs.declared.Companion.{Companion}
use Rattle.bus_deeds.specs.declared.serve.Taken as serve
use Rattle.fm3130_registers.specs.Map.{CONTROL, LAST, next_address}
use Rattle.fm3130_companion.specs.Registers.{register_at, put_at}
use Rattle.fm3130_registers.specs.Control.{flags_after, w_falls}
use Rattle.fm3130_companion.specs.Change.{with_registers, with_address}
use Rattle.fm3130_companion.specs.Write.{written_of}
unfoldable pub use Rattle.fm3130_companion.specs.Tick.{tick_of, rolled_of}
unfoldable pub use Rattle.fm3130_companion.specs.Pin.{pin_of, guard_of}
unfoldable pub use Rattle.fm3130_companion.specs.Power.{backed_of, lost_of, returned_of}
unfoldable pub use Rattle.fm3130_companion.specs.Limits.{is_within}

-- Auxiliary: what taking a byte leaves.
abbrev pub Taken : Type 0
Taken = serve.Taken Companion

-- 01, Transfers: "and then the address steps on".
abbrev pub stepped_of : Companion → Companion
stepped_of c = with_address c (next_address c.address)

-- 01, Transfers: "Above 0Eh: not acknowledged, .. old address stands".
abbrev pub refused_address : Companion → Taken
refused_address c = record { companion = c; acknowledged = false }

-- 01, Transfers: "Companion write: one address byte, taken at its eighth clock".
unfoldable pub aim_of : Companion → ℕ → Taken
aim_of c b = cond (leb b LAST) (record { companion = with_address c b; acknowledged = true }) (refused_address c)

-- 02, number 6: "When a write of 00h would make W fall while 02h to 08h are not a valid calendar".
abbrev pub loads_bad_date : Companion → ℕ → Bool
loads_bad_date c b = eqb c.address CONTROL && w_falls c.registers.control b && not (is_valid c.registers.time)

-- 02, number 6: "do not acknowledge it, leave 00h and the core alone .. The address steps on".
abbrev pub refused_date : Companion → Taken
refused_date c = record { companion = stepped_of c; acknowledged = false }

-- 01, Transfers: "A data byte is stored at its eighth clock, and then the address steps on"; 01, Registers: a byte that
-- is not stored is acknowledged too; 02, number 6: a date that does not exist is refused "before any part of 01's order
-- for that write".
unfoldable pub store_of : Companion → ℕ → Taken
store_of c b =
    cond (loads_bad_date c b) (refused_date c)
    (record { companion = stepped_of (written_of c b); acknowledged = true })

-- 01, Transfers: "A read uses the current address".
unfoldable pub load_of : Companion → ℕ
load_of c = register_at c.registers c.address

-- Auxiliary: the companion once the byte b of 00h was read.
abbrev pub control_read : Companion → ℕ → Companion
control_read c b = with_registers c (put_at c.registers CONTROL (flags_after c.registers.control b))

-- 01, Transfers: "The byte is fixed at its first clock; the address steps on at the eighth"; 01, Registers: a read of
-- 00h clears the flags that the byte showed.
unfoldable pub loaded_of : Companion → ℕ → Companion
loaded_of c b = stepped_of (cond (eqb c.address CONTROL) (control_read c b) c)
