-- SPDX-License-Identifier: Apache-2.0
-- What the registers show outside: the ACS pin (01, Event bytes and answer bytes) and the protection of memory (01,
-- Transfers).
--   pin_of      bits 3 to 1 of an answer, as a number
--   guard_of    WP1 WP0, as a number
use Rattle.std.specs.Prelude.{ℕ, ◌/◌, ◌%◌}
use Rattle.fm3130_companion.specs.declared.Companion.{Companion}
use Rattle.fm3130_registers.specs.Map.{WP0}
use Rattle.fm3130_registers.specs.Pin.{pin_by}

unfoldable pub pin_of : Companion → ℕ
pin_of c = pin_by c.registers.control c.registers.setup

-- 01, Transfers: "Protection by WP1 WP0 of 0Eh".
abbrev pub guard_of : Companion → ℕ
guard_of c = c.registers.setup / WP0 % 4
