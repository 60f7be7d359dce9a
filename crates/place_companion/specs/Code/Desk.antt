-- SPDX-License-Identifier: Apache-2.0
-- What the functions on a companion's bytes do, part by part. Auxiliary: laws say that the parts make up a write of 00h
-- as the companion's own definition has it.
--   with_core, core_shown, core_loaded   another core; 02h to 08h take the core; the core takes 02h to 08h
--   shows_core                         whether 02h to 08h take the core where 00h is written and W does not fall
--   control_loaded, control_taken       a byte for 00h with which W falls; any byte for 00h
use Rattle.std.specs.Prelude.{ℕ, Bool, true, false, cond, not, ◌&&◌}
use Rattle.bits.specs.Weight.{has}
use Rattle.calendar.specs.Next.{is_valid}
use Rattle.calendar.specs.declared.Calendar.{Calendar}
use Rattle.fm3130_registers.specs.Map.{W, R}
use Rattle.fm3130_companion.specs.Change.{with_time, with_registers}
use Rattle.fm3130_registers.specs.Control.{control_after, w_falls}
use Rattle.fm3130_companion.specs.Write.{control_written}
use Rattle.fm3130_companion.specs.declared.Companion.{Companion}
use Rattle.fm3130_companion.specs.Part.{Taken}

abbrev pub with_core : Companion → Calendar → Companion
with_core c core = record { registers = c.registers; core = core; address = c.address }

abbrev pub core_shown : Companion → Companion
core_shown c = with_registers c (with_time c.registers c.registers.control c.core)

abbrev pub core_loaded : Companion → Companion
core_loaded c = with_core c c.registers.time

abbrev pub shows_core : ℕ → ℕ → Bool
shows_core old b = cond (has b R) (not (has old R)) (not (has b W))

-- The companion with 00h as a write leaves it.
abbrev pub control_put : Companion → ℕ → Companion
control_put c b =
    with_registers c (with_time c.registers (control_after c.registers.control b) c.registers.time)

abbrev pub refused : Companion → Taken
refused c = record { companion = c; acknowledged = false }

abbrev pub took : Companion → Taken
took c = record { companion = c; acknowledged = true }

unfoldable pub control_loaded : Companion → ℕ → Taken
control_loaded c b = cond (is_valid c.registers.time) (took (core_loaded (control_put c b))) (refused c)

-- Without the step of the address, which `store_of` makes too.
unfoldable pub control_taken : Companion → ℕ → Taken
control_taken c b =
    cond (w_falls c.registers.control b && not (is_valid c.registers.time)) (refused c) (took (control_written c b))
