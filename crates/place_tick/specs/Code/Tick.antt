-- SPDX-License-Identifier: Apache-2.0
-- What the functions of a tick do on a companion's bytes, part by part. Auxiliary: laws say that the parts make up a tick as
-- the companion's own definition has it.
--   tell_of      what a tick tells once the core has moved
--   one_more     one more in two decimal digits
--   is_ticking   whether ticks move the core
use Rattle.std.specs.Prelude.{ℕ, ◌+◌, ◌%◌, Bool, cond, not, ◌&&◌, ◌==◌}
use Rattle.bits.specs.Weight.{has}
use Rattle.calendar.specs.Next.{is_valid}
use Rattle.fm3130_registers.specs.Map.{OSCEN}
use Rattle.fm3130_companion.specs.Change.{with_time, with_registers}
use Rattle.fm3130_registers.specs.Control.{followed}
use Rattle.fm3130_registers.specs.Control.{told_of}
use Rattle.fm3130_companion.specs.declared.Companion.{Companion}
use Rattle.fm3130.specs.Power.{is_supplied}
use Rattle.fm3130.specs.declared.State.{State}

unfoldable pub tell_of : Companion → Bool → Bool → Companion
tell_of c rung century =
    with_registers c
    (with_time c.registers (told_of c.registers.control rung century)
    (followed c.registers.control c.core c.registers.time))

unfoldable pub one_more : ℕ → ℕ
one_more b = cond (b % 16 == 9) ((b + 7) % 256) ((b + 1) % 256)

unfoldable pub is_ticking : State → Bool
is_ticking s =
    is_supplied s.power && not (has s.companion.registers.trim OSCEN) && is_valid s.companion.core
