-- SPDX-License-Identifier: Apache-2.0
-- A field of the alarm beside a field of the calendar (01, Ticks, alarm, power).
use Rattle.std.specs.Prelude.{ℕ, ◌%◌, Bool, ◌||◌, eqb}
use Rattle.bits.specs.Weight.{has}
use Rattle.fm3130_registers.specs.Map.{MATCH}

-- 01, Ticks, alarm, power: an alarm field "with Match 0 equals the core's field"; one with Match 1 is not asked.
abbrev pub agrees : ℕ → ℕ → Bool
agrees alarm field = has alarm MATCH || eqb (alarm % 128) field
