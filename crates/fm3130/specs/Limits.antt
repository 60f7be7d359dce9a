-- SPDX-License-Identifier: Apache-2.0
-- The state limits (01, Entries: "State limits (a state inside them is well-formed)").
use Rattle.std.specs.Prelude.{ℕ, Bool, ◌&&◌, ltb, leb}
use Rattle.wire.specs.Slave.{slave_names}
use Rattle.wire.specs.Limits.{phase_within}
use Rattle.bus_limits.specs.Limits.{power_within}
use Rattle.fm3130_registers.specs.Map.{LAST}
use Rattle.fm3130_companion.specs.Part.{is_within}
use Rattle.fm3130.specs.Chip.{memory_size}
use Rattle.fm3130.specs.declared.State.{State}

-- "Companion address at most 14": the address bytes that are acknowledged.
abbrev pub is_legal : ℕ → Bool
is_legal b = leb b LAST

-- "Memory address at most 8191, companion address at most 14, clocks within a byte 0 to 8, bits that the register map fixes
-- at 0 are 0 (also in the calendar core)"; and the limits on what else a phase holds (docs/IMAGE.md).
unfoldable pub well_formed : State → Bool
well_formed s =
    ltb s.address memory_size && is_within s.companion && phase_within slave_names is_legal s.phase
    && power_within s.power s.phase
