-- SPDX-License-Identifier: Apache-2.0
-- The state limits (02, number 5: "Its state limits are a memory address below that size, .. and a companion address in
-- 09h to 18h"; 01, Entries).
use Rattle.std.specs.Prelude.{ℕ, Bool, ◌&&◌}
use Rattle.fm31_counters.specs.Map.{FIRST, LAST}
use Rattle.fm31_counters.specs.Part.{is_within}
use Rattle.bus_limits.specs.Limits.{bus_within}
use Rattle.fm31.specs.declared.State.{State}

-- Those of the bus, with the companion's first and last address, and those of the companion.
unfoldable pub well_formed : ℕ → ℕ → State → Bool
well_formed size select s = bus_within size select FIRST LAST s.bus && is_within s.counters
