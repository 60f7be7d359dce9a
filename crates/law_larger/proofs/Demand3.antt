-- SPDX-License-Identifier: Apache-2.0
-- Demand 3 of the larger family over the size: the law of `law_parts`, since of its companion only a written byte can
-- change WP1 WP0; the list run is its events one by one.
use Prim.Native.Nat.{ℕ}
use mathlib.Core.Path.{subst}
use Rattle.fm31_counters.proofs.Guard.{aim_guard, loaded_guard}
use Rattle.bus.specs.Desk.{part_of}
use Rattle.law_merging.specs.Demand.{OnlyWrites}
use Rattle.bus.specs.Select.{lone, slave_names_for}
use Rattle.fm31.specs.Chip.{companion31}
use Rattle.law_parts.specs.Demand3 as demand
use Rattle.law_parts.proofs.Events.{edge_heard}
use Rattle.law_parts.proofs.Demand3 as parts
use Rattle.law_larger.specs.Demand3.{DemandThree, DemandThreeMerged}
use Rattle.law_larger.proofs.Lists.{list_run_is}
use Rattle.law_larger.proofs.Memory.{beaten_guard}

pub only_writes : (size select : ℕ) → OnlyWrites (part_of size (slave_names_for select) companion31)
only_writes size select = record { tick_keeps = beaten_guard; address_keeps = aim_guard; read_keeps = loaded_guard }

pub demand_three : (size : ℕ) → DemandThree size
demand_three size =
    subst (demand.DemandThree size (slave_names_for lone) companion31) (list_run_is size)
    (parts.demand_three size (slave_names_for lone) companion31 edge_heard (only_writes size lone))

pub demand_three_merged : (size : ℕ) → DemandThreeMerged size
demand_three_merged size =
    subst (demand.DemandThreeMerged size (slave_names_for lone) companion31) (list_run_is size)
    (parts.demand_three_merged size (slave_names_for lone) companion31 edge_heard (only_writes size lone))
