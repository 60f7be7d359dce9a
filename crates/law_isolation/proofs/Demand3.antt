-- SPDX-License-Identifier: Apache-2.0
-- Demand 3 of the FM3130, from that of every part: the list run is its events one by one.
use mathlib.Core.Path.{subst}
use Rattle.wire.specs.Slave.{slave_names}
use Rattle.fm3130.specs.Desk.{companion30}
use Rattle.fm3130.specs.Chip.{memory_size}
use Rattle.fm3130_list.proofs.Held.{list_run_is, ticks_heard}
use Rattle.law_parts.specs.Demand3 as demand
use Rattle.law_parts.proofs.Demand3 as laws
use Rattle.law_isolation.specs.Demand3.{DemandThree, SteadyMerged, DemandThreeMerged}
use Rattle.law_isolation.proofs.Guard.{only_writes}

pub demand_three : DemandThree
demand_three =
    subst (demand.DemandThree memory_size slave_names companion30) list_run_is
    (laws.demand_three memory_size slave_names companion30 ticks_heard only_writes)

pub steady_merged : SteadyMerged
steady_merged = laws.steady_merged memory_size slave_names companion30 ticks_heard only_writes

pub demand_three_merged : DemandThreeMerged
demand_three_merged =
    subst (demand.DemandThreeMerged memory_size slave_names companion30) list_run_is
    (laws.demand_three_merged memory_size slave_names companion30 ticks_heard only_writes)
