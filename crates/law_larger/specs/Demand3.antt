-- SPDX-License-Identifier: Apache-2.0
-- Demand 3 of the larger family over the size: that of every part (crate `law_parts`), of the list run's own definition
-- (02, number 5: "A counter edge joins the ticks in demand 3"). Its companion is registers, snapshot and address.
--   part, held               the part; a state with the lent memory, as `law_parts` has it
--   ran_by, list_run           what a list leaves and answers; the list run
--   Demanded, DemandThree    what then holds of three lists; the demand
--   DemandThreeMerged        the same, the protection asked for of the merged run
use Rattle.std.specs.Prelude.{ℕ, List}
use Rattle.wire.specs.Machine.{Parts}
use Rattle.bus.specs.Desk.{part_of}
use Rattle.law_merging.specs.Party.{PartyEvent}
use Rattle.bus.specs.Select.{lone, slave_names_for}
use Rattle.fm31.specs.Chip.{companion31}
use Rattle.fm31.specs.Run.{Ended, run_of}
use Rattle.fm31.specs.declared.State.{State}
use Rattle.law_parts.specs.Events.{Held}
use Rattle.law_parts.specs.Demand3.{Ran}
use Rattle.law_parts.specs.Demand3 as demand

module _ (size : ℕ) where
  -- The part, as the bus machine has it; its ticks are a second, an edge on CNT1, an edge on CNT2.
  abbrev pub part : Parts
  part = part_of size (slave_names_for lone) companion31

  abbrev pub held : State → List ℕ → Held size (slave_names_for lone) companion31
  held s m = record { bus = s.bus; companion = s.counters; memory = m }

  abbrev pub ran_by : Ended → Ran size (slave_names_for lone) companion31
  ran_by r = record { held = held r.state r.memory; answers = r.answers }

  abbrev pub list_run : Held size (slave_names_for lone) companion31 → List ℕ → Ran size (slave_names_for lone) companion31
  list_run h es = ran_by (run_of size lone (record { bus = h.bus; counters = h.companion }) h.memory es)

  abbrev pub Demanded : (first second merged : Ran size (slave_names_for lone) companion31) → List (PartyEvent part)
      → Type 0
  Demanded first second merged l = demand.Demanded size (slave_names_for lone) companion31 first second merged l

  abbrev pub DemandThree : Type 0
  DemandThree = demand.DemandThree size (slave_names_for lone) companion31 list_run

  -- The same where the protection is asked for of the merged run.
  abbrev pub DemandThreeMerged : Type 0
  DemandThreeMerged = demand.DemandThreeMerged size (slave_names_for lone) companion31 list_run
