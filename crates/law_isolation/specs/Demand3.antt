-- SPDX-License-Identifier: Apache-2.0
-- Demand 3 of the FM3130, on event bytes and answer bytes: that of every part (crate `law_parts`), of the list run that the
-- contracts cite. Its companion is registers, core and companion address.
--   byte_of, bytes_of, WritesSteadyIn   the bytes of events; protection bits unchanged by writes
--   Demanded, DemandThree             what then holds of three lists; the demand
--   SteadyMerged, DemandThreeMerged   the protection asked for of the merged run; the demand with it
use Rattle.std.specs.Prelude.{ℕ, List}
use Rattle.wire.specs.Slave.{slave_names}
use Rattle.fm3130.specs.Desk.{companion30}
use Rattle.fm3130.specs.Chip.{memory_size, fm3130}
use Rattle.fm3130_list.specs.Held.{Held, Ran, list_run}
use Rattle.law_merging.specs.Party.{BusEvent, PartyEvent}
use Rattle.law_parts.specs.Demand3 as demand
pub use Rattle.law_parts.specs.Demand3.{lines_of}

abbrev pub byte_of : BusEvent fm3130 → ℕ
byte_of e = demand.byte_of memory_size slave_names companion30 e

abbrev pub bytes_of : List (BusEvent fm3130) → List ℕ
bytes_of es = demand.bytes_of memory_size slave_names companion30 es

abbrev pub WritesSteadyIn : Held → List (BusEvent fm3130) → Type 0
WritesSteadyIn h es = demand.WritesSteadyIn memory_size slave_names companion30 h es

abbrev pub Demanded : Ran → Ran → Ran → List (PartyEvent fm3130) → Type 0
Demanded first second merged l = demand.Demanded memory_size slave_names companion30 first second merged l

abbrev pub DemandThree : Type 0
DemandThree = demand.DemandThree memory_size slave_names companion30 list_run

-- The same where the protection is asked for of the merged run, which is what a bus shows.
abbrev pub SteadyMerged : Type 0
SteadyMerged = demand.SteadyMerged memory_size slave_names companion30

abbrev pub DemandThreeMerged : Type 0
DemandThreeMerged = demand.DemandThreeMerged memory_size slave_names companion30 list_run
