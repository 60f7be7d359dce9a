-- SPDX-License-Identifier: Apache-2.0
-- The worked merge meets all that demand 3 asks: the two lists are whole, the merge is one, and no written byte changes
-- the protection. What it does, by computation.
use Prim.Native.Nat.{ℕ}
use mathlib.Core.Path.{◌≡◌, refl}
use mathlib.Core.Bool.{Bool, true, ◌&&◌}
use mathlib.Core.List.{List, [], ◌∷◌, ◌++◌}
use lib.Dec.{eqb}
use borrow.Author.Tests.{eqb-true}
use Rattle.wire.specs.Bits.{pushed, sent_bit, place_at}
use Rattle.wire.specs.Slave.{slave_names, answers, opened}
use Rattle.wire.specs.Clock.{kept, received_at}
use Rattle.wire.specs.Memory.{put_byte}
use Rattle.wire.specs.Machine.{start, stop, clock, Event, line, tick, clocked, lined}
use Rattle.wire.specs.declared.Side.TheVariants.{Memory, Companion}
use Rattle.wire.specs.declared.Phase.{Phase}
use Rattle.wire.specs.declared.Phase.TheVariants.{Idle, Slave, AddressHigh, AddressLow, Pointer, Write, Read}
use Rattle.wire.proofs.Tests.{and_split}
use Rattle.bus.specs.Select.{slave_names_for}
use Rattle.bus.specs.Happening.{happening}
use Rattle.bus.specs.Event.{event_on}
use Rattle.bus.specs.declared.Beat.{Beat}
use Rattle.bus.specs.declared.Beat.TheVariants.{Cnt2}
use Rattle.fm31_counters.specs.Edge.{edge_of, next_count}
use Rattle.fm31_counters.specs.Power.{lost_of, blank_of}
use Rattle.fm31_counters.specs.Part.{aim_of, store_of, guard_of}
use Rattle.fm31_counters.specs.Write.{written_of}
use Rattle.law_merging.specs.Merge.{calling, moving}
use Rattle.law_merging.specs.Party.{to, Whole}
use Rattle.law_merging.specs.Demand.{WhereWritten, IfWritten, done, one, two, inside, Merge}
use Rattle.law_merging.specs.Clocks.{clocks, bits_of}
use Rattle.law_merging.proofs.Reader.{moving_clocks}
use Rattle.law_merging.proofs.Clocks.{slave_whole, first_clocks, second_clocks}
use Rattle.bus.specs.Select.{lone}
use Rattle.fm31.specs.Chip.{size_of, companion31, fresh}
use Rattle.fm31.specs.Run.{run_of}
use Rattle.fm31.specs.declared.Size.TheVariants.{Kb64, Kb256}
use Rattle.law_parts.specs.Events.{Held, event, held_by}
use Rattle.law_parts.specs.Demand3.{byte_of, WritesSteadyIn}
use Rattle.law_larger.specs.Demand3.{part, held}
use Rattle.law_larger.specs.Example.{memory_list, companion_list, merged_list, ExampleDemanded, ExampleOutcome}
use Rattle.law_larger.proofs.Demand3.{demand_three}

module _ (size : ℕ) where
  memory_whole : Whole (part size) (to Memory) memory_list
  unfolding pushed sent_bit slave_names slave_names_for
  memory_whole =
      let stored = bits_of 0x00 ++ bits_of 0x05 ++ bits_of 0x5A in (
        tt,
        slave_whole (part size) (to Memory) 0xA0 (clocks stored (line stop ∷ [])) tt
            (moving_clocks (part size) (to Memory) stored (line stop ∷ []) (tt, refl)),
      )

  companion_whole : Whole (part size) (to Companion) companion_list
  unfolding pushed sent_bit slave_names slave_names_for
  companion_whole =
      let written : List (Event Beat) = clocks (bits_of 0x15) (line stop ∷ []) in (
        tt,
        (
          tt,
          slave_whole (part size) (to Companion) 0xD0 (clocks (bits_of 0x0A) (tick Cnt2 ∷ written)) tt
              (moving_clocks (part size) (to Companion) (bits_of 0x0A) (tick Cnt2 ∷ written)
              (tt, moving_clocks (part size) (to Companion) (bits_of 0x15) (line stop ∷ []) (tt, refl))),
        ),
      )

  lists_merge : Merge (part size) memory_list companion_list merged_list
  unfolding place_at
  lists_merge =
      let P = part size in
      let stored = bits_of 0x00 ++ bits_of 0x05 ++ bits_of 0x5A in
      one (first_clocks P (bits_of 0xA0) (calling 0 0) (inside (first_clocks P stored moving (one
      (two (second_clocks P (bits_of 0xD0) (calling 0 0) (second_clocks P (bits_of 0x0A) moving (inside
      (second_clocks P (bits_of 0x15) moving (two done))))))))))

  -- no event at all changes the protection
  abbrev protection : Held size (slave_names_for lone) companion31 → ℕ
  protection h = guard_of h.companion

  abbrev next : Held size (slave_names_for lone) companion31 → Event Beat → Held size (slave_names_for lone) companion31
  next h e = held_by size (slave_names_for lone) companion31 (event size (slave_names_for lone) companion31 h
      (byte_of size (slave_names_for lone) companion31 e))

  abbrev is_steady : Held size (slave_names_for lone) companion31 → List (Event Beat) → Bool
  is_steady h [] = true
  is_steady h (e ∷ es) = eqb (protection (next h e)) (protection h) && is_steady (next h e) es

  pub where_written : (p : Phase) {X : Type 0} → X → WhereWritten p X
  where_written Idle h = tt
  where_written (Slave k b) h = tt
  where_written (AddressHigh k b) h = tt
  where_written (AddressLow y k b) h = tt
  where_written (Pointer k b) h = tt
  where_written (Write Memory k b) h = tt
  where_written (Write Companion k b) h = h
  where_written (Read s k b) h = tt

  pub if_written : (p : Phase) (e : Event Beat) {X : Type 0} → X → IfWritten p e X
  if_written p (line start) h = tt
  if_written p (line stop) h = tt
  if_written p (line (clock d)) h = where_written p h
  if_written p (tick t) h = tt

  steady_of_test : (h : Held size (slave_names_for lone) companion31) (es : List (Event Beat)) → is_steady h es ≡ true
      → WritesSteadyIn size (slave_names_for lone) companion31 h es
  steady_of_test h [] t = tt
  steady_of_test h (e ∷ es) t =
      let b = and_split (eqb (protection (next h e)) (protection h)) (is_steady (next h e) es) t in (
        if_written h.bus.phase e (eqb-true (protection (next h e)) (protection h) b.0),
        steady_of_test (next h e) es b.1,
      )

  writes_steady : (m : List ℕ) → WritesSteadyIn size (slave_names_for lone) companion31 (held size fresh m) companion_list
  unfolding happening event_on lined clocked received_at kept pushed sent_bit place_at opened answers slave_names slave_names_for
      aim_of store_of written_of edge_of next_count blank_of lost_of
  writes_steady m = steady_of_test (held size fresh m) companion_list refl

pub example_demanded : ExampleDemanded
example_demanded k m =
    let size = size_of k in
    demand_three size (held size fresh m) memory_list companion_list merged_list refl refl
    (memory_whole size) (companion_whole size) (lists_merge size) (writes_steady size m)

pub example_outcome : ExampleOutcome
unfolding run_of happening event_on lined clocked received_at kept pushed sent_bit place_at opened answers slave_names slave_names_for
    put_byte aim_of store_of written_of edge_of next_count blank_of lost_of
example_outcome Kb64 m =
    record { memory = refl; address = refl; watchdog = refl; first = refl; second = refl; companion_address = refl }
example_outcome Kb256 m =
    record { memory = refl; address = refl; watchdog = refl; first = refl; second = refl; companion_address = refl }
