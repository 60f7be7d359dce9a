-- SPDX-License-Identifier: Apache-2.0
-- The worked merge meets all that demand 3 asks: the two lists are whole, the merge is one, and no written byte changes
-- the protection. So what is demanded holds of it (`example_demanded`); and both transactions, and both ticks, did
-- something (`example_outcome`).
use Prim.Native.Nat.{ℕ}
use mathlib.Core.Path.{◌≡◌, refl}
use mathlib.Core.Bool.{Bool, true, ◌&&◌}
use mathlib.Core.List.{List, [], ◌∷◌}
use lib.Dec.{eqb}
use lib.ListN.{set}
use borrow.Author.Tests.{eqb-true}
use Rattle.wire.specs.Bits.{pushed, sent_bit, place_at}
use Rattle.wire.specs.Slave.{slave_names, answers, opened}
use Rattle.wire.specs.Clock.{kept, received_at}
use Rattle.wire.specs.Memory.{put_byte}
use Rattle.wire.specs.Machine.{start, stop, clock, Event, line, tick, clocked, lined}
use Rattle.wire.specs.declared.Side.TheVariants.{Memory, Companion}
use Rattle.wire.specs.declared.Phase.{Phase}
use Rattle.wire.specs.declared.Phase.TheVariants.{Idle, Slave, AddressHigh, AddressLow, Pointer, Write, Read}
use Rattle.wire.proofs.Tests.{and_split}
use Rattle.calendar.specs.Field.{in_field, step_of}
use Rattle.calendar.specs.Month.{month_length}
use Rattle.calendar.specs.Next.{is_valid, next_of, tick_of as count_of}
use Rattle.fm3130_companion.specs.Part.{aim_of, store_of, tick_of, guard_of}
use Rattle.fm3130.specs.Desk.{companion30}
use Rattle.fm3130.specs.Chip.{memory_size, fm3130}
use Rattle.fm3130.specs.Event.{happening, event_on}
use Rattle.fm3130_list.specs.Run.{run_of}
use Rattle.fm3130_list.specs.Held.{Held, Ran, held, list_run}
use Rattle.law_merging.specs.Merge.{calling, moving, events_of}
use Rattle.law_merging.specs.Party.{to, BusEvent, Whole}
use Rattle.law_merging.specs.Demand.{WhereWritten, IfWritten, done, one, two, inside, Merge}
use Rattle.law_merging.specs.Clocks.{clocks, bits_of}
use Rattle.law_merging.proofs.Reader.{moving_clocks}
use Rattle.law_merging.proofs.Clocks.{slave_whole, first_clocks, second_clocks}
use Rattle.law_parts.specs.Events.{event, held_by}
use Rattle.law_isolation.specs.Demand3.{byte_of, bytes_of, WritesSteadyIn, Demanded}
use Rattle.law_isolation.specs.Example.{stored, register, value}
use Rattle.law_isolation.specs.Example.{memory_list, companion_list, merged_list, started}
use Rattle.law_isolation.proofs.Demand3.{demand_three}

pub memory_whole : Whole fm3130 (to Memory) memory_list
unfolding pushed sent_bit slave_names
memory_whole = (
  tt,
  slave_whole fm3130 (to Memory) 0xA0 (clocks stored (line stop ∷ [])) tt
      (moving_clocks fm3130 (to Memory) stored (line stop ∷ []) (tt, refl)),
)

pub companion_whole : Whole fm3130 (to Companion) companion_list
unfolding pushed sent_bit slave_names
companion_whole =
    let written = clocks (bits_of value) (line stop ∷ []) in (
      tt,
      (
        tt,
        slave_whole fm3130 (to Companion) 0xD0 (clocks (bits_of register) (tick tt ∷ written)) tt
            (moving_clocks fm3130 (to Companion) (bits_of register) (tick tt ∷ written)
            (tt, moving_clocks fm3130 (to Companion) (bits_of value) (line stop ∷ []) (tt, refl))),
      ),
    )

pub lists_merge : Merge fm3130 memory_list companion_list merged_list
unfolding place_at
lists_merge =
    one (first_clocks fm3130 (bits_of 0xA0) (calling 0 0) (inside (first_clocks fm3130 stored moving (one
    (two (second_clocks fm3130 (bits_of 0xD0) (calling 0 0) (second_clocks fm3130 (bits_of register) moving (inside
    (second_clocks fm3130 (bits_of value) moving (two done))))))))))

-- no event at all changes the protection
abbrev protection : Held → ℕ
protection h = guard_of h.companion

abbrev next : Held → BusEvent fm3130 → Held
next h e = held_by memory_size slave_names companion30 (event memory_size slave_names companion30 h (byte_of e))

abbrev is_steady : Held → List (BusEvent fm3130) → Bool
is_steady h [] = true
is_steady h (e ∷ es) = eqb (protection (next h e)) (protection h) && is_steady (next h e) es

where_written : (p : Phase) {X : Type 0} → X → WhereWritten p X
where_written Idle h = tt
where_written (Slave k b) h = tt
where_written (AddressHigh k b) h = tt
where_written (AddressLow y k b) h = tt
where_written (Pointer k b) h = tt
where_written (Write Memory k b) h = tt
where_written (Write Companion k b) h = h
where_written (Read s k b) h = tt

if_written : {T : Type 0} (p : Phase) (e : Event T) {X : Type 0} → X → IfWritten p e X
if_written p (line start) h = tt
if_written p (line stop) h = tt
if_written p (line (clock d)) h = where_written p h
if_written p (tick t) h = tt

steady_of_test : (h : Held) (es : List (BusEvent fm3130)) → is_steady h es ≡ true → WritesSteadyIn h es
steady_of_test h [] t = tt
steady_of_test h (e ∷ es) t =
    let h' = next h e in
    let b = and_split (eqb (protection h') (protection h)) (is_steady h' es) t in
    (if_written h.bus.phase e (eqb-true (protection h') (protection h) b.0), steady_of_test h' es b.1)

pub writes_steady : (m : List ℕ) → WritesSteadyIn (held started m) companion_list
unfolding happening event_on lined clocked received_at kept pushed sent_bit place_at
    opened answers slave_names aim_of store_of tick_of
writes_steady m = steady_of_test (held started m) companion_list refl

-- the list run on that device
abbrev run : List ℕ → List (BusEvent fm3130) → Ran
run m es = list_run (held started m) (bytes_of es)

pub example_demanded : (m : List ℕ)
    → Demanded (run m memory_list) (run m companion_list) (run m (events_of merged_list)) merged_list
example_demanded m =
    demand_three (held started m) memory_list companion_list merged_list refl refl
    memory_whole companion_whole lists_merge (writes_steady m)

pub example_outcome : (m : List ℕ) → let h = (run m (events_of merged_list)).held in
    (h.memory ≡ set m 5 0x5A) × (h.bus.address ≡ 6) × (h.companion.registers.alarm.seconds ≡ 0x15)
    × (h.companion.address ≡ 0x0A) × (h.companion.core.seconds ≡ 2)
unfolding run_of happening event_on lined clocked received_at kept pushed sent_bit place_at opened answers slave_names
    put_byte aim_of store_of tick_of next_of is_valid in_field month_length count_of step_of
example_outcome m = (refl, refl, refl, refl, refl)
