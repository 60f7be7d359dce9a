-- SPDX-License-Identifier: Apache-2.0
-- Demand 3 on event bytes and answer bytes, over any size, names and companion; "a counter edge joins the ticks" (02,
-- number 5).
--   byte_of, bytes_of            the bytes of events, none of them a power event
--   lines_of, WritesSteadyIn    bit 0 of answers; protection bits unchanged by writes
--   Ran, one_by_one              what a list leaves and answers; its events one by one
--   Demanded, DemandThree      what then holds of three; the demand
--   SteadyMerged, DemandThreeMerged   the protection asked for of the merged run; the demand with it
use Rattle.std.specs.Prelude.{ℕ, ◌%◌, ◌≡◌, List, [], ◌∷◌, map}
use Rattle.wire.specs.Machine.{start, stop, clock, line, tick}
use Rattle.wire.specs.declared.Side.TheVariants.{Memory, Companion}
use Rattle.wire.specs.declared.Phase.TheVariants.{Idle}
use Rattle.wire.specs.declared.Named.{Named}
use Rattle.bus.specs.Desk.{Desks, part_of}
use Rattle.bus.specs.declared.Power.TheVariants.{On}
use Rattle.law_merging.specs.Merge.{events_of, picked}
use Rattle.law_merging.specs.Party.{to, is_memory, is_companion, BusEvent, PartyEvent, Whole}
use Rattle.law_merging.specs.Demand.{Merge, IfWritten}
use Rattle.law_parts.specs.Events.{clock_event, tick_byte, Held, event, held_by, after_events, answers_to}

-- Bit 0 is the line.
abbrev pub lines_of : List ℕ → List ℕ
lines_of ns = map (λ n. n % 2) ns

module _ (size : ℕ) (names : ℕ → Named) (D : Desks) where
  -- 01, Event bytes and answer bytes: "0 Start; 1 Stop", a Clock, a tick or an edge.
  abbrev pub byte_of : BusEvent (part_of size names D) → ℕ
  byte_of (line start) = 0
  byte_of (line stop) = 1
  byte_of (line (clock d)) = clock_event d
  byte_of (tick t) = tick_byte D t

  abbrev pub bytes_of : List (BusEvent (part_of size names D)) → List ℕ
  bytes_of es = map byte_of es

  -- Protection bits unchanged by writes (demand 3): no data byte that the list writes changes them.
  abbrev pub WritesSteadyIn : Held size names D → List (BusEvent (part_of size names D)) → Type 0
  WritesSteadyIn h [] = Unit {0}
  WritesSteadyIn h (e ∷ es) =
      let next = held_by size names D (event size names D h (byte_of e)) in
      IfWritten h.bus.phase e (D.guard next.companion ≡ D.guard h.companion) × WritesSteadyIn next es

  -- What a list leaves and answers; its events one by one.
  pub record Ran : Type 0 where
    pub held : Held size names D
    pub answers : List ℕ

  abbrev pub one_by_one : Held size names D → List ℕ → Ran
  one_by_one h es = record { held = after_events size names D h es; answers = answers_to size names D h es }

  -- What three lists leave and answer, the third a merge of the first two: memory, its address and the line answers to
  -- memory events as if the first list had run alone; the companion with its address and the whole answers to companion
  -- events, ticks and edges as if the second had.
  pub record Demanded (first second merged : Ran) (l : List (PartyEvent (part_of size names D))) : Type 0 where
    pub memory : merged.held.memory ≡ first.held.memory
    pub memory_address : merged.held.bus.address ≡ first.held.bus.address
    pub memory_lines : lines_of (picked is_memory l merged.answers) ≡ lines_of first.answers
    pub companion : merged.held.companion ≡ second.held.companion
    pub companion_answers : picked is_companion l merged.answers ≡ second.answers

  -- The demand, of what is said to run a list.
  abbrev pub DemandThree : (Held size names D → List ℕ → Ran) → Type 0
  DemandThree run =
      (h : Held size names D) (xs ys : List (BusEvent (part_of size names D)))
      (l : List (PartyEvent (part_of size names D)))
      → h.bus.power ≡ On → h.bus.phase ≡ Idle
      → Whole (part_of size names D) (to Memory) xs → Whole (part_of size names D) (to Companion) ys
      → Merge (part_of size names D) xs ys l → WritesSteadyIn h ys
      → Demanded (run h (bytes_of xs)) (run h (bytes_of ys)) (run h (bytes_of (events_of l))) l

  -- The protection may be asked for of the merged run, which is what a bus shows: the second list alone then keeps it too.
  abbrev pub SteadyMerged : Type 0
  SteadyMerged =
      (h : Held size names D) (xs ys : List (BusEvent (part_of size names D)))
      (l : List (PartyEvent (part_of size names D)))
      → h.bus.power ≡ On → h.bus.phase ≡ Idle
      → Whole (part_of size names D) (to Memory) xs → Whole (part_of size names D) (to Companion) ys
      → Merge (part_of size names D) xs ys l → WritesSteadyIn h (events_of l) → WritesSteadyIn h ys

  abbrev pub DemandThreeMerged : (Held size names D → List ℕ → Ran) → Type 0
  DemandThreeMerged run =
      (h : Held size names D) (xs ys : List (BusEvent (part_of size names D)))
      (l : List (PartyEvent (part_of size names D)))
      → h.bus.power ≡ On → h.bus.phase ≡ Idle
      → Whole (part_of size names D) (to Memory) xs → Whole (part_of size names D) (to Companion) ys
      → Merge (part_of size names D) xs ys l → WritesSteadyIn h (events_of l)
      → Demanded (run h (bytes_of xs)) (run h (bytes_of ys)) (run h (bytes_of (events_of l))) l
