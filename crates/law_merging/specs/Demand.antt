-- SPDX-License-Identifier: Apache-2.0
-- Demand 3 in its own words, over any part: a list of whole memory transactions, a list of whole companion transactions
-- and ticks, and a merge of the two in which, inside a transaction of one list, of the other's events only ticks fall;
-- protection bits unchanged by writes.
--   WhereWritten, IfWritten          what is asked of writes only
--   OnlyWrites                       nothing but a written byte can change the protection
--   MergeFrom, Merge                 a merge of two lists
--   WritesSteady                     no written byte changes the protection
--   Isolated                         what then holds
--   SteadyMerged                     the protection may be asked for of the merged run as well
use Rattle.std.specs.Prelude.{ℕ, ◌≡◌, List, [], ◌∷◌}
use Rattle.wire.specs.Machine.{Parts, Line, start, stop, clock, Event, line, tick, State, step}
use Rattle.wire.specs.declared.Side.TheVariants.{Memory, Companion}
use Rattle.wire.specs.declared.Phase.{Phase}
use Rattle.wire.specs.declared.Phase.TheVariants.{Idle, Slave, AddressHigh, AddressLow, Pointer, Write, Read}
use Rattle.law_merging.specs.Merge.{Reader, between, next, by, events_of, picked}
use Rattle.law_merging.specs.Party.{to, is_memory, is_companion, BusEvent, PartyEvent, Whole}
use Rattle.law_merging.specs.Apart.{run, answers_of}

-- Auxiliary: what is asked only where a data byte is written to the companion; and of an event, if it is such a Clock.
abbrev pub WhereWritten : Phase → Type 0 → Type 0
WhereWritten Idle X = Unit {0}
WhereWritten (Slave k b) X = Unit {0}
WhereWritten (AddressHigh k b) X = Unit {0}
WhereWritten (AddressLow h k b) X = Unit {0}
WhereWritten (Pointer k b) X = Unit {0}
WhereWritten (Write Memory k b) X = Unit {0}
WhereWritten (Write Companion k b) X = X
WhereWritten (Read s k b) X = Unit {0}

abbrev pub IfWritten : {T : Type 0} → Phase → Event T → Type 0 → Type 0
IfWritten p (line start) X = Unit {0}
IfWritten p (line stop) X = Unit {0}
IfWritten p (line (clock d)) X = WhereWritten p X
IfWritten p (tick t) X = Unit {0}

-- Of a part: a tick, an address byte and a read leave its protection as it is.
pub record OnlyWrites (P : Parts) : Type 0 where
  pub tick_keeps : (t : P.Tick) (c : P.Desk) → P.guard (P.ticked t c) ≡ P.guard c
  pub address_keeps : (c : P.Desk) (b : ℕ) → P.guard (P.aim c b).next ≡ P.guard c
  pub read_keeps : (c : P.Desk) (b : ℕ) → P.guard (P.loaded c b) ≡ P.guard c

module _ (P : Parts) where
  -- Each list keeps its order; the readers of the first and of the second list stand at q and r.
  pub data MergeFrom : Reader → Reader → List (BusEvent P) → List (BusEvent P) → List (PartyEvent P) → Type 0 where
    done : MergeFrom between between [] [] []
    one : {q : Reader} {x : Line} {xs ys : List (BusEvent P)} {l : List (PartyEvent P)}
        → MergeFrom (next q x) between xs ys l → MergeFrom q between (line x ∷ xs) ys (by (to Memory) (line x) ∷ l)
    two : {r : Reader} {x : Line} {xs ys : List (BusEvent P)} {l : List (PartyEvent P)}
        → MergeFrom between (next r x) xs ys l → MergeFrom between r xs (line x ∷ ys) (by (to Companion) (line x) ∷ l)
    inside : {q r : Reader} {t : P.Tick} {xs ys : List (BusEvent P)} {l : List (PartyEvent P)}
        → MergeFrom q r xs ys l → MergeFrom q r xs (tick t ∷ ys) (by (to Companion) (tick t) ∷ l)

  abbrev pub Merge : List (BusEvent P) → List (BusEvent P) → List (PartyEvent P) → Type 0
  Merge xs ys l = MergeFrom between between xs ys l

  -- Protection bits unchanged by writes (demand 3): no data byte that the second list writes changes them.
  abbrev pub WritesSteady : State P → List (BusEvent P) → Type 0
  WritesSteady s [] = Unit {0}
  WritesSteady s (e ∷ es) =
      IfWritten s.phase e (P.guard (step P s e).state.companion ≡ P.guard s.companion)
      × WritesSteady (step P s e).state es

  -- The memory, its address, and the lines of memory events are as if the first list had run alone; the companion, its
  -- address, and the answers to companion events and ticks, line and pin, as if the second had.
  pub record Isolated (s : State P) (xs ys : List (BusEvent P)) (l : List (PartyEvent P)) : Type 0 where
    pub memory : (run P s (events_of l)).memory ≡ (run P s xs).memory
    pub memory_lines : picked is_memory l (answers_of P (λ a. a.line) s (events_of l)) ≡ answers_of P (λ a. a.line) s xs
    pub companion : (run P s (events_of l)).companion ≡ (run P s ys).companion
    pub companion_answers : picked is_companion l (answers_of P (λ a. a) s (events_of l)) ≡ answers_of P (λ a. a) s ys

  -- Where no byte that is written in the merged run changes the protection, none that the second list alone writes does.
  abbrev pub SteadyMerged : Type 0
  SteadyMerged =
      (s : State P) (xs ys : List (BusEvent P)) (l : List (PartyEvent P)) → s.phase ≡ Idle
      → Whole P (to Memory) xs → Whole P (to Companion) ys → Merge xs ys l
      → WritesSteady s (events_of l) → WritesSteady s ys
