-- SPDX-License-Identifier: Apache-2.0
-- The two devices of a part keep apart (demand 3), whatever else is on the bus.
--   run, answers_of           a list that is run, and what is looked at of its answers
--   masters                  the lines that the master alone makes
--   Steady                   no event changes the protection
--   Follows, KeptApart       a device does as its own list alone; both do, and are silent in all other transactions
use Rattle.std.specs.Prelude.{◌≡◌, Bool, true, List, [], ◌∷◌}
use Rattle.wire.specs.Machine.{Parts, Line, start, stop, clock, Event, line, tick, State, Answer, step, answer_of, masters_line}
use Rattle.law_merging.specs.Merge.{events_of, picked, list_of}
use Rattle.law_merging.specs.Party.{Party, is_memory, is_companion, is_foreign, BusEvent, PartyEvent}

-- 01, Event bytes and answer bytes: "for a Clock, low if the master or the device pulls it low; for other events 1";
-- here by the master alone.
abbrev pub masters : {T : Type 0} → List (Event T) → List Bool
masters [] = []
masters (line x ∷ es) = masters_line x ∷ masters es
masters (tick t ∷ es) = true ∷ masters es

module _ (P : Parts) where
  -- A list is its events one by one.
  abbrev pub run : State P → List (BusEvent P) → State P
  run s [] = s
  run s (e ∷ es) = run (step P s e).state es

  -- What is looked at of the answer to each event.
  abbrev pub answers_of : {Z : Type 0} → (Answer P → Z) → State P → List (BusEvent P) → List Z
  answers_of look s [] = []
  answers_of look s (e ∷ es) = look (answer_of P (step P s e)) ∷ answers_of look (step P s e).state es

  abbrev pub Steady : State P → List (BusEvent P) → Type 0
  Steady s [] = Unit {0}
  Steady s (e ∷ es) =
      (P.guard (step P s e).state.companion ≡ P.guard s.companion) × Steady (step P s e).state es

  -- The merged list, run from s, leaves a part of the state, and is answered, as the list of `mine` alone, run from t.
  pub record Follows (mine : Party → Bool) {Y Z : Type 0} (part : State P → Y) (look : Answer P → Z)
      (s t : State P) (l : List (PartyEvent P)) : Type 0 where
    pub same : part (run s (events_of l)) ≡ part (run t (list_of mine l))
    pub answered : picked mine l (answers_of look s (events_of l)) ≡ answers_of look t (list_of mine l)

  -- The memory, its address and the lines of memory events follow the memory's list; the companion and the whole
  -- answers to companion events and ticks the companion's; in all other transactions the device pulls no line low.
  pub record KeptApart (s t u : State P) (l : List (PartyEvent P)) : Type 0 where
    pub memory : Follows is_memory (λ s. s.memory) (λ a. a.line) s t l
    pub companion : Follows is_companion (λ s. s.companion) (λ a. a) s u l
    pub quiet : picked is_foreign l (answers_of (λ a. a.line) s (events_of l)) ≡ masters (list_of is_foreign l)
