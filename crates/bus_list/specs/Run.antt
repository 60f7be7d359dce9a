-- SPDX-License-Identifier: Apache-2.0
-- A list of events, free of any chip: over what one event does to a state and the lent memory (01, Entries: "A second
-- entry runs a list of events").
--   Stepped, Ended, following   what an event leaves and answers; what a list does; the same, after earlier answers
--   run_of                       the events one by one
--   answers_over, RanThrough     the answers in their buffer; what a function leaves is that of a list
--   all_known                    no event byte is above the last
use Rattle.std.specs.Prelude.{ℕ, ◌≡◌, Bool, true, ◌&&◌, List, [], ◌∷◌, ◌++◌, leb, length, drop}

-- What one event leaves, and its answer byte.
pub record Stepped (State : Type 0) : Type 0 where
  pub state : State
  pub memory : List ℕ
  pub answer : ℕ

-- What a list of events leaves: the state, the memory, and one answer an event.
pub record Ended (State : Type 0) : Type 0 where
  pub state : State
  pub memory : List ℕ
  pub answers : List ℕ

-- Auxiliary: what a list leaves, with the answers that were given before it.
abbrev pub following : {State : Type 0} → List ℕ → Ended State → Ended State
following before r = record { state = r.state; memory = r.memory; answers = before ++ r.answers }

-- "Answer bytes past the events stay unchanged."
abbrev pub answers_over : {State : Type 0} → Ended State → List ℕ → List ℕ → List ℕ
answers_over r es a = r.answers ++ drop (length es) a

module _ {State : Type 0} (after : State → List ℕ → ℕ → Stepped State) where
  -- The events one by one, each on the state and the memory that the one before it left.
  unfoldable pub run_of : State → List ℕ → List ℕ → Ended State
  run_of s m [] = record { state = s; memory = m; answers = [] }
  run_of s m (e ∷ es) = let d = after s m e in following (d.answer ∷ []) (run_of d.state d.memory es)

-- Auxiliary: what a function leaves is what a list run does, the state in the form that it is kept in.
pub record RanThrough {State Kept : Type 0} (run : State → List ℕ → List ℕ → Ended State) (keep : State → Kept)
    (s : State) (m es a : List ℕ) (k : Kept) (m' a' : List ℕ) : Type 0 where
  pub image : k ≡ keep (run s m es).state
  pub memory : m' ≡ (run s m es).memory
  pub answers : a' ≡ answers_over (run s m es) es a

-- 01's number 3: an event byte above the last that the part knows.
unfoldable pub all_known : ℕ → List ℕ → Bool
all_known last [] = true
all_known last (e ∷ es) = leb e last && all_known last es
