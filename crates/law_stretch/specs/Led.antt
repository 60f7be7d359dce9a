-- SPDX-License-Identifier: Apache-2.0
-- A part of a list of events, from one place to another, over what one event does and what every event keeps. It is auxiliary:
-- the entries' contracts speak of the whole list.
use Rattle.std.specs.Prelude.{ℕ, ◌≤◌, ◌≡◌, List, length, take, drop}
use Rattle.bus_list.specs.Run.{Stepped, following, run_of}

module _ {State : Type 0} (after : State → List ℕ → ℕ → Stepped State) (Ok : State → Type 0) (size : ℕ) where
  -- From a state, a memory, answers and a place to those after some more events: what is left, run from the second place, gives
  -- what was left at the first.
  pub record Led (es : List ℕ) (s : State) (m a : List ℕ) (i : ℕ) (s' : State) (m' a' : List ℕ) (i' : ℕ) : Type 0 where
    pub onward : i ≤ i'
    pub inside : i' ≤ length es
    pub room : length a' ≡ length a
    pub state : Ok s'
    pub memory : length m' ≡ size
    pub run : following (take i' a') (run_of after s' m' (drop i' es)) ≡ following (take i a) (run_of after s m (drop i es))
    pub rest : drop i' a' ≡ drop i' a
