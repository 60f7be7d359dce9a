-- SPDX-License-Identifier: Apache-2.0
-- A part of a list of events, from one place to another. All is auxiliary: the entry's contract speaks of the whole list.
--   Led               what is left, run from the second place, gives what was left at the first
--   Along, Reached    a row that touches no memory, of any length; with any memory
--   Clocked, Ticked   the same of Clocks and of ticks, with their progress
--   Begun             the first bit of a byte that goes out was sent
use Rattle.std.specs.Prelude.{ℕ, ◌/◌, ◌<◌, ◌≤◌, ◌≡◌, true, List, length, take, drop, get_or}
use Rattle.fm3130.specs.Chip.{memory_size}
use Rattle.fm3130.specs.Limits.{well_formed}
use Rattle.fm3130.specs.declared.State.{State}
use Rattle.fm3130_image.specs.Image.{candidate}
use Rattle.fm3130_image.specs.Code.Accepting.{is_image}
use Rattle.fm3130_list.specs.Run.{following, run_of}

-- From a state, a memory, answers and a place to those after some more events.
pub record Led (es : List ℕ) (s : State) (m a : List ℕ) (i : ℕ) (s' : State) (m' a' : List ℕ) (i' : ℕ) : Type 0 where
  pub onward : i ≤ i'
  pub inside : i' ≤ length es
  pub room : length a' ≡ length a
  pub state : well_formed s' ≡ true
  pub memory : length m' ≡ memory_size
  pub run : following (take i' a') (run_of s' m' (drop i' es)) ≡ following (take i a) (run_of s m (drop i es))
  pub rest : drop i' a' ≡ drop i' a

-- The same of the states that lie in two images, the second accepted too, where the memory is not touched and perhaps no
-- event was done.
pub record Along (es i m a : List ℕ) (from : ℕ) (i' a' : List ℕ) (to : ℕ) : Type 0 where
  pub image : is_image i' ≡ true
  pub led : Led es (candidate i) m a from (candidate i') m a' to

-- With any memory.
abbrev pub Reached : List ℕ → List ℕ → List ℕ → ℕ → List ℕ → List ℕ → ℕ → Type 0
Reached es i a from i' a' to = (m : List ℕ) → length m ≡ memory_size → Along es i m a from i' a' to

-- A row of Clocks, and one of ticks: one at least, where the first event is one.
abbrev pub Clocked : List ℕ → List ℕ → List ℕ → ℕ → List ℕ → List ℕ → ℕ → Type 0
Clocked es i a from i' a' to =
    Reached es i a from i' a' to × (from < length es → get_or es from 0 / 2 ≡ 1 → from < to)

abbrev pub Ticked : List ℕ → List ℕ → List ℕ → ℕ → List ℕ → List ℕ → ℕ → Type 0
Ticked es i a from i' a' to = Reached es i a from i' a' to × (from < length es → get_or es from 0 ≡ 4 → from < to)

-- A byte that goes out has begun, and is not near its end.
pub record Begun (es i m a : List ℕ) (from : ℕ) (i' a' : List ℕ) (to : ℕ) : Type 0 where
  pub along : Along es i m a from i' a' to
  pub sends : 6 < get_or i' 26 0
  pub some : 0 < get_or i' 27 0
  pub few : get_or i' 27 0 < 7
