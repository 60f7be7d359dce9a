-- SPDX-License-Identifier: Apache-2.0
-- A device in its seat, alone or among others on one line (02, number 12): which events it hears, one of them, and a list.
--   hears_at, own_byte      which events the device at a place hears, and as which of its own ten
--   joined_at, joined_over  its answer with what those before it answered: one, and a list in its buffer
--   heard_in, ran_in        an event of the line, and a list of them, on a device in its seat
--   HeardAs, HeardInPlace what a function that does an event returns and leaves: by value, and of a lent state
--   RanAt                 what a function that does a list returns and leaves
use Rattle.std.specs.Prelude.{ℕ, ◌+◌, ◌/◌, ◌%◌, ◌≡◌, Bool, cond, ◌||◌, List, [], ◌∷◌, eqb, ltb}
use Rattle.bus_list.specs.Run as list
use Rattle.fm31.specs.Run.{after}
use Rattle.fm31.specs.declared.State.{State}
use Rattle.fm31.specs.declared.Answered.{Answered}
use Rattle.fm31_run.specs.declared.Seat.{Seat}

-- "Ticks and power events reach all four, and a counter edge names its device": the device at place v hears event bytes 0 to 7; 8
-- and 9 are the first device's edges, 10 and 11 the second's, and so on.
abbrev pub hears_at : ℕ → ℕ → Bool
hears_at v e = ltb e 8 || eqb (e / 2) (v + 4)

-- The event as the device has it: 8 and 9 are its own edges.
unfoldable pub own_byte : ℕ → ℕ
own_byte e = cond (ltb e 8) e (8 + e % 2)

-- "The line is low if any pulls it low": what the devices before it answered, and its own answer. Before the first is none.
unfoldable pub joined_at : ℕ → ℕ → ℕ → ℕ
joined_at v before answer = cond (eqb v 0 || eqb before 1) answer 0

-- The same of each answer of a list. "Answer bytes past the events stay unchanged."
abbrev pub joined_over : ℕ → List ℕ → List ℕ → List ℕ
joined_over v a [] = a
joined_over v [] (x ∷ xs) = []
joined_over v (b ∷ a) (x ∷ xs) = joined_at v b x ∷ joined_over v a xs

-- An event that it does not hear changes nothing, and the device leaves the line high.
abbrev pub unheard : State → List ℕ → list.Stepped State
unheard s m = record { state = s; memory = m; answer = 1 }

abbrev pub heard_in : Seat → State → List ℕ → ℕ → list.Stepped State
heard_in z s m e = cond (hears_at z.place e) (after z.size z.select s m (own_byte e)) (unheard s m)

-- The events one by one, each on the state and the memory that the one before it left.
abbrev pub ran_in : Seat → State → List ℕ → List ℕ → list.Ended State
ran_in z s m es = list.run_of (heard_in z) s m es

pub record HeardAs (z : Seat) (s : State) (m : List ℕ) (e before : ℕ) (r : Answered) (m' : List ℕ) : Type 0 where
  pub state : r.state ≡ (heard_in z s m e).state
  pub answer : r.answer ≡ joined_at z.place before (heard_in z s m e).answer
  pub memory : m' ≡ (heard_in z s m e).memory

-- 02, number 12: "changed in place": the state at exit, the answer and the memory are those of an event.
abbrev pub HeardInPlace : Seat → State → List ℕ → ℕ → ℕ → State → ℕ → List ℕ → Type 0
HeardInPlace z s m e before s' a m' = HeardAs z s m e before (record { state = s'; answer = a }) m'

pub record RanAt (z : Seat) (s : State) (m es a : List ℕ) (r : State) (m' a' : List ℕ) : Type 0 where
  pub state : r ≡ (ran_in z s m es).state
  pub memory : m' ≡ (ran_in z s m es).memory
  pub answers : a' ≡ joined_over z.place a (ran_in z s m es).answers
