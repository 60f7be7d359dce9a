-- SPDX-License-Identifier: Apache-2.0
-- The entry for one event, refusals too (01, Entries and refusal numbers). `StepSettled` is its whole outcome.
--   Ready                                what an event asks of state and memory
--   AnsweredWith, ToldWith               what the functions below the entry return and leave
--   admission                            the tests before an event
--   refused, answered, step_of            what the entry returns and leaves
--   StepSettled                          the entry's contract
use Rattle.std.specs.Prelude.{ℕ, ◌<◌, ◌≤◌, ◌≡◌, cond, List, eqb, ltb, length, Result, Ok, Err}
use Rattle.fm3130_registers.specs.Map.{LAST}
use Rattle.numbers.specs.Numbers.{accepted, wrong_memory, wrong_state, unknown_event}
use Rattle.numbers.specs.declared.Refusal.{Refusal}
use Rattle.numbers.specs.declared.Refusal.TheVariants.{WrongMemory, WrongState, UnknownEvent}
use Rattle.fm3130.specs.Chip.{memory_size, Done}
use Rattle.calendar.specs.declared.Rolled.{Rolled}
use Rattle.calendar.specs.declared.Rolled.TheVariants.{Nothing}
use Rattle.fm3130.specs.Event.{event_of, rolled_in}
use Rattle.fm3130.specs.Answer.{answer_byte}
use Rattle.fm3130.specs.Limits.{well_formed}
use Rattle.fm3130.specs.declared.State.{State}
use Rattle.fm3130.specs.declared.Answered.{Answered}
use Rattle.fm3130.specs.declared.Told.{Told}
use Rattle.fm3130.specs.declared.Stepped.{Stepped}

-- Auxiliary: what the code asks before it does an event; every well-formed state with 8,192 bytes of memory has it.
pub record Ready (s : State) (m : List ℕ) : Type 0 where
  pub memory : length m ≡ memory_size
  pub address : s.address < memory_size
  pub desk : s.companion.address ≤ LAST

-- Auxiliary: what a function returns, and the memory it leaves, are those of an event.
pub record AnsweredWith (r : Answered) (m : List ℕ) (d : Done) : Type 0 where
  pub result : r ≡ record { state = d.state; answer = answer_byte d.state d.line }
  pub memory : m ≡ d.memory

-- The same, with the field of the calendar that the event says.
pub record ToldWith (r : Told) (m : List ℕ) (d : Done) (w : Rolled) : Type 0 where
  pub result : r ≡ record { state = d.state; answer = answer_byte d.state d.line; rolled = w }
  pub memory : m ≡ d.memory

-- What the entry returns, and the memory it leaves.
pub record Step : Type 0 where
  pub number : ℕ
  pub state : State
  pub answer : ℕ
  pub rolled : Rolled
  pub memory : List ℕ

abbrev pub step_with : Stepped → List ℕ → Step
step_with r m = record { number = r.number; state = r.state; answer = r.answer; rolled = r.rolled; memory = m }

-- "A refused single event returns its state unchanged with answer byte 1", and says nothing.
abbrev pub refusal : ℕ → State → Stepped
refusal n s = record { number = n; state = s; answer = 1; rolled = Nothing }

abbrev pub acceptance : State → ℕ → Rolled → Stepped
acceptance s a w = record { number = accepted; state = s; answer = a; rolled = w }

-- "As 1": nothing is written.
abbrev pub refused : ℕ → State → List ℕ → Step
refused n s m = step_with (refusal n s) m

abbrev pub answered : Done → Rolled → Step
answered d w = step_with (acceptance d.state (answer_byte d.state d.line) w) d.memory

-- Auxiliary: the tests that come before an event, in the order of the numbers.
abbrev pub admission : State → List ℕ → ℕ → Result (Unit {0}) Refusal
admission s m e =
    cond (eqb (length m) memory_size) (cond (well_formed s) (cond (ltb e 8) (Ok tt) (Err UnknownEvent)) (Err WrongState))
    (Err WrongMemory)

-- "Checked in the order of the numbers."
unfoldable pub step_of : State → List ℕ → ℕ → Step
step_of s m e =
    cond (eqb (length m) memory_size)
    (cond (well_formed s)
    (cond (ltb e 8) (answered (event_of s m e) (rolled_in s e)) (refused unknown_event s m))
    (refused wrong_state s m))
    (refused wrong_memory s m)

-- The contract of `State::step`: what it returns and the memory it leaves are `step_of` of what it was given.
abbrev pub StepSettled : State → List ℕ → ℕ → Stepped → List ℕ → Type 0
StepSettled s m e r m' = step_with r m' ≡ step_of s m e
