-- SPDX-License-Identifier: Apache-2.0
-- The entry for one event, refusals too (01, Entries and refusal numbers; 02, number 5). `StepSettled` is its whole
-- outcome.
--   served_by, answer_byte             what the companion's part of an event returns; the answer byte
--   Ready, AnsweredWith              what an event asks of state and memory; what the function below the entry leaves
--   admission                        the tests before an event
--   refusal, answered, step_of        what the entry returns and leaves
--   StepSettled                      the entry's contract
use Rattle.std.specs.Prelude.{ℕ, ◌<◌, ◌≤◌, ◌≡◌, Bool, cond, List, eqb, leb, length, Result, Ok, Err}
use Rattle.wire.specs.declared.Named.{Named}
use Rattle.fm31_counters.specs.Map.{FIRST, LAST}
use Rattle.bus.specs.Event as Event
use Rattle.bus_deeds.specs.Serve.{served_of, told_by, saying}
use Rattle.bus_deeds.specs.declared.Deed.{Deed}
use Rattle.bus_deeds.specs.declared.serve.Served.{Served}
use Rattle.fm31_counters.specs.declared.Counters.{Counters}
use Rattle.numbers.specs.Numbers.{accepted, wrong_memory, wrong_state, unknown_event}
use Rattle.numbers.specs.declared.Refusal.{Refusal}
use Rattle.numbers.specs.declared.Refusal.TheVariants.{WrongMemory, WrongState, UnknownEvent}
use Rattle.fm31.specs.Chip.{last_event}
use Rattle.fm31.specs.Chip.{size_of, companion31, Done, event_of}
use Rattle.fm31.specs.Limits.{well_formed}
use Rattle.fm31.specs.declared.Size.{Size}
use Rattle.fm31.specs.declared.State.{State}
use Rattle.fm31.specs.declared.Answered.{Answered}
use Rattle.fm31.specs.declared.Stepped.{Stepped}

-- Auxiliary: the companion once it did what it was asked, as the code returns it. No beat tells anything.
abbrev pub served_by : Deed → Counters → Served Counters (Unit {0})
served_by q c = saying (served_of companion31 q c) (told_by (λ t c. tt) q c)

-- 02, number 5: "answer bits 1 to 3 are 0": the line alone.
abbrev pub answer_byte : Bool → ℕ
answer_byte line = cond line 1 0

-- Auxiliary: what the code asks before it does an event; every well-formed state with all its memory has it.
pub record Ready (size : ℕ) (s : State) (m : List ℕ) : Type 0 where
  pub memory : length m ≡ size
  pub address : s.bus.address < size
  pub least : FIRST ≤ s.counters.address
  pub most : s.counters.address ≤ LAST

-- Auxiliary: the state that an event leaves.
abbrev pub state_of : {size : ℕ} {names : ℕ → Named} → Event.Done size names companion31 → State
state_of d = record { bus = d.bus; counters = d.companion }

-- Auxiliary: what a function returns, and the memory it leaves, are those of an event.
pub record AnsweredWith (size select : ℕ) (r : Answered) (m : List ℕ) (d : Done size select) : Type 0 where
  pub result : r ≡ record { state = state_of d; answer = answer_byte d.line }
  pub memory : m ≡ d.memory

-- What the entry returns, and the memory it leaves.
pub record Step : Type 0 where
  pub number : ℕ
  pub state : State
  pub answer : ℕ
  pub memory : List ℕ

abbrev pub step_with : Stepped → List ℕ → Step
step_with r m = record { number = r.number; state = r.state; answer = r.answer; memory = m }

-- "A refused single event returns its state unchanged with answer byte 1."
abbrev pub refusal : ℕ → State → Stepped
refusal n s = record { number = n; state = s; answer = 1 }

-- "As 1": nothing is written.
abbrev pub refused : ℕ → State → List ℕ → Step
refused n s m = step_with (refusal n s) m

abbrev pub answered : {size : ℕ} {names : ℕ → Named} → Event.Done size names companion31 → Step
answered d = step_with (record { number = accepted; state = state_of d; answer = answer_byte d.line }) d.memory

-- Auxiliary: the tests that come before an event, in the order of the numbers.
abbrev pub admission : ℕ → ℕ → State → List ℕ → ℕ → Result (Unit {0}) Refusal
admission size select s m e =
    cond (eqb (length m) size)
    (cond (well_formed size select s) (cond (leb e last_event) (Ok tt) (Err UnknownEvent)) (Err WrongState))
    (Err WrongMemory)

-- "Checked in the order of the numbers", over size and select.
unfoldable pub step_of : ℕ → ℕ → State → List ℕ → ℕ → Step
step_of size select s m e =
    cond (eqb (length m) size)
    (cond (well_formed size select s)
    (cond (leb e last_event) (answered (event_of size select s m e)) (refused unknown_event s m))
    (refused wrong_state s m))
    (refused wrong_memory s m)

-- The contract of `State::step`: what it returns and the memory it leaves are `step_of` of what it was given.
abbrev pub StepSettled : Size → ℕ → State → List ℕ → ℕ → Stepped → List ℕ → Type 0
StepSettled k select s m e r m' = step_with r m' ≡ step_of (size_of k) select s m e
