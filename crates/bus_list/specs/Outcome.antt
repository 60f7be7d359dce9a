-- SPDX-License-Identifier: Apache-2.0
-- What a list run over an image, a memory, events and answers comes to, refusals too (01, Entries and refusal numbers):
-- over what one event does, the image of a state, the memory's size and the last event byte.
--   Outcome, refused, written           all that a caller can see; under a number; of events that were done
--   on_decoded, outcome_of                the tests in the order of the numbers
--   Numbered, numbered                  the same without the count, which the number tells
use Rattle.std.specs.Prelude.{ℕ, cond, List, leb, eqb, length, Option, Some, None}
use Rattle.numbers.specs.Numbers.{accepted, wrong_memory, unknown_event, short_answers}
use Rattle.bus_list.specs.Run.{Stepped, Ended, run_of, answers_over, all_known}

-- All that a caller of the list run can see of it.
pub record Outcome : Type 0 where
  pub number : ℕ
  pub count : ℕ
  pub image : List ℕ
  pub memory : List ℕ
  pub answers : List ℕ

-- "Count 0, nothing written."
abbrev pub refused : ℕ → List ℕ → List ℕ → List ℕ → Outcome
refused n i m a = record { number = n; count = 0; image = i; memory = m; answers = a }

-- "The count is the number of events"; the final state's image.
abbrev pub written : {State : Type 0} → (State → List ℕ) → Ended State → List ℕ → List ℕ → Outcome
written image_of r es a =
    record {
      number = accepted;
      count = length es;
      image = image_of r.state;
      memory = r.memory;
      answers = answers_over r es a;
    }

module _ {State : Type 0} (after : State → List ℕ → ℕ → Stepped State) (image_of : State → List ℕ) (size last : ℕ) where
  -- "All events are tested before the first is done", on what reading the image gave: its number, and its state, if any.
  abbrev pub on_decoded : ℕ → Option State → List ℕ → List ℕ → List ℕ → List ℕ → Outcome
  on_decoded n None i m es a = refused n i m a
  on_decoded n (Some s) i m es a =
      cond (all_known last es)
      (cond (leb (length es) (length a)) (written image_of (run_of after s m es) es a) (refused short_answers i m a))
      (refused unknown_event i m a)

  -- "Checked in the order of the numbers": what reading the image gave, image, memory, events and answers to the whole
  -- outcome.
  unfoldable pub outcome_of : ℕ → Option State → List ℕ → List ℕ → List ℕ → List ℕ → Outcome
  outcome_of n read i m es a = cond (eqb (length m) size) (on_decoded n read i m es a) (refused wrong_memory i m a)

-- How many events were done is not said apart where the number tells it: all under 0, none else.
pub record Numbered : Type 0 where
  pub number : ℕ
  pub image : List ℕ
  pub memory : List ℕ
  pub answers : List ℕ

abbrev pub numbered : Outcome → Numbered
numbered o = record { number = o.number; image = o.image; memory = o.memory; answers = o.answers }
