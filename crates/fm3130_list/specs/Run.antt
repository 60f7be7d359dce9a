-- SPDX-License-Identifier: Apache-2.0
-- A list of events on the FM3130 (01, Entries: "A second entry runs a list of events"), refusals too: that of every part
-- (crate `bus_list`).
--   Ended, answer_to, after, run_of     a list of events, one by one; RanThrough, of what a function leaves
--   all_known                          every event byte is one of the eight
--   outcome_of                         all that a caller can see of the entry
use Rattle.std.specs.Prelude.{ℕ, Bool, List}
use Rattle.bus_list.specs.Run as list
use Rattle.bus_list.specs.Outcome as outcome
use Rattle.fm3130.specs.Chip.{memory_size, Done}
use Rattle.fm3130.specs.Event.{event_of}
use Rattle.fm3130.specs.Answer.{answer_byte}
use Rattle.fm3130.specs.declared.State.{State}
use Rattle.fm3130_image.specs.Image.{image_of, decode_of}
use Rattle.fm3130_image.specs.Reading.{decoded_says}
pub use Rattle.bus_list.specs.Run.{following, answers_over}
pub use Rattle.bus_list.specs.Outcome.{Outcome, refused}

-- What a list of events leaves: the state, the memory, and one answer an event.
abbrev pub Ended : Type 0
Ended = list.Ended State

-- Auxiliary: the answer to an event.
abbrev pub answer_to : Done → ℕ
answer_to d = answer_byte d.state d.line

-- One event, as a list does it.
abbrev pub after : State → List ℕ → ℕ → list.Stepped State
after s m e = let d = event_of s m e in record { state = d.state; memory = d.memory; answer = answer_to d }

-- The events one by one, each on the state and the memory that the one before it left.
unfoldable pub run_of : State → List ℕ → List ℕ → Ended
unfolding list.run_of
run_of s m es = list.run_of after s m es

-- Auxiliary: what a function leaves in the image and the lent buffers is that of a list of events.
abbrev pub RanThrough : State → List ℕ → List ℕ → List ℕ → List ℕ → List ℕ → List ℕ → Type 0
RanThrough s m es a i' m' a' = list.RanThrough run_of image_of s m es a i' m' a'

-- No event byte is above 7.
abbrev pub all_known : List ℕ → Bool
all_known es = list.all_known 7 es

-- "Checked in the order of the numbers": image, memory, events and answers to the whole outcome.
abbrev pub outcome_of : List ℕ → List ℕ → List ℕ → List ℕ → Outcome
outcome_of i m es a =
    let read = decoded_says (decode_of i) in
    outcome.outcome_of after image_of memory_size 7 read.number read.returned i m es a
