-- SPDX-License-Identifier: Apache-2.0
-- How many events of a call on a set were answered is told by its number (01, Entries: "The count is the number of events"; "count 0,
-- nothing written"): all under 0, and none under any other.
--   answered_by      so many
--   CountByNumber   so many answers are written, those of the first events, and the rest of the buffer stays; a refusal writes nothing
use Rattle.std.specs.Prelude.{ℕ, ◌≡◌, cond, List, ◌++◌, map, eqb, length, take, drop}
use Rattle.fm31.specs.Step.{answer_byte}
use Rattle.set_event.specs.Set.{Together, lines_to}
use Rattle.set_event.specs.Outcome.{lent_to}
use Rattle.set_image.specs.Read.{reading_of}
use Rattle.c_fm31set.specs.Entry.{Outcome, outcome, run_outcome}

abbrev pub answered_by : ℕ → List ℕ → ℕ
answered_by n es = cond (eqb n 0) (length es) 0

-- Of a call with these events, a set and its images before it, the buffer of its answers, and its outcome.
pub record Told (t : Together) (images es room : List ℕ) (o : Outcome) : Type 0 where
  pub answers : o.answers
      ≡ take (answered_by o.number es) (map answer_byte (lines_to t es)) ++ drop (answered_by o.number es) room
  pub count : length (take (answered_by o.number es) (map answer_byte (lines_to t es))) ≡ answered_by o.number es
  pub refused : (o.number ≡ 0 → ⊥) → o ≡ outcome o.number images t room

abbrev pub CountByNumber : Type 0
CountByNumber =
    (plan images a b c d es room : List ℕ)
    → Told (lent_to (reading_of plan images).set a b c d) images es room (run_outcome plan images a b c d es room)
