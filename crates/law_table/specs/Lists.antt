-- SPDX-License-Identifier: Apache-2.0
-- The list run under each number (01, Entries and refusal numbers), in literal numbers: "Checked in the order of the numbers; all
-- events are tested before the first is done"; "count 0, nothing written".
--   refused_by      what a refused call returns and leaves
--   EachKnown      no event byte is above 7
--   ListNumbers    the numbers, each given exactly when its line says; an empty list is accepted
use Rattle.std.specs.Prelude.{ℕ, ◌≤◌, ◌<◌, ◌≡◌, List, [], ◌∷◌, ◌++◌, length}
use Rattle.fm3130.specs.declared.State.{State}
use Rattle.fm3130_image.specs.Reading.{WrittenBy}
use Rattle.fm3130_list.specs.Run.{Outcome, outcome_of}

abbrev pub refused_by : ℕ → List ℕ → List ℕ → List ℕ → Outcome
refused_by n i m a = record { number = n; count = 0; image = i; memory = m; answers = a }

abbrev pub EachKnown : List ℕ → Type 0
EachKnown [] = Unit {0}
EachKnown (e ∷ es) = (e ≤ 7) × EachKnown es

pub record ListNumbers (i m es a : List ℕ) : Type 0 where
  -- 1: "memory is not 8,192 bytes"
  pub memory : (length m ≡ 8192 → ⊥) → outcome_of i m es a ≡ refused_by 1 i m a
  -- 2: "no well-formed state writes it"
  pub image : length m ≡ 8192 → ((s : State) → WrittenBy i s → ⊥) → outcome_of i m es a ≡ refused_by 2 i m a
  -- 3: "some event byte is above 7", wherever it stands, and whatever room there is
  pub event : length m ≡ 8192 → (s : State) → WrittenBy i s → (before after : List ℕ) (e : ℕ) → es ≡ before ++ (e ∷ after)
      → 7 < e → outcome_of i m es a ≡ refused_by 3 i m a
  -- 4: "answers shorter than events"
  pub answers : length m ≡ 8192 → (s : State) → WrittenBy i s → EachKnown es → length a < length es
      → outcome_of i m es a ≡ refused_by 4 i m a
  -- 0: "none below"
  pub answered : length m ≡ 8192 → (s : State) → WrittenBy i s → EachKnown es → length es ≤ length a
      → ((outcome_of i m es a).number ≡ 0) × ((outcome_of i m es a).count ≡ length es)

abbrev pub EveryListNumber : Type 0
EveryListNumber = (i m es a : List ℕ) → ListNumbers i m es a
