-- SPDX-License-Identifier: Apache-2.0
-- What each answer to reading an image says (01, Entries and refusal numbers; and, at its end: "If an answer is an
-- enum, a definition lists this paper's number and values for each of its cases, and the promises use that
-- definition"), over size and select.
--   WrittenBy                  a well-formed state writes an image
--   Says, decoded_says          each answer's line of 01's table: its number, when it is given, what is returned
--   DecodeSettled              the contract of `decode`
use Rattle.std.specs.Prelude.{ℕ, ◌≡◌, true, List, Option, Some, None}
use Rattle.numbers.specs.Numbers.{accepted, wrong_state}
use Rattle.fm31.specs.Limits.{well_formed}
use Rattle.fm31.specs.declared.State.{State}
use Rattle.fm31_image.specs.Image.{image_of}

-- Auxiliary: the image is the one that the state, well-formed for size and select, writes.
abbrev pub WrittenBy : ℕ → ℕ → List ℕ → State → Type 0
WrittenBy size select i s = (well_formed size select s ≡ true) × (image_of s ≡ i)

-- A line of 01's table: "No.", "Given exactly when" of an image, and of "Returned and left" the state. (Nothing is left
-- otherwise than it was: the image is only read.)
pub record Says : Type 1 where
  pub number : ℕ
  pub given : List ℕ → Type 0
  pub returned : Option State

-- Case by case: 0, "none below", with the state that writes the image; 2, "no well-formed state writes it", with none.
abbrev pub decoded_says : ℕ → ℕ → Option State → Says
decoded_says size select (Some s) = record {
  number = accepted;
  given = λ i. WrittenBy size select i s;
  returned = Some s;
}
decoded_says size select None =
    record { number = wrong_state; given = λ i. (s : State) → WrittenBy size select i s → ⊥; returned = None }

-- The contract of `decode`: an answer is given exactly when its line says so.
abbrev pub DecodeSettled : ℕ → ℕ → List ℕ → Option State → Type 0
DecodeSettled size select i r = (decoded_says size select r).given i
