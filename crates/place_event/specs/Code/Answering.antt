-- SPDX-License-Identifier: Apache-2.0
-- What an event leaves of image and memory, with its answer byte. Auxiliary: the entries' contracts speak of whole outcomes.
use Rattle.std.specs.Prelude.{ℕ, ◌≡◌, List}
use Rattle.fm3130.specs.Answer.{answer_byte}
use Rattle.fm3130.specs.Chip.{Done}
use Rattle.fm3130_image.specs.Image.{image_of}

pub record Answered (d : Done) (r : ℕ) (i' m' : List ℕ) : Type 0 where
  pub answer : r ≡ answer_byte d.state d.line
  pub image : i' ≡ image_of d.state
  pub memory : m' ≡ d.memory
