-- SPDX-License-Identifier: Apache-2.0
-- What a Clock asks of image and memory, and what it leaves. Auxiliary: the entries' contracts speak of whole outcomes.
--   Accepted   the image is accepted, the memory has its length
--   clock_on    a Clock on the state that lies in an image        Left   the line, image and memory that it leaves
use Rattle.std.specs.Prelude.{ℕ, ◌≡◌, Bool, true, List, length}
use Rattle.fm3130.specs.Code.Bus.{clocked_with}
use Rattle.fm3130.specs.Chip.{memory_size, Done}
use Rattle.fm3130_image.specs.Image.{image_of, candidate}
use Rattle.fm3130_image.specs.Code.Accepting.{is_image}

-- The image is accepted, and the memory has its length.
pub record Accepted (i m : List ℕ) : Type 0 where
  pub image : is_image i ≡ true
  pub memory : length m ≡ memory_size

pub record Left (d : Done) (r : Bool) (i' m' : List ℕ) : Type 0 where
  pub line : r ≡ d.line
  pub image : i' ≡ image_of d.state
  pub memory : m' ≡ d.memory

-- A Clock on the state that lies in an image.
abbrev pub clock_on : List ℕ → List ℕ → Bool → Done
clock_on i m high = clocked_with (candidate i) m (candidate i).phase high
