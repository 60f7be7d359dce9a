-- SPDX-License-Identifier: Apache-2.0
-- What an event on an image asks, and what it leaves. All is auxiliary: the entries' contracts speak of whole outcomes.
--   Accepted   the image is accepted, the memory has its length
--   Served     the companion that lies in an image did what it was asked
--   Answered   the answer, image and memory that an event leaves
use Rattle.std.specs.Prelude.{ℕ, ◌≡◌, true, List, length}
use Rattle.bus.specs.declared.Reply.{Reply}
use Rattle.bus_deeds.specs.Serve as Serve
use Rattle.fm31_counters.specs.declared.Counters.{Counters}
use Rattle.fm31.specs.Chip.{Done}
use Rattle.fm31.specs.Step.{state_of, answer_byte}
use Rattle.fm31.specs.declared.State.{State}
use Rattle.fm31_image.specs.Image.{image_of}
use Rattle.fm31_image.specs.Accepting.{is_image}

-- Over size and select.
pub record Accepted (size select : ℕ) (i m : List ℕ) : Type 0 where
  pub image : is_image size select i ≡ true
  pub memory : length m ≡ size

-- The bus is as it was.
pub record Served (s : State) (v : Serve.Served Counters) (r : Reply) (i' : List ℕ) : Type 0 where
  pub reply : r ≡ v.reply
  pub image : i' ≡ image_of (record { bus = s.bus; counters = v.next })

pub record Answered (size select : ℕ) (d : Done size select) (a : ℕ) (i' m' : List ℕ) : Type 0 where
  pub answer : a ≡ answer_byte d.line
  pub image : i' ≡ image_of (state_of d)
  pub memory : m' ≡ d.memory
