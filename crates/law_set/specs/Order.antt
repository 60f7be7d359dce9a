-- SPDX-License-Identifier: Apache-2.0
-- The plan and the images of a set in their order (docs/FAMILY.md, A set on one line): the device at place v has byte v of the plan
-- and bytes 64 v to 64 v + 63 of the images, when it is read and when it is written.
--   part                      the 64 bytes of a place
--   ReadAt, ReadInOrder       a set that is read
--   WrittenInOrder            a set that is written
use Rattle.std.specs.Prelude.{ℕ, ◌*◌, ◌/◌, ◌%◌, ◌<◌, ◌≡◌, true, cond, List, eqb, length, take, drop, get_or, Some}
use Rattle.set_event.specs.Set.{Held, Together, Place, number_of, at, size_in, select_in}
use Rattle.set_event.specs.Outcome.{lent_to}
use Rattle.fm31_image.specs.Image.{image_of, decode_of}
use Rattle.set_image.specs.Read.{reading_of}
use Rattle.set_image.specs.Write.{images_of}

abbrev pub part : Place → List ℕ → List ℕ
part v images = take 64 (drop (64 * number_of v) images)

-- Bits 1 and 0 of a plan's byte are the select bits, bit 2 is 1 for the 256Kb size: the device has these, and the state that its image
-- holds.
pub record ReadAt (mark : ℕ) (image : List ℕ) (h : Held) : Type 0 where
  pub size : size_in h ≡ cond (eqb (mark / 4 % 2) 1) 32768 8192
  pub select : select_in h ≡ mark % 4
  pub state : decode_of (size_in h) (select_in h) image ≡ Some h.member.state

abbrev pub ReadInOrder : Type 0
ReadInOrder =
    (plan images a b c d : List ℕ) (v : Place) → (reading_of plan images).good ≡ true → number_of v < length plan
    → ReadAt (get_or plan (number_of v) 0) (part v images) (at v (lent_to (reading_of plan images).set a b c d))

-- Of n devices, over images of 64 bytes each: the length stays, and each place has its device's image.
pub record WrittenAt (n : ℕ) (t : Together) (images : List ℕ) : Type 0 where
  pub long : length (images_of n t.set images) ≡ 64 * n
  pub each : (v : Place) → number_of v < n → part v (images_of n t.set images) ≡ image_of (at v t).member.state

abbrev pub WrittenInOrder : Type 0
WrittenInOrder = (n : ℕ) (t : Together) (images : List ℕ) → length images ≡ 64 * n → WrittenAt n t images
