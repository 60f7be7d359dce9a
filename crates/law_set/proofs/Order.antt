-- SPDX-License-Identifier: Apache-2.0
-- A set that is read, place by place; and its images written, each over its own.
use Prim.Native.Nat.{ℕ, ◌*◌, ◌/◌, ◌%◌, ◌<◌}
use mathlib.Core.Path.{◌≡◌, refl}
use mathlib.Core.Bool.{Bool, true, false, cond, false≢true}
use mathlib.Core.List.{List}
use lib.Dec.{eqb, ltb}
use lib.ListN.{length, get_or}
use borrow.Author.Tests.{lt-ltb}
use Rattle.wire.proofs.Tests.{and_split}
use Rattle.fm31.specs.Chip.{size_of}
use Rattle.fm31.specs.declared.Size.TheVariants.{Kb64, Kb256}
use Rattle.fm31.specs.declared.State.{State}
use Rattle.set_event.specs.Set.{first, second, third, fourth, number_of, at}
use Rattle.set_event.specs.declared.Member.{Member}
use Rattle.set_event.proofs.Facts.{four_of}
use Rattle.fm31_image.specs.Image.{image_size, decode_of}
use Rattle.std.specs.Prelude.{Option, Some, None}
use Rattle.set_image.specs.Read.{count_of, mark_size, image_at, got_of, device_at, place_of, reading_of}
use Rattle.law_set.specs.Order.{ReadAt, ReadInOrder, WrittenInOrder}
use Rattle.law_set.proofs.Written.{images_long, image_at_lem}

-- the size of a plan's byte
size_of_mark : (mark : ℕ) → size_of (mark_size mark) ≡ cond (eqb (mark / 4 % 2) 1) 32768 8192
unfolding mark_size
size_of_mark mark = chosen (eqb (mark / 4 % 2) 1)
  where
    chosen : (b : Bool) → size_of (cond b Kb256 Kb64) ≡ cond b 32768 8192
    chosen true = refl
    chosen false = refl

-- what was read well of an image
module _ (mark : ℕ) (image : List ℕ) (m : List ℕ) where
  abbrev got : Bool → Option State → Member
  got fits d = (got_of fits (mark_size mark) (mark % 4) d).member

  good_is : (fits : Bool) (d : Option State) → (got_of fits (mark_size mark) (mark % 4) d).good ≡ true
      → decode_of (size_of (mark_size mark)) (mark % 4) image ≡ d
      → ReadAt mark image (record { member = got fits d; memory = m })
  good_is fits (Some s) g e = record { size = size_of_mark mark; select = refl; state = e }
  good_is fits None g e = absurd (false≢true g)

module _ (plan images a b c d : List ℕ) (good : (reading_of plan images).good ≡ true) where
  all_good : ((place_of plan images 0).good ≡ true) × ((place_of plan images 1).good ≡ true)
      × ((place_of plan images 2).good ≡ true) × ((place_of plan images 3).good ≡ true)
  unfolding reading_of
  all_good =
      four_of (place_of plan images 0).good (place_of plan images 1).good (place_of plan images 2).good
      (place_of plan images 3).good (and_split (eqb (length images) (image_size * count_of plan)) _ good).1

  -- a place that the plan has, with a memory
  at_place : (v : ℕ) (m : List ℕ) → v < length plan → (place_of plan images v).good ≡ true
      → ReadAt (get_or plan v 0) (image_at v images) (record { member = (place_of plan images v).member; memory = m })
  unfolding place_of device_at
  at_place v m l g =
      let t = lt-ltb v (length plan) l in
      let mark = get_or plan v 0 in
      let h : (got_of (ltb mark 8) (mark_size mark) (mark % 4) (decode_of (size_of (mark_size mark)) (mark % 4) (image_at v images))).good
      ≡ true = rw t at g in
      rw t (good_is mark (image_at v images) m (ltb mark 8) _ h refl)

pub read_in_order : ReadInOrder
unfolding reading_of
read_in_order plan images a b c d first good l = at_place plan images a b c d good 0 a l (all_good plan images a b c d good).0
read_in_order plan images a b c d second good l = at_place plan images a b c d good 1 b l (all_good plan images a b c d good).1
read_in_order plan images a b c d third good l = at_place plan images a b c d good 2 c l (all_good plan images a b c d good).2
read_in_order plan images a b c d fourth good l = at_place plan images a b c d good 3 d l (all_good plan images a b c d good).3

pub written_in_order : WrittenInOrder
written_in_order n t images long =
    record {
      long = images_long n t.set images long;
      each = λ v l. image_at_lem n t images long v (lt-ltb (number_of v) n l);
    }
