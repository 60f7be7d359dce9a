-- SPDX-License-Identifier: Apache-2.0
-- A set that is read well has an image for each device, and each device on the line is within its limits.
use Prim.Native.Nat.{ℕ, ◌+◌, ◌*◌, ◌%◌, ◌≤◌, ◌<◌}
use mathlib.Core.Path.{◌≡◌, refl, sym, ap, ◌∙◌}
use mathlib.Core.Bool.{Bool, true, false, ◌&&◌}
use mathlib.Core.List.{List}
use native.Mathlib.Omega.{arith}
use lib.Dec.{eqb, ltb}
use lib.ListN.{length, take, drop, get_or, length-drop}
use lib.Seq.{take_all}
use borrow.Author.Tests.{ltb-false, lt-ltb, eqb-true}
use Rattle.wire.proofs.Tests.{by_test, and_split, and_join}
use Rattle.fm31.specs.Chip.{size_of}
use Rattle.fm31.specs.declared.Size.{Size}
use Rattle.fm31.specs.declared.State.{State}
use Rattle.set_event.specs.Set.{held, Place, first, second, third, fourth, number_of, at}
use Rattle.set_event.specs.Make.{is_within, if_here, places_are}
use Rattle.set_event.specs.Outcome.{lent_to}
use Rattle.set_event.proofs.Facts.{four_of, of_here, of_places}
use Rattle.fm31_image.specs.Image.{image_size, decode_of}
use Rattle.std.specs.Prelude.{Option, Some, None}
use Rattle.fm31_image.specs.Reading.{DecodeSettled}
use Rattle.fm31_image.proofs.Images.{image_decode, decode_length, settled_decode}
use Rattle.set_image.specs.Read.{count_of, mark_size, image_at, got_of, unread, device_at, place_of, reading_of}

not_true : {X : Type 0} → false ≡ true → X
not_true e = let z : ◌≡◌ {A = ℕ} 0 1 = cc in absurd (omega arith)

-- where the images end before this one, it is none
pub short_image : (images : List ℕ) (v : ℕ) → length images < image_size * v + image_size → (size select : ℕ)
    → decode_of size select (image_at v images) ≡ None
short_image images v h size select =
    let rest = drop (image_size * v) images in
    let n : length rest < image_size = let e = length-drop (image_size * v) images in omega (arith, e) in
    let all : take image_size rest ≡ rest = take_all image_size rest (omega arith) in
    decode_length size select (take image_size rest) (λ e. let k = sym (ap length all) ∙ e in omega (arith, k))

-- the device at a place, from what the code found of it
module _ (plan images : List ℕ) (v : ℕ) (k : Size) (p : k ≡ mark_size (get_or plan v 0)) where
  pub device_short : length images < image_size * v + image_size → device_at plan images v ≡ unread k (get_or plan v 0 % 4)
  unfolding device_at
  device_short h = rw (← p, short_image images v h (size_of k) (get_or plan v 0 % 4))

  pub device_read : (z : ℕ) (d : Option State) → z ≡ size_of k → DecodeSettled z (get_or plan v 0 % 4) (image_at v images) d
      → device_at plan images v ≡ got_of (ltb (get_or plan v 0) 8) k (get_or plan v 0 % 4) d
  unfolding device_at
  device_read z d q h = rw (← p, ← q, settled_decode z (get_or plan v 0 % 4) (image_at v images) d h)

module _ (fits : Bool) (k : Size) (select : ℕ) (image m : List ℕ) (small : select < 4) where
  got_within : (d : Option State) → decode_of (size_of k) select image ≡ d → (got_of fits k select d).good ≡ true
      → is_within (held (got_of fits k select d).member m) ≡ true
  unfolding is_within
  got_within (Some s) e h = and_join _ _ (lt-ltb select 4 small) (image_decode (size_of k) select image s e).0
  got_within None e h = not_true h

module _ (plan images : List ℕ) where
  device_within : (v : ℕ) (m : List ℕ) → (device_at plan images v).good ≡ true
      → is_within (held (device_at plan images v).member m) ≡ true
  unfolding device_at
  device_within v m h =
      let mark = get_or plan v 0 in
      let small : mark % 4 < 4 = omega arith in
      got_within (ltb mark 8) (mark_size mark) (mark % 4) (image_at v images) m small _ refl h

  -- of the first four, a place that is on the line is one that the plan has
  in_plan : (v : ℕ) → v ≤ 3 → ltb v (count_of plan) ≡ true → ltb v (length plan) ≡ true
  unfolding count_of
  in_plan v h e =
      by_test (ltb (length plan) 5)
      (λ t. rw t at e)
      (λ t. let l = ltb-false (length plan) 5 t in lt-ltb v (length plan) (omega arith))

  place_within : (v : ℕ) → v ≤ 3 → (m : List ℕ) → (place_of plan images v).good ≡ true
      → if_here (count_of plan) v (is_within (held (place_of plan images v).member m)) ≡ true
  unfolding place_of
  place_within v small m h =
      of_here (count_of plan) v _
      (λ e.
      let p = in_plan v small e in
      let g : (device_at plan images v).good ≡ true = rw p at h in
      rw p (device_within v m g))

  module _ (good : (reading_of plan images).good ≡ true) where
    long_and_good : (length images ≡ image_size * count_of plan)
        × (((place_of plan images 0).good
        && ((place_of plan images 1).good && ((place_of plan images 2).good && (place_of plan images 3).good)))
        ≡ true)
    unfolding reading_of
    long_and_good =
        let h = and_split (eqb (length images) (image_size * count_of plan)) _ good in
        (eqb-true (length images) (image_size * count_of plan) h.0, h.1)

    pub reading_length : length images ≡ image_size * count_of plan
    reading_length = long_and_good.0

    module _ (k l m n : List ℕ) where
      each_within : (v : Place)
          → if_here (count_of plan) (number_of v) (is_within (at v (lent_to (reading_of plan images).set k l m n))) ≡ true
      unfolding reading_of
      each_within v = at_place v
        where
          all : ((place_of plan images 0).good ≡ true) × ((place_of plan images 1).good ≡ true)
              × ((place_of plan images 2).good ≡ true) × ((place_of plan images 3).good ≡ true)
          all =
              four_of (place_of plan images 0).good (place_of plan images 1).good (place_of plan images 2).good
              (place_of plan images 3).good long_and_good.1

          at_place : (v : Place)
              → if_here (count_of plan) (number_of v) (is_within (at v (lent_to (reading_of plan images).set k l m n))) ≡
              true
          at_place first = place_within 0 (omega arith) k all.0
          at_place second = place_within 1 (omega arith) l all.1
          at_place third = place_within 2 (omega arith) m all.2
          at_place fourth = place_within 3 (omega arith) n all.3

      pub reading_within : places_are is_within (lent_to (reading_of plan images).set k l m n) ≡ true
      unfolding reading_of
      reading_within = of_places is_within (lent_to (reading_of plan images).set k l m n) each_within
