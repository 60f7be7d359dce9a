-- SPDX-License-Identifier: Apache-2.0
-- The images that are written over their places, each at its place: a copy leaves what is before and after it.
use Prim.Native.Nat.{ℕ, ◌+◌, ◌*◌, ◌-◌, ◌≤◌, ◌<◌}
use mathlib.Core.Path.{◌≡◌, refl, sym, ap, ◌∙◌}
use mathlib.Core.Bool.{true}
use mathlib.Core.List.{List, ◌++◌}
use native.Mathlib.Omega.{arith}
use native.Mathlib.Nat.{add-sub_of_le}
use lib.Dec.{ltb}
use lib.ListN.{length, take, drop}
use lib.Seq.{paste, take_all, length-take-le, take-append-le, drop-append-le, take-take, drop-drop, take-add, take_at}
use lib.Seq.{drop_at, length-paste, length_paste_head, drop-paste}
use borrow.Author.Tests.{ltb-true}
use Rattle.bits.proofs.Cases.{by_cond}
use Rattle.fm31.specs.declared.State.{State}
use Rattle.set_event.specs.Set.{Together, Place, first, second, third, fourth, number_of, at}
use Rattle.set_event.specs.declared.Set.{Set}
use Rattle.fm31_image.specs.Image.{image_size, image_of}
use Rattle.fm31_image.proofs.Images.{image_length}
use Rattle.set_image.specs.Read.{image_at}
use Rattle.set_image.specs.Write.{image_in, images_of}

-- a part in the middle
middle : (a n : ℕ) (l : List ℕ) → a ≤ length l → take n (drop a l) ≡ drop a (take (a + n) l)
middle a n l h =
    sym (ap (drop a) (take-add a n l) ∙ drop_at (take a l) (take n (drop a l)) a (length-take-le a l h))

module _ (d s : List ℕ) (long : length s ≡ image_size) (w : ℕ) (room : image_size * w + image_size ≤ length d) where
  abbrev to : ℕ
  to = image_size * w

  abbrev head : List ℕ
  head = take to d ++ take image_size s

  head_long : length head ≡ to + image_size
  head_long = length_paste_head d to s image_size (omega arith) (omega (arith, long))

  own_copy : image_at w (paste d to s image_size) ≡ s
  own_copy =
      let rest = drop (to + image_size) d in
      ap (take image_size)
      (drop-append-le to head rest (omega (arith, head_long))
      ∙ ap (λ (l : List ℕ). l ++ rest) (drop_at (take to d) (take image_size s) to (length-take-le to d (omega arith))))
      ∙ (take_at (take image_size s) rest image_size (length-take-le image_size s (omega (arith, long)))
      ∙ take_all image_size s (omega (arith, long)))

  copy_long : length (paste d to s image_size) ≡ length d
  copy_long = length-paste d to s image_size room (omega (arith, long))

  copy_before : (v : ℕ) → v < w → image_at v (paste d to s image_size) ≡ image_at v d
  copy_before v h =
      let a = image_size * v in
      middle a image_size (paste d to s image_size) (omega (arith, copy_long))
      ∙ (ap (drop a)
      (take-append-le (a + image_size) head (drop (to + image_size) d) (omega (arith, head_long))
      ∙ (take-append-le (a + image_size) (take to d) (take image_size s)
      (let e = length-take-le to d (omega arith) in omega (arith, e))
      ∙ take-take (a + image_size) to d (omega arith)))
      ∙ sym (middle a image_size d (omega arith)))

  copy_after : (v : ℕ) → w < v → image_at v (paste d to s image_size) ≡ image_at v d
  copy_after v h =
      let b = to + image_size in
      let k = image_size * v - b in
      let e : b + k ≡ image_size * v = add-sub_of_le (omega arith) in
      ap (take image_size)
      (ap (λ (n : ℕ). drop n (paste d to s image_size)) (sym e)
      ∙ (sym (drop-drop k b (paste d to s image_size))
      ∙ (ap (drop k) (drop-paste d to s image_size (omega arith) (omega (arith, long)))
      ∙ (drop-drop k b d ∙ ap (λ (n : ℕ). drop n d) e))))

-- of n devices, one image written
module _ (n : ℕ) (w : ℕ) (s : State) (images : List ℕ) (long : length images ≡ image_size * n) where
  fits : ltb w n ≡ true → image_size * w + image_size ≤ length images
  fits t = let l = ltb-true w n t in omega (arith, long)

  in_long : length (image_in n w s images) ≡ image_size * n
  unfolding image_in
  in_long =
      by_cond (λ (l : List ℕ). length l ≡ image_size * n) (ltb w n)
      (λ t. copy_long images (image_of s) (image_length s) w (fits t) ∙ long) (λ f. long)

  in_own : ltb w n ≡ true → image_at w (image_in n w s images) ≡ image_of s
  unfolding image_in
  in_own t = rw t (own_copy images (image_of s) (image_length s) w (fits t))

  in_before : (v : ℕ) → v < w → image_at v (image_in n w s images) ≡ image_at v images
  unfolding image_in
  in_before v h =
      by_cond (λ (l : List ℕ). image_at v l ≡ image_at v images) (ltb w n)
      (λ t. copy_before images (image_of s) (image_length s) w (fits t) v h) (λ f. refl)

  in_after : (v : ℕ) → w < v → image_at v (image_in n w s images) ≡ image_at v images
  unfolding image_in
  in_after v h =
      by_cond (λ (l : List ℕ). image_at v l ≡ image_at v images) (ltb w n)
      (λ t. copy_after images (image_of s) (image_length s) w (fits t) v h) (λ f. refl)

-- all of them
abbrev pub state_at : Set → Place → State
state_at s first = s.first.state
state_at s second = s.second.state
state_at s third = s.third.state
state_at s fourth = s.fourth.state

module _ (n : ℕ) (s : Set) (images : List ℕ) (long : length images ≡ image_size * n) where
  abbrev one : List ℕ
  one = image_in n 0 s.first.state images

  abbrev two : List ℕ
  two = image_in n 1 s.second.state one

  abbrev three : List ℕ
  three = image_in n 2 s.third.state two

  long_one : length one ≡ image_size * n
  long_one = in_long n 0 s.first.state images long

  long_two : length two ≡ image_size * n
  long_two = in_long n 1 s.second.state one long_one

  long_three : length three ≡ image_size * n
  long_three = in_long n 2 s.third.state two long_two

  pub images_long : length (images_of n s images) ≡ image_size * n
  images_long = in_long n 3 s.fourth.state three long_three

  pub image_of_lem : (v : Place) → ltb (number_of v) n ≡ true → image_at (number_of v) (images_of n s images) ≡ image_of (state_at s v)
  image_of_lem first t =
      in_before n 3 s.fourth.state three long_three 0 (omega arith)
      ∙ (in_before n 2 s.third.state two long_two 0 (omega arith)
      ∙ (in_before n 1 s.second.state one long_one 0 (omega arith)
      ∙ in_own n 0 s.first.state images long t))
  image_of_lem second t =
      in_before n 3 s.fourth.state three long_three 1 (omega arith)
      ∙ (in_before n 2 s.third.state two long_two 1 (omega arith) ∙ in_own n 1 s.second.state one long_one t)
  image_of_lem third t =
      in_before n 3 s.fourth.state three long_three 2 (omega arith) ∙ in_own n 2 s.third.state two long_two t
  image_of_lem fourth t = in_own n 3 s.fourth.state three long_three t

state_at_lem : (t : Together) (v : Place) → state_at t.set v ≡ (at v t).member.state
state_at_lem t first = refl
state_at_lem t second = refl
state_at_lem t third = refl
state_at_lem t fourth = refl

pub image_at_lem : (n : ℕ) (t : Together) (images : List ℕ) → length images ≡ image_size * n → (v : Place)
    → ltb (number_of v) n ≡ true → image_at (number_of v) (images_of n t.set images) ≡ image_of (at v t).member.state
image_at_lem n t images long v h = image_of_lem n t.set images long v h ∙ ap image_of (state_at_lem t v)
