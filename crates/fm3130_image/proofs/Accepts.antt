-- SPDX-License-Identifier: Apache-2.0
-- What an accepted image is: the candidate is well-formed and writes it, and bytes 30 to 63 are those of every image. A list
-- of unknown bytes becomes one of 30 bytes by their places and the end that every image has (`front_end`): so what a state
-- writes, and what is stored over an accepted image, is compared by computing.
use Prim.Native.Nat.{ℕ, zero, suc, ◌+◌, ◌≤◌, ◌<◌}
use mathlib.Core.Path.{◌≡◌, refl, sym, ap, ◌∙◌}
use mathlib.Core.Bool.{true, false, and-false}
use mathlib.Core.List.{List, [], ◌∷◌, ◌++◌}
use native.Mathlib.Omega.{arith}
use lib.ListN.{length, drop, get_or}
use lib.Seq.{drop-cons}
use Rattle.std.specs.Prelude.{Some, None, is_some}
use Rattle.wire.proofs.Tests.{by_test, and_split}
use Rattle.fm3130.specs.Limits.{well_formed}
use Rattle.fm3130.specs.declared.State.{State}
use Rattle.bus_image.specs.Bytes.{same_bytes}
use Rattle.bus_image.proofs.Lists.{same_lengths, same_equal}
use Rattle.fm3130_image.specs.Image.{image_size, image_of, candidate, decode_of}
use Rattle.fm3130_image.specs.Code.Accepting.{is_image, the_end}
use Rattle.fm3130_image.proofs.Images.{image_length, image_decode}

-- so many bytes of a list from a place on, by their places
unfoldable pub listed : ℕ → ℕ → List ℕ → List ℕ
listed zero k i = []
listed (suc n) k i = get_or i k 0 ∷ listed n (suc k) i

pub listed_split : (n k : ℕ) (i : List ℕ) (j : ℕ) → j ≡ k + n → j ≤ length i → listed n k i ++ drop j i ≡ drop k i
unfolding listed
listed_split zero k i j e h = let z : j ≡ k = omega arith in rw z
listed_split (suc n) k i j e h =
    let g : k < length i = omega arith in
    rw (drop-cons i k 0) (ap (λ (t : List ℕ). get_or i k 0 ∷ t) (listed_split n (suc k) i j (omega arith) h))

pub front_end : (i : List ℕ) → length i ≡ image_size → drop 30 i ≡ the_end → listed 30 0 i ++ the_end ≡ i
front_end i l e = rw (← e) (listed_split 30 0 i 30 refl (omega arith))

pub image_end : (s : State) → drop 30 (image_of s) ≡ the_end
unfolding image_of
image_end s = refl

pub decoded_end : (i : List ℕ) (s : State) → decode_of i ≡ Some s → drop 30 i ≡ the_end
decoded_end i s d = rw (image_decode i s d).1 at (image_end s)

pub image_not_long : (i : List ℕ) → (length i ≡ image_size → ⊥) → is_image i ≡ false
unfolding is_image
image_not_long i h =
    rw (same_lengths (image_of (candidate i)) i (λ e. h (sym e ∙ image_length (candidate i))))
    (and-false (well_formed (candidate i)))

-- what an accepted image is
module _ (i : List ℕ) (h : is_image i ≡ true) where
  pub image_well : well_formed (candidate i) ≡ true
  unfolding is_image
  image_well = (and_split (well_formed (candidate i)) (same_bytes (image_of (candidate i)) i) h).0

  pub image_written : image_of (candidate i) ≡ i
  unfolding is_image
  image_written = same_equal _ _ (and_split (well_formed (candidate i)) (same_bytes (image_of (candidate i)) i) h).1

  pub image_read : decode_of i ≡ Some (candidate i)
  unfolding is_image decode_of
  image_read = rw h

  pub image_long : length i ≡ image_size
  image_long = ap length (sym image_written) ∙ image_length (candidate i)

pub image_not_read : (i : List ℕ) → is_image i ≡ false → decode_of i ≡ None
unfolding is_image decode_of
image_not_read i h = rw h

-- so the test says whether there is a state to read
pub image_some : (i : List ℕ) → is_image i ≡ is_some (decode_of i)
image_some i = by_test (is_image i)
    (λ t. t ∙ sym (ap is_some (image_read i t)))
    (λ t. t ∙ sym (ap is_some (image_not_read i t)))
