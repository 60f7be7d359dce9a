-- SPDX-License-Identifier: Apache-2.0
-- A copy over a part of a list: one byte more, and at the end; and the image that is written so.
use Prim.Native.Nat.{ℕ, ◌+◌, ◌*◌, ◌≤◌, ◌<◌}
use mathlib.Core.Path.{◌≡◌, sym, ap, subst, ◌∙◌}
use mathlib.Core.List.{List}
use native.Mathlib.Omega.{arith}
use native.Mathlib.Numerals.{add-one}
use lib.ListN.{length, set, get_or}
use lib.Seq.{paste, paste-suc}
use borrow.Author.Tests.{lt-ltb, le-ltb}
use Rattle.fm31.specs.declared.State.{State}
use Rattle.fm31_image.specs.Image.{image_size, image_of}
use Rattle.fm31_image.proofs.Images.{image_length}
use Rattle.set_image.specs.Write.{image_in}

pub paste_more : (to₀ to from : List ℕ) (at i : ℕ) → at + i < length to₀ → i < length from → to ≡ paste to₀ at from i
    → set to (at + i) (get_or from i 0) ≡ paste to₀ at from (i + 1)
paste_more to₀ to from at i h k e =
    ap (λ (l : List ℕ). set l (at + i) (get_or from i 0)) e
    ∙ (paste-suc to₀ at from i 0 h k ∙ ap (paste to₀ at from) (sym (add-one i)))

pub paste_end : (to₀ to from : List ℕ) (at i : ℕ) → i ≤ length from → length from ≤ i → to ≡ paste to₀ at from i
    → to ≡ paste to₀ at from (length from)
paste_end to₀ to from at i h k e =
    let n : i ≡ length from = omega arith in subst (λ (m : ℕ). to ≡ paste to₀ at from m) n e

-- an image at its place
module _ (count place : ℕ) (s : State) (images : List ℕ) where
  pub image_at_lem : place < count → (images' written : List ℕ) → written ≡ image_of s
      → images' ≡ paste images (image_size * place) written (length written) → images' ≡ image_in count place s images
  unfolding image_in
  image_at_lem h images' written e p =
      rw (lt-ltb place count h)
      (p ∙ (ap (λ (l : List ℕ). paste images (image_size * place) l (length l)) e
      ∙ ap (paste images (image_size * place) (image_of s)) (image_length s)))

  pub image_away : count ≤ place → images ≡ image_in count place s images
  unfolding image_in
  image_away h = rw (le-ltb place count h)
