-- SPDX-License-Identifier: Apache-2.0
-- No second outcome satisfies a contract of the image, at any size.
use Rattle.std.specs.Prelude.{Option}
use Prim.Native.Nat.{ℕ}
use mathlib.Core.Path.{◌≡◌, sym, ◌∙◌}
use mathlib.Core.List.{List}
use Rattle.fm31.specs.declared.State.{State}
use Rattle.fm31_image.specs.Image.{image_of}
use Rattle.fm31_image.specs.Reading.{DecodeSettled}
use Rattle.fm31_image.proofs.Images.{settled_decode}

-- reading an image
pub decode_unique : (size select : ℕ) (i : List ℕ) (r r₂ : Option State) → DecodeSettled size select i r
    → DecodeSettled size select i r₂ → r ≡ r₂
decode_unique size select i r r₂ p q = sym (settled_decode size select i r p) ∙ settled_decode size select i r₂ q

-- writing an image
pub image_unique : (s : State) (i i₂ : List ℕ) → i ≡ image_of s → i₂ ≡ image_of s → i ≡ i₂
image_unique s i i₂ p q = p ∙ sym q
