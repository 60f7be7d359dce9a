-- SPDX-License-Identifier: Apache-2.0
-- Each contract says that what comes out is one definition of what went in, so no second outcome satisfies it. `unique`
-- is the law for every public function whose contract is such an equation, or some of them.
use mathlib.Core.Path.{◌≡◌, sym, ◌∙◌}
use mathlib.Core.List.{List}
use Prim.Native.Nat.{ℕ}
use Rattle.std.specs.Prelude.{Option}
use Rattle.fm3130.specs.declared.State.{State}
use Rattle.fm3130_image.specs.Image.{image_of}
use Rattle.fm3130_image.specs.Reading.{DecodeSettled}
use Rattle.fm3130_image.proofs.Images.{settled_decode}

-- what equals one definition is one thing
pub unique : {A : Type 0} {x y d : A} → x ≡ d → y ≡ d → x ≡ y
unique p q = p ∙ sym q

-- writing an image
pub image_unique : (s : State) (i i₂ : List ℕ) → i ≡ image_of s → i₂ ≡ image_of s → i ≡ i₂
image_unique s i i₂ p q = unique p q

-- reading an image
pub decode_unique : (i : List ℕ) (r r₂ : Option State) → DecodeSettled i r → DecodeSettled i r₂ → r ≡ r₂
decode_unique i r r₂ p q = sym (settled_decode i r p) ∙ settled_decode i r₂ q
