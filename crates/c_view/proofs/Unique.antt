-- SPDX-License-Identifier: Apache-2.0
-- No second outcome satisfies the viewer's contracts, of any part.
use Prim.Native.Nat.{ℕ}
use mathlib.Core.Path.{◌≡◌}
use mathlib.Core.List.{List}
use denote.Ref.{Bor}
use Rattle.fm3130_image.proofs.Unique.{unique}
use Rattle.c_view.specs.View.{ViewNumberSettled, ViewSettled}

module _ (size count : ℕ) where
  -- the viewer: the bytes, and where they lie
  pub view_unique : (i m : Bor (List ℕ)) (selector start len : ℕ) (r r₂ : Bor (List ℕ))
      → ViewSettled size count i m selector start len r → ViewSettled size count i m selector start len r₂
      → (r.now ≡ r₂.now) × (r.ref_ptr ≡ r₂.ref_ptr)
  view_unique i m selector start len r r₂ p q = (unique p.bytes q.bytes, unique p.place q.place)

  -- its number
  pub view_number_unique : (i m : List ℕ) (selector start len n n₂ : ℕ)
      → ViewNumberSettled size count i m selector start len n → ViewNumberSettled size count i m selector start len n₂ → n ≡ n₂
  view_number_unique i m selector start len n n₂ p q = unique p q
