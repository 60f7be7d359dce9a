-- SPDX-License-Identifier: Apache-2.0
-- No second outcome satisfies an entry's contract, at any size: each says that what comes out is one definition
-- of what went in.
use Prim.Native.Nat.{ℕ}
use mathlib.Core.Path.{◌≡◌, sym, ◌∙◌}
use mathlib.Core.List.{List, [], ◌∷◌}
use Rattle.c_fm31.specs.Run.{RunSettled}
use Rattle.c_fm31.specs.Fresh.{FreshSettled}
use Rattle.c_fm31.specs.Single.{SingleSettled}

module _ (size : ℕ) where
  -- the list run: number, image, memory and answers
  pub run_unique : (i m es a : List ℕ) (n n₂ : ℕ) (i' i₂ m' m₂ a' a₂ : List ℕ)
      → RunSettled size i m es a n i' m' a' → RunSettled size i m es a n₂ i₂ m₂ a₂
      → (n ≡ n₂) × (i' ≡ i₂) × (m' ≡ m₂) × (a' ≡ a₂)
  run_unique i m es a n n₂ i' i₂ m' m₂ a' a₂ p q =
      let e = p ∙ sym q in (λ k. (e k).number, λ k. (e k).image, λ k. (e k).memory, λ k. (e k).answers)

  -- one event: number, image, memory and what is told
  pub single_unique : (i m : List ℕ) (e : ℕ) (t : List ℕ) (n n₂ : ℕ) (i' i₂ m' m₂ t' t₂ : List ℕ)
      → SingleSettled size i m e t n i' m' t' → SingleSettled size i m e t n₂ i₂ m₂ t₂
      → (n ≡ n₂) × (i' ≡ i₂) × (m' ≡ m₂) × (t' ≡ t₂)
  single_unique i m e t = run_unique i m (e ∷ []) t

-- the fresh image: number and image
pub fresh_unique : (i : List ℕ) (n n₂ : ℕ) (i' i₂ : List ℕ)
    → FreshSettled i n i' → FreshSettled i n₂ i₂ → (n ≡ n₂) × (i' ≡ i₂)
fresh_unique i n n₂ i' i₂ p q = let e = p ∙ sym q in (λ k. (e k).number, λ k. (e k).image)
