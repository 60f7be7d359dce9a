-- SPDX-License-Identifier: Apache-2.0
-- No second outcome satisfies an entry's contract: each contract says that what comes out is one definition of what
-- went in.
use Prim.Native.Nat.{ℕ}
use mathlib.Core.Path.{◌≡◌}
use mathlib.Core.List.{List}
use Rattle.fm3130_image.proofs.Unique.{unique}
use Rattle.c_run.specs.Run.{RunSettled}
use Rattle.c_run.specs.Fresh.{FreshSettled}
use Rattle.c_run.specs.declared.Ran.{Ran}

-- the list run: number, count, image, memory and answers
pub run_unique : (i m es a : List ℕ) (r r₂ : Ran) (i' i₂ m' m₂ a' a₂ : List ℕ)
    → RunSettled i m es a r i' m' a' → RunSettled i m es a r₂ i₂ m₂ a₂
    → (r ≡ r₂) × (i' ≡ i₂) × (m' ≡ m₂) × (a' ≡ a₂)
run_unique i m es a r r₂ i' i₂ m' m₂ a' a₂ p q =
    let e = unique p q in
    (λ k. record { number = (e k).number; count = (e k).count }, λ k. (e k).image, λ k. (e k).memory, λ k. (e k).answers)

-- the fresh image: number and image
pub fresh_unique : (i : List ℕ) (n n₂ : ℕ) (i' i₂ : List ℕ)
    → FreshSettled i n i' → FreshSettled i n₂ i₂ → (n ≡ n₂) × (i' ≡ i₂)
fresh_unique i n n₂ i' i₂ p q = let e = unique p q in (λ k. (e k).number, λ k. (e k).image)
