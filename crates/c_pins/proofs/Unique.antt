-- SPDX-License-Identifier: Apache-2.0
-- No second outcome satisfies the contracts of the entries.
use Prim.Native.Nat.{ℕ}
use mathlib.Core.Path.{◌≡◌}
use mathlib.Core.List.{List}
use Rattle.fm3130_image.proofs.Unique.{unique}
use Rattle.c_pins.specs.Words.{BeginSettled, LookSettled, DrivenSettled, HandSettled, DueSettled}

pub begin_unique : (i m : List ℕ) (n r r₂ : ℕ) → BeginSettled i m n r → BeginSettled i m n r₂ → r ≡ r₂
begin_unique i m n r r₂ p q = unique p q

pub look_unique : (w n r r₂ : ℕ) → LookSettled w n r → LookSettled w n r₂ → r ≡ r₂
look_unique w n r r₂ p q = unique p q

pub driven_unique : (b w n r r₂ : ℕ) → DrivenSettled b w n r → DrivenSettled b w n r₂ → r ≡ r₂
driven_unique b w n r r₂ p q = unique p q

pub hand_unique : (i : List ℕ) (w e r r₂ : ℕ) → HandSettled i w e r → HandSettled i w e r₂ → r ≡ r₂
hand_unique i w e r r₂ p q = unique p q

pub due_unique : (i m : List ℕ) (w r r₂ : ℕ) (i' i'' m' m'' : List ℕ)
    → DueSettled i m w r i' m' → DueSettled i m w r₂ i'' m'' → (r ≡ r₂) × (i' ≡ i'') × (m' ≡ m'')
due_unique i m w r r₂ i' i'' m' m'' p q =
    (unique p.word q.word, unique p.image q.image, unique p.memory q.memory)
