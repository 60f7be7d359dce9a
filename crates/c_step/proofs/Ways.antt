-- SPDX-License-Identifier: Apache-2.0
-- The ways through the entry's tests; that two bytes stored at the front are what is told; and that no second outcome
-- satisfies the contract.
use Prim.Native.Nat.{ℕ, ◌≤◌, ◌<◌}
use mathlib.Core.Path.{◌≡◌, refl, sym, ◌∙◌}
use mathlib.Core.List.{List, [], ◌∷◌}
use native.Mathlib.Omega.{arith}
use lib.ListN.{length, drop, set}
use borrow.Author.Tests.{eq-eqb, ne_eqb, le-leb, lt-leb}
use Rattle.std.specs.Prelude.{Some, None}
use Rattle.numbers.specs.Numbers.{wrong_memory, wrong_state, unknown_event, short_answers}
use Rattle.fm3130.specs.Chip.{memory_size}
use Rattle.fm3130.specs.Event.{event_of, rolled_in}
use Rattle.fm3130.specs.declared.State.{State}
use Rattle.fm3130_image.specs.Image.{decode_of}
use Rattle.c_step.specs.Single.{refused, answered, single_of, SingleSettled}

module _ (i m : List ℕ) (e : ℕ) (t : List ℕ) where
  pub single_wrong_memory : (length m ≡ memory_size → ⊥) → single_of i m e t ≡ refused wrong_memory i m t
  unfolding single_of
  single_wrong_memory h = rw (ne_eqb (length m) memory_size h)

  module _ (h : length m ≡ memory_size) where
    pub single_wrong_image : decode_of i ≡ None → single_of i m e t ≡ refused wrong_state i m t
    unfolding single_of
    single_wrong_image d = rw (eq-eqb (length m) memory_size h, d)

    module _ (s : State) (d : decode_of i ≡ Some s) where
      pub single_unknown_event : 7 < e → single_of i m e t ≡ refused unknown_event i m t
      unfolding single_of
      single_unknown_event l = rw (eq-eqb (length m) memory_size h, d, lt-leb e 7 l)

      pub single_short : e ≤ 7 → length t < 2 → single_of i m e t ≡ refused short_answers i m t
      unfolding single_of
      single_short k l = rw (eq-eqb (length m) memory_size h, d, le-leb e 7 k, lt-leb 2 (length t) l)

      pub single_answered : e ≤ 7 → 2 ≤ length t → single_of i m e t ≡ answered (event_of s m e) (rolled_in s e) t
      unfolding single_of
      single_answered k l = rw (eq-eqb (length m) memory_size h, d, le-leb e 7 k, le-leb 2 (length t) l)

-- two bytes stored at the front
pub front_set : (t : List ℕ) (a b : ℕ) → 2 ≤ length t → set (set t 0 a) 1 b ≡ a ∷ b ∷ drop 2 t
front_set [] a b h = absurd (omega arith)
front_set (x ∷ []) a b h = absurd (omega arith)
front_set (x ∷ y ∷ t) a b h = refl

-- no second outcome satisfies the contract
pub single_unique : (i m : List ℕ) (e : ℕ) (t : List ℕ) (n n₂ : ℕ) (i' i₂ m' m₂ t' t₂ : List ℕ)
    → SingleSettled i m e t n i' m' t' → SingleSettled i m e t n₂ i₂ m₂ t₂
    → (n ≡ n₂) × (i' ≡ i₂) × (m' ≡ m₂) × (t' ≡ t₂)
single_unique i m e t n n₂ i' i₂ m' m₂ t' t₂ p q =
    let same = p ∙ sym q in
    (λ k. (same k).number, λ k. (same k).image, λ k. (same k).memory, λ k. (same k).told)
