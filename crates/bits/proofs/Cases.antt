-- SPDX-License-Identifier: Apache-2.0
-- Choices: what the last arm of a match over numbers knows; what holds at each number below a limit, given one by
-- one; what holds of both outcomes of a test holds of the choice.
use Prim.Native.Nat.{ℕ, zero, suc, ◌+◌, ◌≤◌, ◌<◌}
use mathlib.Core.Path.{◌≡◌, refl, sym, subst}
use mathlib.Core.Bool.{Bool, true, false, cond}
use native.Mathlib.Omega.{arith}
use lib.Dec.{eqb}
use borrow.Author.Tests.{eqb-true, eqb-false}

-- a is none of the n numbers from k on: what the last arm of a match over k, k + 1, .. knows
abbrev pub NoneFrom : ℕ → ℕ → ℕ → Type 0
NoneFrom k a zero = Unit {0}
NoneFrom k a (suc n) = NoneFrom k a n × (a ≡ k + n → ⊥)

none_from_le : (k n a : ℕ) → k ≤ a → NoneFrom k a n → k + n ≤ a
none_from_le k zero a b h = omega arith
none_from_le k (suc n) a b h = let l = none_from_le k n a b h.0 in let d = h.1 in omega arith

pub is_last : (k n a : ℕ) → k ≤ a → NoneFrom k a n → a ≤ k + n → a ≡ k + n
is_last k n a b h t = let l = none_from_le k n a b h in omega arith

-- a property of both outcomes of a test is one of the choice
pub by_cond : {A : Type 0} (Q : A → Type 0) (t : Bool) {x y : A} → (t ≡ true → Q x) → (t ≡ false → Q y) → Q (cond t x y)
by_cond Q true p q = p refl
by_cond Q false p q = q refl

-- a property of each number below n, given one by one from 0 on
infixl 20 ◌then◌
pub data Below (Q : ℕ → Type 0) : ℕ → Type 0 where
  none : Below Q zero
  ◌then◌ : {n : ℕ} → Below Q n → Q n → Below Q (suc n)

last_or : (Q : ℕ → Type 0) (n a : ℕ) (t : Bool) → eqb a n ≡ t → a < suc n → Q n → (a < n → Q a) → Q a
last_or Q n a true e h q f = subst Q (sym (eqb-true a n e)) q
last_or Q n a false e h q f = let d = eqb-false a n e in f (omega arith)

pub below : (Q : ℕ → Type 0) {n : ℕ} → Below Q n → (a : ℕ) → a < n → Q a
below Q none a h = absurd (omega arith)
below Q (◌then◌ {n} all q) a h = last_or Q n a (eqb a n) refl h q (λ l. below Q all a l)
