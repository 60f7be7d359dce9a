-- SPDX-License-Identifier: Apache-2.0
-- Four different numbers from 1 to 4 are all of them: without k they would be four different ones out of three. (One
-- number is taken out first, since four numbers out of four are too many cases for one search.)
use Prim.Native.Nat.{ℕ, ◌-◌, ◌≤◌}
use mathlib.Core.Path.{◌≡◌}
use mathlib.Core.Bool.{cond}
use native.Mathlib.Omega.{arith}
use lib.Dec.{ltb, eqb}
use borrow.Author.Tests.{ltb-true, ltb-false, eqb-true, eqb-false}
use Rattle.wire.proofs.Tests.{by_test}

three : (a b c d : ℕ) → 1 ≤ a → a ≤ 3 → 1 ≤ b → b ≤ 3 → 1 ≤ c → c ≤ 3 → 1 ≤ d → d ≤ 3
    → (b ≡ a → ⊥) → (c ≡ a → ⊥) → (c ≡ b → ⊥) → (d ≡ a → ⊥) → (d ≡ b → ⊥) → (d ≡ c → ⊥) → ⊥
three a b c d a1 a3 b1 b3 c1 c3 d1 d3 ba ca cb da db dc = omega arith

-- the numbers above k moved down by one
abbrev without : ℕ → ℕ → ℕ
without k x = cond (ltb k x) (x - 1) x

module _ (k : ℕ) (k1 : 1 ≤ k) (k4 : k ≤ 4) where
  without_low : (x : ℕ) → 1 ≤ x → 1 ≤ without k x
  without_low x l = by_test (ltb k x)
      (λ t. let h = ltb-true k x t in rw t (omega arith))
      (λ t. rw t l)

  without_high : (x : ℕ) → x ≤ 4 → (x ≡ k → ⊥) → without k x ≤ 3
  without_high x l n = by_test (ltb k x)
      (λ t. let h = ltb-true k x t in rw t (omega arith))
      (λ t. let h = ltb-false k x t in rw t (omega arith))

  without_differ : (x y : ℕ) → (x ≡ k → ⊥) → (y ≡ k → ⊥) → (x ≡ y → ⊥) → without k x ≡ without k y → ⊥
  without_differ x y nx ny n e =
      by_test (ltb k x)
      (λ t. by_test (ltb k y)
      (λ u.
      let p = ltb-true k x t in
      let q = ltb-true k y u in
      let w : x - 1 ≡ y - 1 = rw (t, u) at e in
      n (omega arith))
      (λ u.
      let p = ltb-true k x t in
      let q = ltb-false k y u in
      let w : x - 1 ≡ y = rw (t, u) at e in
      ny (omega arith)))
      (λ t. by_test (ltb k y)
      (λ u.
      let p = ltb-false k x t in
      let q = ltb-true k y u in
      let w : x ≡ y - 1 = rw (t, u) at e in
      nx (omega arith))
      (λ u. n (rw (t, u) at e)))

pub four : (a b c d k : ℕ) → 1 ≤ a → a ≤ 4 → 1 ≤ b → b ≤ 4 → 1 ≤ c → c ≤ 4 → 1 ≤ d → d ≤ 4 → 1 ≤ k → k ≤ 4
    → (b ≡ a → ⊥) → (c ≡ a → ⊥) → (c ≡ b → ⊥) → (d ≡ a → ⊥) → (d ≡ b → ⊥) → (d ≡ c → ⊥)
    → (a ≡ k → ⊥) → (b ≡ k → ⊥) → (c ≡ k → ⊥) → d ≡ k
four a b c d k a1 a4 b1 b4 c1 c4 d1 d4 k1 k4 ba ca cb da db dc ak bk ck = by_test (eqb d k)
    (λ t. eqb-true d k t)
    (λ t.
    let dk = eqb-false d k t in
    absurd
    (three (without k a) (without k b) (without k c) (without k d)
    (without_low k k1 k4 a a1) (without_high k k1 k4 a a4 ak) (without_low k k1 k4 b b1) (without_high k k1 k4 b b4 bk)
    (without_low k k1 k4 c c1) (without_high k k1 k4 c c4 ck) (without_low k k1 k4 d d1) (without_high k k1 k4 d d4 dk)
    (without_differ k k1 k4 b a bk ak ba) (without_differ k k1 k4 c a ck ak ca) (without_differ k k1 k4 c b ck bk cb)
    (without_differ k k1 k4 d a dk ak da) (without_differ k k1 k4 d b dk bk db) (without_differ k k1 k4 d c dk ck dc)))
