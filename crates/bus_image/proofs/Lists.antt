-- SPDX-License-Identifier: Apache-2.0
-- The comparison of bytes is that of std, and is equality. And bytes copied, one byte more, and at the end.
use Prim.Native.Nat.{ℕ, suc, ◌+◌, ◌≤◌, ◌<◌}
use mathlib.Core.Path.{◌≡◌, refl, sym, ap, ◌∙◌}
use mathlib.Core.Bool.{true, false, ◌&&◌, and-false, false≢true}
use mathlib.Core.List.{List, [], ◌∷◌}
use native.Mathlib.Omega.{arith}
use native.Mathlib.Numerals.{add-one}
use lib.Dec.{eqb}
use lib.ListN.{length, take, get_or, set}
use lib.Seq.{take_all, take-suc, take-suc-set}
use lib.Pointwise.{pointwise}
use borrow.Author.Tests.{eq-eqb, eqb-true}
use Rattle.std.specs.Prelude.{nat_eq}
use Rattle.wire.proofs.Tests.{and_split}
use Rattle.bus_image.specs.Bytes.{same_bytes}

module _ (from to : List ℕ) (i : ℕ) where
  pub copy_more : i < length to → i < length from → take i to ≡ take i from
      → take (i + 1) (set to i (get_or from i 0)) ≡ take (i + 1) from
  copy_more ht hf e = rw (add-one, take-suc-set, take-suc from i 0, e)

  pub copy_done : length from ≤ i → length to ≡ length from → take i to ≡ take i from → to ≡ from
  copy_done h l e = sym (take_all i to (omega arith)) ∙ e ∙ take_all i from h

-- the comparison of std, pair by pair, is the definition's
pub pointwise_same : (a b : List ℕ) → pointwise nat_eq a b ≡ same_bytes a b
unfolding same_bytes
pointwise_same [] [] = refl
pointwise_same [] (y ∷ ys) = refl
pointwise_same (x ∷ xs) [] = refl
pointwise_same (x ∷ xs) (y ∷ ys) = ap (λ r. eqb x y && r) (pointwise_same xs ys)

pub same_lengths : (a b : List ℕ) → (length a ≡ length b → ⊥) → same_bytes a b ≡ false
unfolding same_bytes
same_lengths [] [] h = absurd (h refl)
same_lengths [] (y ∷ ys) h = refl
same_lengths (x ∷ xs) [] h = refl
same_lengths (x ∷ xs) (y ∷ ys) h = rw (same_lengths xs ys (λ e. h (ap suc e))) (and-false (eqb x y))

pub same_self : (a : List ℕ) → same_bytes a a ≡ true
unfolding same_bytes
same_self [] = refl
same_self (x ∷ xs) = rw (eq-eqb x x refl) (same_self xs)

pub same_equal : (a b : List ℕ) → same_bytes a b ≡ true → a ≡ b
unfolding same_bytes
same_equal [] [] h = refl
same_equal [] (y ∷ ys) h = absurd (false≢true h)
same_equal (x ∷ xs) [] h = absurd (false≢true h)
same_equal (x ∷ xs) (y ∷ ys) h =
    let t = and_split (eqb x y) (same_bytes xs ys) h in cc (eqb-true x y t.0, same_equal xs ys t.1)
