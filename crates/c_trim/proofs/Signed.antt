-- SPDX-License-Identifier: Apache-2.0
-- Signed numbers by natural ones: how far from zero a sum, a difference or a negation is, by cases on the signs; that a
-- distance below 2 ^ 31 fits an i32; that the bits of a number that fits read back as that number; and the order of two
-- numbers, compared.
use Prim.Native.Nat.{ℕ, zero, suc, ◌+◌, ◌-◌, ◌^◌, ◌≤◌, ◌<◌}
use mathlib.Core.Path.{◌≡◌, refl, sym, ap, subst, ◌∙◌}
use mathlib.Core.Bool.{Bool, true, false, cond, not}
use native.Mathlib.Omega.{arith}
use lib.Dec.{T, leb, ltb, ltb→lt, nltb→le}
use lib.IntN.{ℤ, pos, negsuc, sub_ℕ, ◌+ℤ◌, ◌-ℤ◌, nat_abs}
use lib.Signed.{non_neg, lt_z, le_z}
use mir.Syntax.{w32}
use mir.Val.{SFits, to_z, of_z}
use mir.ValLaws.{to_z-of_z}
use Rattle.std.specs.Ordering.{is_le}
use Rattle.std.specs.declared.cmp.Ordering.TheVariants.{Less, Equal, Greater}
use Rattle.std.proofs.lemmas.Bool.Decides.{nat_tests}
use Rattle.c_trim.specs.Residue.{distance_of}

-- how far two numbers are from each other
abbrev pub apart : ℕ → ℕ → ℕ
apart n m = (n - m) + (m - n)

distance_sub_by : (a b : ℕ) (t : Bool) → (T t → a < b) → (T (not t) → b ≤ a)
    → distance_of (cond t (negsuc (b - suc a)) (pos (a - b))) ≡ apart a b
distance_sub_by a b true h k = let l = h tt in omega arith
distance_sub_by a b false h k = let l = k tt in omega arith

distance_sub : (a b : ℕ) → distance_of (sub_ℕ a b) ≡ apart a b
distance_sub a b = distance_sub_by a b (ltb a b) (ltb→lt a b) (nltb→le a b)

-- ---- steps added to a negative number, and taken from one of either sign

pub distance_add_negative : (n m : ℕ) → distance_of (negsuc n +ℤ pos m) ≡ apart m (suc n)
distance_add_negative n m = distance_sub m (suc n)

pub distance_take_positive : (n m : ℕ) → distance_of (pos n -ℤ pos m) ≡ apart m n
distance_take_positive n zero = omega arith
distance_take_positive n (suc m) = distance_sub n (suc m) ∙ omega arith

pub distance_take_negative : (n m : ℕ) → distance_of (negsuc n -ℤ pos m) ≡ suc n + m
distance_take_negative n zero = distance_sub 0 (suc n) ∙ omega arith
distance_take_negative n (suc m) = omega arith

-- neither takes a number further from zero than by so many

pub distance_add_le : (z : ℤ) (m : ℕ) → distance_of (z +ℤ pos m) ≤ distance_of z + m
distance_add_le (pos n) m = omega arith
distance_add_le (negsuc n) m = omega (arith, distance_add_negative n m)

pub distance_take_le : (z : ℤ) (m : ℕ) → distance_of (z -ℤ pos m) ≤ distance_of z + m
distance_take_le (pos n) m = omega (arith, distance_take_positive n m)
distance_take_le (negsuc n) m = omega (arith, distance_take_negative n m)

-- ---- a negation

pub distance_negated : (z : ℤ) → distance_of (pos 0 -ℤ z) ≡ distance_of z
distance_negated (pos zero) = refl
distance_negated (pos (suc n)) = distance_sub 0 (suc n) ∙ omega arith
distance_negated (negsuc n) = omega arith

pub negated_nonneg : (z : ℤ) → lt_z z (pos 0) ≡ true → T (non_neg (pos 0 -ℤ z))
negated_nonneg (pos n) t = let l = ltb→lt n 0 (subst T (sym t) tt) in absurd (omega arith)
negated_nonneg (negsuc n) t = tt

pub nonneg_of_not_less : (z : ℤ) → lt_z z (pos 0) ≡ false → T (non_neg z)
nonneg_of_not_less (pos n) t = tt
nonneg_of_not_less (negsuc n) t = subst T t tt

pub natabs_distance : (z : ℤ) → nat_abs z ≡ distance_of z
natabs_distance (pos n) = refl
natabs_distance (negsuc n) = refl

-- ---- an i32

pub fits_of_distance : (z : ℤ) → distance_of z < 2 ^ 31 → SFits w32 z
fits_of_distance (pos n) h = record { sfits = h }
fits_of_distance (negsuc n) h = record { sfits = omega arith }

pub read_back : {z : ℤ} → SFits w32 z → to_z w32 (of_z w32 z) ≡ z
read_back {z} f = to_z-of_z w32 z f

-- a result whose value is known
pub read_result : (r : ℤ) {z : ℤ} → r ≡ z → distance_of z < 2 ^ 31 → to_z w32 (of_z w32 r) ≡ z
read_result r {z} q h = ap (λ (x : ℤ). to_z w32 (of_z w32 x)) q ∙ read_back (fits_of_distance z h)

-- a sum and a difference with so many cycles
pub read_sum : {z : ℤ} (y : ℤ) {m : ℕ} → SFits w32 z → y ≡ pos m → m < 2 ^ 31
    → to_z w32 (of_z w32 z) +ℤ to_z w32 (of_z w32 y) ≡ z +ℤ pos m
read_sum y f q h = λ i. read_back f i +ℤ read_result y q h i

pub read_difference : {z : ℤ} (y : ℤ) {m : ℕ} → SFits w32 z → y ≡ pos m → m < 2 ^ 31
    → to_z w32 (of_z w32 z) -ℤ to_z w32 (of_z w32 y) ≡ z -ℤ pos m
read_difference y f q h = λ i. read_back f i -ℤ read_result y q h i

pub read_negation : {z : ℤ} → SFits w32 z → pos 0 -ℤ to_z w32 (of_z w32 z) ≡ pos 0 -ℤ z
read_negation f = λ i. pos 0 -ℤ read_back f i

pub read_test : {z : ℤ} {b : Bool} → SFits w32 z → lt_z (to_z w32 (of_z w32 z)) (pos 0) ≡ b → lt_z z (pos 0) ≡ b
read_test f q = ap (λ (x : ℤ). lt_z x (pos 0)) (sym (read_back f)) ∙ q

-- ---- two numbers compared

nat_compared : (a b : ℕ) → is_le (cond (ltb a b) Less (cond (ltb b a) Greater Equal)) ≡ leb a b
nat_compared a b = grind (arith, nat_tests)

pub compared : (a b : ℤ) → is_le (cond (lt_z a b) Less (cond (lt_z b a) Greater Equal)) ≡ le_z a b
compared (pos a) (pos b) = nat_compared a b
compared (pos a) (negsuc b) = refl
compared (negsuc a) (pos b) = refl
compared (negsuc a) (negsuc b) = nat_compared b a
