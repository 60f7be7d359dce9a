-- SPDX-License-Identifier: Apache-2.0
-- What a setting leaves, in natural numbers. The steps of a sign bring one kind of error nearer to zero, too few cycles
-- or too many, and take the other further away. With `nearing` for the part of an error that is of the first kind, and
-- that of the other sign for the second, one law serves both signs and both kinds.
use Prim.Native.Nat.{ℕ, suc, ◌+◌, ◌*◌, ◌^◌, ◌≤◌, ◌<◌, suc-le-suc}
use mathlib.Core.Path.{◌≡◌, refl, sym, ap, subst, ◌∙◌}
use mathlib.Core.Bool.{Bool, true, false, ◌&&◌}
use native.Mathlib.Omega.{arith}
use lib.Dec.{T, leb}
use borrow.Author.Tests.{leb-true}
use lib.IntN.{ℤ, pos, negsuc, ◌+ℤ◌, ◌-ℤ◌}
use mir.Syntax.{w32}
use mir.Val.{SFits, to_z, of_z}
use Rattle.c_trim.specs.Residue.{in_range, last_code, Coded, trimmed, residue_of, distance_of, distance_left}
use Rattle.c_trim.specs.Code.Neighbours.{opposite_of}
use Rattle.c_trim.specs.declared.Sign.{Sign}
use Rattle.c_trim.specs.declared.Sign.TheVariants.{Plus, Minus}
use Rattle.c_trim.specs.declared.Setting.{Setting}
use Rattle.c_trim.proofs.Signed.{apart, distance_add_negative, distance_take_positive, distance_take_negative}
use Rattle.c_trim.proofs.Signed.{distance_add_le, distance_take_le, fits_of_distance}
use Rattle.c_trim.proofs.Signed.{read_back, read_sum, read_difference}

-- the cycles of a step
abbrev pub step_of : Sign → ℕ
step_of Plus = 512
step_of Minus = 256

-- the part of an error that steps of the sign bring nearer to zero
abbrev pub nearing : Sign → ℤ → ℕ
nearing Plus (pos n) = 0
nearing Plus (negsuc n) = suc n
nearing Minus (pos n) = n
nearing Minus (negsuc n) = 0

-- how far k steps of a sign leave an error from zero
abbrev pub gap_of : ℤ → Sign → ℕ → ℕ
gap_of e g k = apart (step_of g * k + nearing (opposite_of g) e) (nearing g e)

trimmed_gap : (e : ℤ) (g : Sign) (k : ℕ) → distance_of (trimmed e g k) ≡ gap_of e g k
trimmed_gap (pos n) Plus k = omega arith
trimmed_gap (pos n) Minus k = omega (arith, distance_take_positive n (256 * k))
trimmed_gap (negsuc n) Plus k = omega (arith, distance_add_negative n (512 * k))
trimmed_gap (negsuc n) Minus k = omega (arith, distance_take_negative n (256 * k))

pub left_gap : (e : ℤ) (s : Setting) → distance_left e s ≡ gap_of e s.sign s.code
unfolding residue_of
left_gap e s = trimmed_gap e s.sign s.code

-- an order of two of them, either way
pub gap_le : (e : ℤ) (s t : Setting) → distance_left e s ≤ distance_left e t
    → gap_of e s.sign s.code ≤ gap_of e t.sign t.code
gap_le e s t h = omega (arith, left_gap e s, left_gap e t)

pub left_le : (e : ℤ) (s t : Setting) → gap_of e s.sign s.code ≤ gap_of e t.sign t.code
    → distance_left e s ≤ distance_left e t
left_le e s t h = omega (arith, left_gap e s, left_gap e t)

-- ---- the code's side

-- the bits of an error read back
pub residue_read : {e z : ℤ} (s : Setting) → SFits w32 e → z ≡ residue_of (to_z w32 (of_z w32 e)) s → z ≡ residue_of e s
residue_read s f p = p ∙ ap (λ (x : ℤ). residue_of x s) (read_back f)

pub left_read : {e : ℤ} {s t : Setting} {d : ℕ} → SFits w32 e → s ≡ t → d ≡ distance_left (to_z w32 (of_z w32 e)) s
    → d ≡ distance_left e t
left_read f q p = p ∙ (λ i. distance_left (read_back f i) (q i))

pub range_read : {e : ℤ} {b : Bool} → SFits w32 e → b ≡ in_range (to_z w32 (of_z w32 e)) → in_range e ≡ b
range_read f p = ap in_range (sym (read_back f)) ∙ sym p

-- ---- errors in range and their residues are small

-- two tests that are both passed
pub both : (a b : Bool) → a && b ≡ true → (a ≡ true) × (b ≡ true)
both true b q = (refl, q)
both false b q = absurd (subst T (sym q) tt)

pub range_small : (e : ℤ) → in_range e ≡ true → distance_of e ≤ 20000
unfolding in_range
range_small (pos n) q = leb-true n 20000 q
range_small (negsuc n) q = suc-le-suc (leb-true n 19999 (both (leb n 19999) true q).0)

-- so are its sum and its difference with m cycles of steps
pub sum_fits : {e : ℤ} (y : ℤ) {m : ℕ} → SFits w32 e → in_range e ≡ true → y ≡ pos m → m ≤ 512 * last_code
    → SFits w32 (to_z w32 (of_z w32 e) +ℤ to_z w32 (of_z w32 y))
sum_fits {e} y {m} f q p h =
    subst (SFits w32) (sym (read_sum y f p (omega arith)))
    (fits_of_distance _ (omega (arith, distance_add_le e m, range_small e q)))

pub difference_fits : {e : ℤ} (y : ℤ) {m : ℕ} → SFits w32 e → in_range e ≡ true → y ≡ pos m → m ≤ 512 * last_code
    → SFits w32 (to_z w32 (of_z w32 e) -ℤ to_z w32 (of_z w32 y))
difference_fits {e} y {m} f q p h =
    subst (SFits w32) (sym (read_difference y f p (omega arith)))
    (fits_of_distance _ (omega (arith, distance_take_le e m, range_small e q)))

trimmed_le : (e : ℤ) (g : Sign) (k : ℕ) → distance_of (trimmed e g k) ≤ distance_of e + 512 * k
trimmed_le e Plus k = omega (arith, distance_add_le e (512 * k))
trimmed_le e Minus k = omega (arith, distance_take_le e (256 * k))

pub left_small : (e : ℤ) (s : Setting) → in_range e ≡ true → Coded s → distance_left e s < 2 ^ 31
unfolding residue_of
left_small e s q h = omega (arith, trimmed_le e s.sign s.code, range_small e q)
