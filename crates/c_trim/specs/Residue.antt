-- SPDX-License-Identifier: Apache-2.0
-- What a trim setting leaves of an error, and how far from zero that is (02, number 9).
--   inRange           the errors that can be trimmed         last_code, Coded   a setting's code
--   trimmed, residue_of   what a setting leaves of an error   distance_of        how far a number is from zero
--   distance_left      how far from zero a setting leaves an error
use Rattle.std.specs.Prelude.{ℕ, suc, ◌*◌, ◌≤◌, Bool, ◌&&◌, ℤ, pos, negsuc, neg_ℤ, ◌+ℤ◌, ◌-ℤ◌}
use Rattle.std.specs.Int.Signed.{le_z}
use Rattle.c_trim.specs.declared.Sign.{Sign}
use Rattle.c_trim.specs.declared.Sign.TheVariants.{Plus, Minus}
use Rattle.c_trim.specs.declared.Setting.{Setting}

-- 02, number 9: "a signed error from -20,000 to 20,000".
unfoldable pub in_range : ℤ → Bool
in_range e = le_z (neg_ℤ (pos 20000)) e && le_z e (pos 20000)

-- 02, number 9: "A setting is a sign and a code 0 to 31".
abbrev pub last_code : ℕ
last_code = 31

abbrev pub Coded : Setting → Type 0
Coded s = s.code ≤ last_code

-- 02, number 9: "plus adds 512 cycles a step, minus takes 256 away". The error e after k steps.
abbrev pub trimmed : ℤ → Sign → ℕ → ℤ
trimmed e Plus k = e +ℤ pos (512 * k)
trimmed e Minus k = e -ℤ pos (256 * k)

-- Auxiliary: the steps of a setting are as many as its code says.
unfoldable pub residue_of : ℤ → Setting → ℤ
residue_of e s = trimmed e s.sign s.code

-- 02, number 9: "distance from zero". A negative number's is its negation; `negsuc n` is the number -(n + 1).
abbrev pub distance_of : ℤ → ℕ
distance_of (pos n) = n
distance_of (negsuc n) = suc n

-- Auxiliary: the distance from zero that a setting leaves.
abbrev pub distance_left : ℤ → Setting → ℕ
distance_left e s = distance_of (residue_of e s)
