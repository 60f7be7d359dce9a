-- SPDX-License-Identifier: Apache-2.0
-- What the last arm of a `match` over 0, 1, .. n - 1 knows: its number is none of them, so it is at least n.
use Prim.Native.Nat.{ℕ, zero, suc, ◌≤◌, zero-le}
use mathlib.Core.Path.{◌≡◌}
use native.Mathlib.Omega.{arith}

abbrev pub NoneBelow : ℕ → ℕ → Type 0
NoneBelow a zero = Unit {0}
NoneBelow a (suc n) = NoneBelow a n × (a ≡ n → ⊥)

pub none_below_le : (n a : ℕ) → NoneBelow a n → n ≤ a
none_below_le zero a h = zero-le
none_below_le (suc n) a h = let l = none_below_le n a h.0 in let d = h.1 in omega arith

pub none_below_is : (n a : ℕ) → NoneBelow a n → a ≤ n → a ≡ n
none_below_is n a h b = let l = none_below_le n a h in omega arith
