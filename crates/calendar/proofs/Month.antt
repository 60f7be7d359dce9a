-- SPDX-License-Identifier: Apache-2.0
-- The length of what is no month, February's length in both of its cases, and the limits 28 and 31 of a month that exists: one
-- test over the definition's list; February's two lengths lie within the limits.
use mathlib.Core.Path.{◌≡◌, sym}
use mathlib.Core.Bool.{Bool, true, false, ◌&&◌, ◌||◌}
use Prim.Native.Nat.{ℕ, ◌%◌, ◌≤◌, ◌<◌}
use native.Mathlib.Omega.{arith}
use lib.Dec.{T, eqb, leb, leb→le}
use lib.ListN.{get_or, get_or-eq_default}
use borrow.Author.Tests.{eq-eqb, ne_eqb}
use Rattle.calendar.specs.Month.{month_length, common_lengths, pick}
use Rattle.calendar.proofs.Tests.{and_left, and_right}
use Rattle.calendar.proofs.Table.{every_at}

pub month_length_none : (m y : ℕ) → 12 < m → 0 ≡ month_length m y
unfolding month_length
month_length_none m y h = rw (ne_eqb m 2 (λ e. omega arith)) (sym (get_or-eq_default common_lengths 0 h))

pub month_length_leap : (m y : ℕ) → m ≡ 2 → y % 4 ≡ 0 → 29 ≡ month_length m y
unfolding month_length
month_length_leap m y e z = rw (e, eq-eqb (y % 4) 0 z)

pub month_length_february : (m y : ℕ) → m ≡ 2 → (y % 4 ≡ 0 → ⊥) → 28 ≡ month_length m y
unfolding month_length
month_length_february m y e n = rw (e, ne_eqb (y % 4) 0 n)

pub month_length_zero : (m y : ℕ) → m ≡ 0 → 0 ≡ month_length m y
unfolding month_length
month_length_zero m y e = rw e

or_right : (a b : Bool) → a ≡ false → T (a || b) → T b
or_right a b e t = rw e at t

-- the test of an entry: at least 28, but at month 0, and at most 31
in_limits : ℕ → ℕ → Bool
in_limits m x = (eqb m 0 || leb 28 x) && leb x 31

common_limits : (m : ℕ) → 1 ≤ m → m ≤ 12 → (28 ≤ get_or common_lengths m 0) × (get_or common_lengths m 0 ≤ 31)
unfolding in_limits
common_limits m h k =
    let t = every_at in_limits common_lengths tt m (omega arith) in
    let x = get_or common_lengths m 0 in
    let a = eqb m 0 || leb 28 x in
    let l = or_right (eqb m 0) (leb 28 x) (ne_eqb m 0 (λ e. omega arith)) (and_left a (leb x 31) t) in
    (leb→le 28 x l, leb→le x 31 (and_right a (leb x 31) t))

pick_limits :
    (a b : Bool) (x : ℕ) → (28 ≤ x) × (x ≤ 31)
    → (28 ≤ pick a (pick b 29 28) x) × (pick a (pick b 29 28) x ≤ 31)
pick_limits true true x h = omega arith
pick_limits true false x h = omega arith
pick_limits false b x h = h

pub month_length_limits : (m y : ℕ) → 1 ≤ m → m ≤ 12 → (28 ≤ month_length m y) × (month_length m y ≤ 31)
unfolding month_length
month_length_limits m y h k = pick_limits (eqb m 2) (eqb (y % 4) 0) (get_or common_lengths m 0) (common_limits m h k)
