-- SPDX-License-Identifier: Apache-2.0
-- The length of every month but February, by one sum: that 31 and 30 take turns is one test over the definition's list.
use mathlib.Core.Path.{◌≡◌}
use mathlib.Core.Bool.{Bool, false, ◌||◌}
use Prim.Native.Nat.{ℕ, ◌+◌, ◌/◌, ◌%◌, ◌≤◌}
use native.Mathlib.Omega.{arith}
use lib.Dec.{T, eqb}
use lib.ListN.{get_or}
use borrow.Author.Tests.{ne_eqb, eqb-true}
use Rattle.calendar.specs.Month.{month_length, common_lengths}
use Rattle.calendar.proofs.Tests.{test_true}
use Rattle.calendar.proofs.Table.{every_at}

-- the test of an entry: 31 and 30 take turns, from January on and from August on anew, but at month 0 and in February
takes_turns : ℕ → ℕ → Bool
takes_turns m x = eqb m 0 || eqb m 2 || eqb (30 + (m + m / 8) % 2) x

or_right : (a b : Bool) → a ≡ false → T (a || b) → T b
or_right a b e t = rw e at t

turns : (m : ℕ) → m ≤ 12 → (m ≡ 0 → ⊥) → (m ≡ 2 → ⊥) → 30 + (m + m / 8) % 2 ≡ get_or common_lengths m 0
unfolding takes_turns
turns m k z n =
    let t = every_at takes_turns common_lengths tt m (omega arith) in
    let x = get_or common_lengths m 0 in
    let none : (eqb m 0 || eqb m 2) ≡ false = rw (ne_eqb m 0 z, ne_eqb m 2 n) in
    eqb-true (30 + (m + m / 8) % 2) x (test_true _ (or_right (eqb m 0 || eqb m 2) _ none t))

pub month_length_other : (m y : ℕ) → m ≤ 12 → (m ≡ 0 → ⊥) → (m ≡ 2 → ⊥) → 30 + (m + m / 8) % 2 ≡ month_length m y
unfolding month_length
month_length_other m y k z n = rw (ne_eqb m 2 n) (turns m k z n)
