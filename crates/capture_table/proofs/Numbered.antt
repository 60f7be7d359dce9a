-- SPDX-License-Identifier: Apache-2.0
-- The kinds by their numbers: the numbers 1 to 4, and no others.
use Prim.Native.Nat.{ℕ, zero, suc, ◌≤◌}
use mathlib.Core.Path.{◌≡◌, refl}
use mathlib.Core.Bool.{true, false, ◌&&◌, and-false}
use native.Mathlib.Omega.{arith}
use lib.Dec.{leb}
use borrow.Author.Tests.{lt-leb}
use Rattle.capture_table.specs.Table.{kind_number}
use Rattle.capture_table.specs.declared.Kind.{Kind}
use Rattle.capture_table.specs.declared.Kind.TheVariants.{Image, Memory, Events, Answers}

pub number_low : (k : Kind) → 1 ≤ kind_number k
number_low Image = omega arith
number_low Memory = omega arith
number_low Events = omega arith
number_low Answers = omega arith

pub number_high : (k : Kind) → kind_number k ≤ 4
number_high Image = omega arith
number_high Memory = omega arith
number_high Events = omega arith
number_high Answers = omega arith

pub known_kind : (n : ℕ) (k : Kind) → n ≡ kind_number k → (leb 1 n && leb n 4) ≡ true
known_kind n Image e = rw e
known_kind n Memory e = rw e
known_kind n Events e = rw e
known_kind n Answers e = rw e

pub unknown_kind : (n : ℕ) → ((k : Kind) → n ≡ kind_number k → ⊥) → (leb 1 n && leb n 4) ≡ false
unknown_kind zero f = refl
unknown_kind (suc zero) f = absurd (f Image refl)
unknown_kind (suc (suc zero)) f = absurd (f Memory refl)
unknown_kind (suc (suc (suc zero))) f = absurd (f Events refl)
unknown_kind (suc (suc (suc (suc zero)))) f = absurd (f Answers refl)
unknown_kind (suc (suc (suc (suc (suc n))))) f =
    rw (lt-leb (suc (suc (suc (suc (suc n))))) 4 (omega arith)) (and-false (leb 1 (suc (suc (suc (suc (suc n)))))))
