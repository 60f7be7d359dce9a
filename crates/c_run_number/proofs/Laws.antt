-- SPDX-License-Identifier: Apache-2.0
-- The count is known by the number; and no second outcome satisfies the contract.
use Prim.Native.Nat.{ℕ}
use mathlib.Core.Path.{◌≡◌, sym, ap, ◌∙◌}
use mathlib.Core.List.{List}
use lib.Dec.{eqb}
use borrow.Author.Tests.{eqb-true, eqb-false}
use Rattle.wire.proofs.Tests.{by_test}
use Rattle.numbers.specs.Numbers.{accepted}
use Rattle.fm3130_list.specs.Run.{Outcome, outcome_of}
use Rattle.fm3130_list.proofs.Ends.{run_count, run_refused}
use Rattle.c_run_number.specs.Number.{NumberSettled}
use Rattle.c_run_number.specs.Laws.{CountByNumber}

pub count_by_number : CountByNumber
count_by_number i m es a = by_test (eqb (outcome_of i m es a).number accepted)
    (λ t. rw t (run_count i m es a (eqb-true _ accepted t)))
    (λ t. rw t (ap (λ (o : Outcome). o.count) (run_refused i m es a (eqb-false _ accepted t))))

pub number_unique : (i m es a : List ℕ) (n n₂ : ℕ) (i' i₂ m' m₂ a' a₂ : List ℕ)
    → NumberSettled i m es a n i' m' a' → NumberSettled i m es a n₂ i₂ m₂ a₂
    → (n ≡ n₂) × (i' ≡ i₂) × (m' ≡ m₂) × (a' ≡ a₂)
number_unique i m es a n n₂ i' i₂ m' m₂ a' a₂ p q =
    let e = p ∙ sym q in (λ k. (e k).number, λ k. (e k).image, λ k. (e k).memory, λ k. (e k).answers)
