-- SPDX-License-Identifier: Apache-2.0
-- Number 9 exactly: the count of a set that was read is one to four exactly if the plan's length is; that test goes
-- first, and where it is passed no later test gives 9.
use Prim.Native.Nat.{ℕ}
use mathlib.Core.Path.{◌≡◌, refl, sym, ◌∙◌}
use mathlib.Core.Bool.{Bool, true, false, cond}
use mathlib.Core.List.{List}
use native.Mathlib.Omega.{arith}
use lib.Dec.{eqb, ltb, leb}
use lib.ListN.{length}
use borrow.Author.Tests.{ltb-false, lt-leb, le-leb, eqb-true}
use Rattle.wire.proofs.Tests.{by_test}
use Rattle.bits.proofs.Cases.{by_cond}
use Rattle.numbers.specs.Numbers.{accepted, wrong_memory, wrong_state, unknown_event, short_answers}
use Rattle.numbers.specs.Numbers.{wrong_count, equal_selects, in_transfer}
use Rattle.set_event.specs.Set.{Together}
use Rattle.set_event.specs.Make.{is_lent, is_within, is_between, places_are, selects_differ, is_count, count_fits, make_number}
use Rattle.set_event.specs.Stand.{stand_together}
use Rattle.set_event.specs.Outcome.{lent_to}
use Rattle.set_image.specs.Read.{count_of, reading_of}
use Rattle.set_run.specs.Run.{all_known}
use Rattle.c_fm31set.specs.Entry.{check_of, run_number, Outcome, run_outcome}
use Rattle.c_fm31set.specs.Count.{NineExactly, CountExactly}
use Rattle.c_fm31set.proofs.Entries.{check_wrong_count, run_wrong_count}

-- five stands for more than four
count_read : (plan : List ℕ) → is_count (count_of plan) ≡ is_count (length plan)
unfolding count_of
count_read plan =
    by_test (ltb (length plan) 5)
    (λ t. rw t)
    (λ f.
    let l = ltb-false (length plan) 5 f in
    rw (f, le-leb 1 (length plan) (omega arith), lt-leb (length plan) 4 (omega arith)))

not_nine : (b : Bool) (x k : ℕ) → (x ≡ wrong_count → ⊥) → (k ≡ wrong_count → ⊥) → cond b x k ≡ wrong_count → ⊥
not_nine true x k p q e = p e
not_nine false x k p q e = q e

make_not_nine : (t : Together) → count_fits t ≡ true → make_number t ≡ wrong_count → ⊥
unfolding make_number
make_not_nine t n e =
    not_nine (places_are is_lent t) _ wrong_memory
    (not_nine (places_are is_within t) _ wrong_state
    (not_nine (selects_differ t) _ equal_selects
    (not_nine (places_are is_between t) accepted in_transfer (λ k. omega (arith, k)) (λ k. omega (arith, k)))
    (λ k. omega (arith, k)))
    (λ k. omega (arith, k)))
    (λ k. omega (arith, k))
    (rw n at e)

run_not_nine : (good : Bool) (t : Together) (es : List ℕ) (room : ℕ) → count_fits t ≡ true
    → run_number good t es room ≡ wrong_count → ⊥
unfolding run_number
run_not_nine good t es room n e =
    not_nine (places_are is_lent t) _ wrong_memory
    (not_nine good _ wrong_state
    (not_nine (all_known t.set.count es) _ unknown_event
    (not_nine (leb (length es) room) _ short_answers
    (not_nine (selects_differ t) _ equal_selects
    (not_nine (stand_together t) accepted in_transfer (λ k. omega (arith, k)) (λ k. omega (arith, k)))
    (λ k. omega (arith, k)))
    (λ k. omega (arith, k)))
    (λ k. omega (arith, k)))
    (λ k. omega (arith, k)))
    (λ k. omega (arith, k))
    (rw n at e)

module _ (plan images a b c d : List ℕ) where
  abbrev set_of : Together
  set_of = lent_to (reading_of plan images).set a b c d

  count_is : count_fits set_of ≡ is_count (length plan)
  unfolding reading_of
  count_is = count_read plan

  -- a count that fails its test, and one that passes it
  fails : is_count (length plan) ≡ false → count_fits set_of ≡ false
  fails f = count_is ∙ f

  unless_nine : (n : ℕ) → (count_fits set_of ≡ true → n ≡ wrong_count → ⊥) → n ≡ wrong_count → is_count (length plan) ≡ false
  unless_nine n p e =
      by_test (count_fits set_of) (λ y. absurd (p y e)) (λ f. sym count_is ∙ f)

  check_not_nine : count_fits set_of ≡ true → check_of plan images a b c d ≡ wrong_count → ⊥
  unfolding check_of
  check_not_nine n e =
      not_nine (places_are is_lent set_of) _ wrong_memory
      (not_nine (reading_of plan images).good _ wrong_state (make_not_nine set_of n) (λ k. omega (arith, k)))
      (λ k. omega (arith, k))
      (rw n at e)

  check_nine : NineExactly plan (check_of plan images a b c d)
  check_nine =
      record {
        then_nine = λ f. check_wrong_count plan images a b c d (reading_of plan images) refl (fails f);
        only_then = unless_nine (check_of plan images a b c d) check_not_nine;
      }

  module _ (es room : List ℕ) where
    abbrev number_in : ℕ
    number_in = run_number (reading_of plan images).good set_of es (length room)

    number_is : (run_outcome plan images a b c d es room).number ≡ number_in
    unfolding run_outcome
    number_is =
        by_cond (λ (o : Outcome). o.number ≡ number_in) (eqb number_in accepted)
        (λ z. sym (eqb-true number_in accepted z)) (λ z. refl)

    run_nine : NineExactly plan (run_outcome plan images a b c d es room).number
    run_nine =
        record {
          then_nine = λ f. number_is ∙ run_wrong_count (reading_of plan images).good set_of es (length room) (fails f);
          only_then =
              λ e.
              unless_nine number_in (run_not_nine (reading_of plan images).good set_of es (length room))
              (sym number_is ∙ e);
        }

pub count_exactly : CountExactly
count_exactly plan images a b c d es room =
    (check_nine plan images a b c d, run_nine plan images a b c d es room)
