-- SPDX-License-Identifier: Apache-2.0
-- How many events of a call on a set were answered, by its number.
use Prim.Native.Nat.{ℕ, suc}
use mathlib.Core.Path.{◌≡◌, refl, sym, ap, ◌∙◌}
use mathlib.Core.List.{List, [], ◌∷◌, map}
use native.Mathlib.Omega.{arith}
use lib.Dec.{eqb}
use lib.ListN.{length, length-map}
use lib.Seq.{take_all}
use borrow.Author.Tests.{eqb-true, eqb-false, ne_eqb}
use Rattle.wire.proofs.Tests.{by_test}
use Rattle.numbers.specs.Numbers.{accepted}
use Rattle.fm31.specs.Step.{answer_byte}
use Rattle.set_event.specs.Set.{Together, after_event, lines_to}
use Rattle.set_event.specs.Outcome.{lent_to}
use Rattle.set_image.specs.Read.{reading_of}
use Rattle.set_run.specs.Run.{run_of}
use Rattle.set_run.proofs.Runs.{run_answers}
use Rattle.c_fm31set.specs.Entry.{Outcome, outcome, written, run_number, run_outcome}
use Rattle.c_fm31set.proofs.Entries.{run_refused}
use Rattle.law_ensemble.specs.Count.{Told, CountByNumber}

lines_length : (t : Together) (es : List ℕ) → length (lines_to t es) ≡ length es
lines_length t [] = refl
lines_length t (e ∷ es) = ap suc (lines_length (after_event t e) es)

module _ (plan images a b c d es room : List ℕ) where
  abbrev before : Together
  before = lent_to (reading_of plan images).set a b c d

  abbrev o : Outcome
  o = run_outcome plan images a b c d es room

  abbrev n : ℕ
  n = run_number (reading_of plan images).good before es (length room)

  abbrev shown : List ℕ
  shown = map answer_byte (lines_to before es)

  shown_length : length shown ≡ length es
  shown_length = length-map (lines_to before es) answer_byte ∙ lines_length before es

  done : n ≡ accepted → o ≡ written before.set.count images (run_of before es) es room
  unfolding run_outcome
  done z = rw z

  all : n ≡ accepted → Told before images es room o
  all z =
      let whole = take_all (length es) shown (omega (arith, shown_length)) in
      rw (done z)
      (record {
        answers = rw (whole, run_answers before es) refl;
        count = rw whole shown_length;
        refused = λ f. absurd (f refl);
      })

  left : (n ≡ accepted → ⊥) → o ≡ outcome n images before room
  left z = sym (run_refused plan images a b c d es room (reading_of plan images) refl n refl z)

  none : (n ≡ accepted → ⊥) → Told before images es room o
  none z = rw (left z) (record { answers = rw (ne_eqb n 0 z) refl; count = rw (ne_eqb n 0 z) refl; refused = λ f. refl })

  told : Told before images es room o
  told = by_test (eqb n accepted) (λ z. all (eqb-true n accepted z)) (λ z. none (eqb-false n accepted z))

pub count_by_number : CountByNumber
count_by_number = told
