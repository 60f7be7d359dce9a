-- SPDX-License-Identifier: Apache-2.0
-- A set that stands passes all tests of a list run but those of events and answers; one that was made stands, and what a
-- run leaves is read again as the set that its events lead to, which stands too.
use Prim.Native.Nat.{ℕ, ◌≤◌}
use mathlib.Core.Path.{◌≡◌, refl, sym, ap, subst, ◌∙◌}
use mathlib.Core.Bool.{Bool, true, false, cond, not}
use mathlib.Core.List.{List}
use native.Mathlib.Omega.{arith}
use lib.Dec.{eqb, ltb}
use lib.ListN.{length}
use borrow.Author.Tests.{ne_eqb, eqb-true}
use Rattle.wire.proofs.Tests.{by_test}
use Rattle.bits.proofs.Cases.{by_cond}
use Rattle.numbers.specs.Numbers.{accepted, wrong_memory, wrong_state, wrong_count, unknown_event}
use Rattle.law_wired.proofs.Wire.{not_true}
use Rattle.set_event.specs.Set.{Together, at, after_events}
use Rattle.set_event.specs.Make.{is_lent, places_are, differ, selects_differ, is_count, count_fits}
use Rattle.set_event.specs.Outcome.{lent_to, SetFit}
use Rattle.set_image.specs.Read.{count_of, reading_of}
use Rattle.set_image.specs.Write.{images_of}
use Rattle.set_image.specs.declared.Reading.{Reading}
use Rattle.set_image.proofs.Readings.{reading_within}
use Rattle.set_run.specs.Run.{run_of, all_known}
use Rattle.set_run.proofs.Runs.{run_together}
use Rattle.c_fm31set.specs.Entry.{check_of, run_number, Outcome, written, run_outcome}
use Rattle.c_fm31set.proofs.Entries.{run_accepted, Passed, passed}
use Rattle.law_ensemble.specs.Transaction.{Unlike}
use Rattle.law_ensemble.specs.Stand.{Stands}
use Rattle.law_ensemble.specs.Again.{MadeRuns, RunsAgain}
use Rattle.law_ensemble.proofs.Pairs.{of_each_two}
use Rattle.law_ensemble.proofs.Made.{made}
use Rattle.law_ensemble.proofs.Stand.{count_kept, here_before, made_stands, run_stands, stands_on}
use Rattle.law_ensemble.proofs.Again.{select_kept, fit_kept, reading_again}

zero_of : (b : Bool) (x k : ℕ) → (k ≡ 0 → ⊥) → cond b x k ≡ 0 → (b ≡ true) × (x ≡ 0)
zero_of true x k d e = (refl, e)
zero_of false x k d e = absurd (d e)

-- different selects, as the run tests them
unlike_differ : (t : Together) → Unlike t → selects_differ t ≡ true
unlike_differ t u = of_each_two differ t (λ v w a b d. ap not (ne_eqb _ _ (u v w a b d)))

unlike_kept : (t : Together) (es : List ℕ) → Unlike t → Unlike (after_events t es)
unlike_kept t es u v w a b d e =
    u v w (here_before t es v a) (here_before t es w b) d (sym (select_kept t es v) ∙ (e ∙ select_kept t es w))

-- of one to four devices a plan's bytes are counted
pub counted : (plan : List ℕ) → is_count (count_of plan) ≡ true → count_of plan ≡ length plan
unfolding count_of
counted plan e = by_test (ltb (length plan) 5) (λ t. rw t refl) (λ f. not_true (rw f at e))

pub outcome_number : (plan images a b c d es room : List ℕ)
    → (run_outcome plan images a b c d es room).number
    ≡ run_number (reading_of plan images).good (lent_to (reading_of plan images).set a b c d) es (length room)
unfolding run_outcome
outcome_number plan images a b c d es room =
    let n = run_number (reading_of plan images).good (lent_to (reading_of plan images).set a b c d) es (length room) in
    by_cond (λ (o : Outcome). o.number ≡ n) (eqb n accepted) (λ z. sym (eqb-true n accepted z)) (λ z. refl)

pub outcome_done : (plan images a b c d es room : List ℕ)
    → (let t = lent_to (reading_of plan images).set a b c d in
    run_number (reading_of plan images).good t es (length room) ≡ accepted
    → run_outcome plan images a b c d es room ≡ written t.set.count images (run_of t es) es room)
unfolding run_outcome
outcome_done plan images a b c d es room e = rw e

-- the tests of a run that Passed does not name: the count, and the events
pub known_of : (good : Bool) (t : Together) (es : List ℕ) (room : ℕ) → run_number good t es room ≡ accepted
    → (count_fits t ≡ true) × (all_known t.set.count es ≡ true)
unfolding run_number
known_of good t es room e =
    let h1 = zero_of (count_fits t) _ wrong_count (λ k. omega (arith, k)) e in
    let h2 = zero_of (places_are is_lent t) _ wrong_memory (λ k. omega (arith, k)) h1.1 in
    let h3 = zero_of good _ wrong_state (λ k. omega (arith, k)) h2.1 in
    (h1.0, (zero_of (all_known t.set.count es) _ unknown_event (λ k. omega (arith, k)) h3.1).0)

pub made_runs : MadeRuns
unfolding check_of reading_of
made_runs plan images a b c d es room e known enough =
    let r = reading_of plan images in
    let t = lent_to r.set a b c d in
    let h1 = zero_of (count_fits t) _ wrong_count (λ k. omega (arith, k)) e in
    let h2 = zero_of (places_are is_lent t) _ wrong_memory (λ k. omega (arith, k)) h1.1 in
    let h3 = zero_of r.good _ wrong_state (λ k. omega (arith, k)) h2.1 in
    outcome_number plan images a b c d es room
    ∙ run_accepted r.good t es (length room) h1.0 h2.0 h3.0
    (subst (λ (n : ℕ). all_known n es ≡ true) (sym (counted plan h1.0)) known)
    enough
    (unlike_differ t (made t h3.1).1)
    (made_stands t h3.1).together

module _ (plan images a b c d es room : List ℕ)
    (e : run_number (reading_of plan images).good (lent_to (reading_of plan images).set a b c d) es (length room) ≡ accepted)
    (more answers : List ℕ) (known : all_known (length plan) more ≡ true) (enough : length more ≤ length answers)
  where
    abbrev before : Together
    before = lent_to (reading_of plan images).set a b c d

    abbrev after : Together
    after = after_events before es

    count_fits_lem : count_fits before ≡ true
    unfolding run_number
    count_fits_lem = (zero_of (count_fits before) _ wrong_count (λ k. omega (arith, k)) e).0

    all_passed : Passed (reading_of plan images).good before es (length room)
    all_passed = passed (reading_of plan images).good before es (length room) e

    fit : SetFit before
    fit =
        record {
          lent = all_passed.lent;
          within = reading_within plan images all_passed.well a b c d;
        }

    stands : Unlike before × Stands before
    stands = run_stands before fit.within all_passed.unlike all_passed.stand

    plan_counted : after.set.count ≡ length plan
    unfolding reading_of
    plan_counted = count_kept before es ∙ counted plan count_fits_lem

    run_after : run_number true after more (length answers) ≡ accepted
    run_after =
        run_accepted true after more (length answers)
        (subst (λ (n : ℕ). is_count n ≡ true) (sym (count_kept before es)) count_fits_lem)
        (fit_kept before es fit).lent
        refl
        (subst (λ (n : ℕ). all_known n more ≡ true) (sym plan_counted) known)
        enough
        (unlike_differ after (unlike_kept before es stands.0))
        (stands_on before es stands.0 stands.1).together

    -- the next run, of what a set leaves in the buffers
    abbrev Next : Together → Type 0
    Next u =
        (run_outcome plan (images_of (count_of plan) u.set images) u.one u.two u.three u.four more answers
        ).number
        ≡ accepted

    next_after : Next after
    next_after =
        outcome_number plan (images_of (count_of plan) after.set images) after.one after.two after.three
        after.four more answers
        ∙ subst
        (λ (r : Reading).
        run_number r.good (lent_to r.set after.one after.two after.three after.four) more (length
        answers)
        ≡ accepted)
        (sym (reading_again plan images all_passed.well a b c d fit es))
        run_after

    next_left : (let left = run_outcome plan images a b c d es room in
        (run_outcome plan left.images left.one left.two left.three left.four more answers).number
        ≡ accepted)
    unfolding reading_of
    next_left =
        subst
        (λ (o : Outcome).
        (run_outcome plan o.images o.one o.two o.three o.four more answers).number ≡ accepted)
        (sym (outcome_done plan images a b c d es room e))
        (subst Next (sym (run_together before es)) next_after)

pub runs_again : RunsAgain
runs_again plan images a b c d es room e more answers known enough =
    next_left plan images a b c d es room (sym (outcome_number plan images a b c d es room) ∙ e) more answers known
    enough
