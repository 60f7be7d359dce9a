-- SPDX-License-Identifier: Apache-2.0
-- The tests in the order of the numbers, each way by its law; and the run, over the image where it lies.
use mathlib.Core.Path.{sym, ◌∙◌}
use Rattle.std.proofs.lemmas.Result.{err_from_is_err_and}
use Rattle.fm3130_image.proofs.Accepts.{image_read}
use Rattle.fm3130_list.proofs.Runs.{outcome_unknown_event, outcome_short_answers, outcome_done}
use Rattle.c_run.proofs.Admitted.{refused_at_once}
use Rattle.c_run.proofs.run.run_list.Goals as goal

pub returns-in_err-admit : goal.returns-in_err-admit
returns-in_err-admit c =
    let p = err_from_is_err_and c.from_residual.result c.from_residual.ensures.1 in
    rw (p.1, p.2) (refused_at_once _ _ _ _ _ c.in_err-admit.ensures.admitted)

pub returns-then-not-all_known : goal.returns-then-not-all_known
returns-then-not-all_known c =
    let a = c.in_ok-admit.ensures.ok in
    sym (outcome_unknown_event _ _ _ _ a.0 _ (image_read _ a.1) (sym c.all_known.ensures ∙ c.if-not-all_known.true))

pub returns-then-answers-events : goal.returns-then-answers-events
returns-then-answers-events c =
    let a = c.in_ok-admit.ensures.ok in
    let k = sym c.all_known.ensures ∙ c.if-not-all_known.false in
    sym (outcome_short_answers _ _ _ _ a.0 _ (image_read _ a.1) k c.if-answers-events.true)

pub returns : goal.returns
returns c =
    let a = c.in_ok-admit.ensures.ok in
    let k = sym c.all_known.ensures ∙ c.if-not-all_known.false in
    outcome_done _ _ _ _ a.0 _ (image_read _ a.1) _ _ _ k c.if-answers-events.false c.run_events.ensures
