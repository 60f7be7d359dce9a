-- SPDX-License-Identifier: Apache-2.0
-- The tests in the order of the numbers, each way by its law; and the run, over the image where it lies, after which the bus is written.
use mathlib.Core.Path.{sym, ◌∙◌}
use Rattle.std.proofs.lemmas.Result.{err_from_is_err_and}
use Rattle.fm3130_image.proofs.Accepts.{image_read}
use Rattle.masters_hold.proofs.Known.{one_byte}
use Rattle.c_masters.proofs.Admitted.{refused_at_once}
use Rattle.c_masters.proofs.Ways.{call_unknown, call_unknown_event}
use Rattle.c_masters.proofs.Ways.{call_not_held, call_short_answers, call_done}
use Rattle.c_masters.proofs.entries.call.Goals as goal

pub returns-in_err-admit : goal.returns-in_err-admit
returns-in_err-admit c =
    let p = err_from_is_err_and c.from_residual.result c.from_residual.ensures.1 in
    rw (p.1, p.2) (refused_at_once _ _ _ _ _ _ _ c.in_err-admit.ensures.admitted)

pub returns-in_default : goal.returns-in_default
returns-in_default c =
    let a = c.in_ok-admit.ensures.ok in
    sym (call_unknown _ _ _ _ _ _ a.0 _ (image_read _ a.1) (sym c.standing.ensures ∙ c.in_default.is))

pub returns-then-not-all_known : goal.returns-then-not-all_known
returns-then-not-all_known c =
    let a = c.in_ok-admit.ensures.ok in
    let h = sym c.standing.ensures ∙ c.in-Some.is in
    let k = sym c.all_known.ensures ∙ c.if-not-all_known.true in
    sym (call_unknown_event _ _ _ _ _ _ a.0 _ (image_read _ a.1) _ _ h k)

pub returns-then-not-may_call : goal.returns-then-not-may_call
returns-then-not-may_call c =
    let a = c.in_ok-admit.ensures.ok in
    let h = sym c.standing.ensures ∙ c.in-Some.is in
    let k = sym c.all_known.ensures ∙ c.if-not-all_known.false in
    let m = sym c.may_call.ensures ∙ c.if-not-may_call.true in
    sym (call_not_held _ _ _ _ _ _ a.0 _ (image_read _ a.1) _ _ h k m)

pub returns-then-answers-events : goal.returns-then-answers-events
returns-then-answers-events c =
    let a = c.in_ok-admit.ensures.ok in
    let h = sym c.standing.ensures ∙ c.in-Some.is in
    let k = sym c.all_known.ensures ∙ c.if-not-all_known.false in
    let m = sym c.may_call.ensures ∙ c.if-not-may_call.false in
    sym (call_short_answers _ _ _ _ _ _ a.0 _ (image_read _ a.1) _ _ h k m c.if-answers-events.true)

pub free_after-requires : goal.free_after-requires
free_after-requires c = one_byte _ _ _ (sym c.standing.ensures ∙ c.in-Some.is)

pub returns : goal.returns
returns c =
    let a = c.in_ok-admit.ensures.ok in
    let h = sym c.standing.ensures ∙ c.in-Some.is in
    let k = sym c.all_known.ensures ∙ c.if-not-all_known.false in
    let m = sym c.may_call.ensures ∙ c.if-not-may_call.false in
    call_done _ _ _ _ _ _ a.0 _ (image_read _ a.1) _ _ h k m _ _ _ _ c.if-answers-events.false c.run_events.ensures
    c.free_after.ensures
