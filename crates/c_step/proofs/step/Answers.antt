-- SPDX-License-Identifier: Apache-2.0
-- The tests in the order of the numbers, each way by its law; and the event, which changes the image where it lies.
use mathlib.Core.Path.{sym}
use Rattle.std.proofs.lemmas.Result.{err_from_is_err_and}
use Rattle.fm3130_image.proofs.Accepts.{image_read}
use Rattle.c_step.proofs.Ways.{single_unknown_event, single_short, single_answered, front_set}
use Rattle.c_step.proofs.Admitted.{refused_at_once}
use Rattle.c_step.proofs.step.Goals as goal

pub returns-in_err-admit : goal.returns-in_err-admit
returns-in_err-admit c =
    let p = err_from_is_err_and c.from_residual.result c.from_residual.ensures.1 in
    rw (p.1, p.2) (refused_at_once _ _ _ _ _ c.in_err-admit.ensures.admitted)

pub returns-then-event-gt7 : goal.returns-then-event-gt7
returns-then-event-gt7 c =
    let a = c.in_ok-admit.ensures.ok in
    sym (single_unknown_event _ _ _ _ a.0 _ (image_read _ a.1) c.if-event-gt7.true)

pub returns-then-told-lt-TOLD : goal.returns-then-told-lt-TOLD
returns-then-told-lt-TOLD c =
    let a = c.in_ok-admit.ensures.ok in
    sym (single_short _ _ _ _ a.0 _ (image_read _ a.1) c.if-event-gt7.false c.if-told-lt-TOLD.true)

pub returns : goal.returns
returns c =
    let d = c.tell-done.ensures in
    let a = c.in_ok-admit.ensures.ok in
    rw (c.number.ensures, front_set c.args.told.now _ _ c.if-told-lt-TOLD.false, d.1, d.0.answer, d.0.image, d.0.memory)
    (sym (single_answered _ _ _ _ a.0 _ (image_read _ a.1) c.if-event-gt7.false c.if-told-lt-TOLD.false))
