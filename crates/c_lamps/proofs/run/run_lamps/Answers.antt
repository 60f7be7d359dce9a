-- SPDX-License-Identifier: Apache-2.0
-- The entry's outcome, before it is told to C.
use mathlib.Core.Path.{sym, ◌∙◌}
use Rattle.std.proofs.lemmas.Result.{err_from_is_err_and}
use Rattle.fm3130_image.proofs.Accepts.{image_read}
use Rattle.lamps_bytes.proofs.Bytes.{kept_length}
use Rattle.c_lamps.proofs.Loop.{admitted_here, not_admitted, wrong_kept, unknown_event_lem, short_answers_lem, all_done}
use Rattle.c_lamps.proofs.run.run_lamps.Goals as goal

pub returns-in_err-admit : goal.returns-in_err-admit
returns-in_err-admit c =
    let p = err_from_is_err_and c.from_residual.result c.from_residual.ensures.1 in
    rw (p.1, p.2) (not_admitted _ _ _ _ _ _ (sym c.admit.ensures.admitted ∙ c.in_err-admit.was))

pub returns-then-not-is_kept : goal.returns-then-not-is_kept
returns-then-not-is_kept c =
    let i = c.args.image.now in
    let a = admitted_here i c.args.memory.now _ (sym c.admit.ensures.admitted ∙ c.in_ok-admit.was) in
    sym (wrong_kept i _ c.args.events.now c.args.answers.now c.args.kept.now a.memory _ (image_read i a.image)
    (sym c.is_kept.ensures ∙ c.if-not-is_kept.true))

pub returns-then-not-all_known : goal.returns-then-not-all_known
returns-then-not-all_known c =
    let i = c.args.image.now in
    let a = admitted_here i c.args.memory.now _ (sym c.admit.ensures.admitted ∙ c.in_ok-admit.was) in
    sym (unknown_event_lem i _ c.args.events.now c.args.answers.now c.args.kept.now a.memory _ (image_read i a.image)
    (sym c.is_kept.ensures ∙ c.if-not-is_kept.false) (sym c.all_known.ensures ∙ c.if-not-all_known.true))

pub returns-then-answers-events : goal.returns-then-answers-events
returns-then-answers-events c =
    let i = c.args.image.now in
    let a = admitted_here i c.args.memory.now _ (sym c.admit.ensures.admitted ∙ c.in_ok-admit.was) in
    sym (short_answers_lem i _ c.args.events.now c.args.answers.now c.args.kept.now a.memory _ (image_read i a.image)
    (sym c.is_kept.ensures ∙ c.if-not-is_kept.false) (sym c.all_known.ensures ∙ c.if-not-all_known.false)
    c.if-answers-events.true)

pub read-proving-requires : goal.read-proving-requires
read-proving-requires c = kept_length c.args.kept.now (sym c.is_kept.ensures ∙ c.if-not-is_kept.false)

pub write-requires : goal.write-requires
write-requires c = kept_length c.args.kept.now (sym c.is_kept.ensures ∙ c.if-not-is_kept.false)

pub returns : goal.returns
returns c =
    let i = c.args.image.now in
    let a = admitted_here i c.args.memory.now _ (sym c.admit.ensures.admitted ∙ c.in_ok-admit.was) in
    all_done i _ _ c.args.answers.now c.args.kept.now a.memory _ (image_read i a.image)
    (sym c.is_kept.ensures ∙ c.if-not-is_kept.false) c.follow_in_parts-stepped.result _ _ _ _ _
    (sym c.all_known.ensures ∙ c.if-not-all_known.false) c.if-answers-events.false
    (rw c.read-proving.ensures at c.follow_in_parts-stepped.ensures) c.write.ensures c.report.ensures
