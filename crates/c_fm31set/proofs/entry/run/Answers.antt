-- SPDX-License-Identifier: Apache-2.0
-- Refused, by the refusal that the tests gave; or the events done, and the images written at the end.
use mathlib.Core.Path.{refl}
use Rattle.std.proofs.lemmas.Result.{err_from_is_err_and}
use Rattle.numbers.proofs.Refusals.{refusal_not_accepted}
use Rattle.c_fm31set.proofs.Entries.{run_refused, images_long, room_enough, set_fit, run_written}
use Rattle.c_fm31set.proofs.entry.run.Goals as goal

pub returns-in_err-accept_run : goal.returns-in_err-accept_run
returns-in_err-accept_run c =
    let a = c.args in
    let r = c.read_set-read in
    let p = err_from_is_err_and c.from_residual.result c.from_residual.ensures.1 in
    rw (p.1, p.2)
    (run_refused a.plan.now a.images.now a.one.now a.two.now a.three.now a.four.now a.events.now a.answers.now r.result
    r.ensures _ c.in_err-accept_run.ensures (refusal_not_accepted _))

pub run_events-last-requires : goal.run_events-last-requires
run_events-last-requires c =
    let a = c.args in
    let r = c.read_set-read in
    let n = c.in_ok-accept_run.ensures in
    record {
      set_fit = set_fit a.plan.now a.images.now a.one.now a.two.now a.three.now a.four.now a.events.now a.answers.now
          r.result r.ensures _ n refl;
      room = room_enough a.plan.now a.images.now a.one.now a.two.now a.three.now a.four.now a.events.now a.answers.now
          r.result r.ensures _ n refl;
    }

pub write_images-requires : goal.write_images-requires
write_images-requires c =
    let a = c.args in
    let r = c.read_set-read in
    images_long a.plan.now a.images.now a.one.now a.two.now a.three.now a.four.now a.events.now a.answers.now r.result
    r.ensures _ c.in_ok-accept_run.ensures refl

pub returns : goal.returns
returns c =
    let a = c.args in
    let r = c.read_set-read in
    run_written a.plan.now a.images.now a.one.now a.two.now a.three.now a.four.now a.events.now a.answers.now r.result
    r.ensures _ c.in_ok-accept_run.ensures refl _ _ _ c.run_events-last.ensures c.write_images.ensures
