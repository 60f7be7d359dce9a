-- SPDX-License-Identifier: Apache-2.0
-- Each way by its law.
use mathlib.Core.Path.{sym, refl, ap, ◌∙◌}
use native.Mathlib.Omega.{arith}
use Rattle.fm3130_image.proofs.Accepts.{image_long}
use Rattle.c_line.specs.Line.{told_by}
use Rattle.c_line.proofs.ByNumber.{line_sent, line_early, line_eighth, byte_below, line_opened, line_other}
use Rattle.c_line.proofs.pulls_of.Goals as goal

pub bounds-image-26 : goal.bounds-image-26
bounds-image-26 c = let t = c in let l = image_long _ t.requires.0 in omega arith

pub bounds-image-27 : goal.bounds-image-27
bounds-image-27 c =
    let t = c in
    let l = image_long _ t.requires.0 in
    omega arith

pub bounds-image-28 : goal.bounds-image-28
bounds-image-28 c =
    let t = c in
    let l = image_long _ t.requires.0 in
    omega arith

pub sent_pulls-requires : goal.sent_pulls-requires
sent_pulls-requires c =
    c.requires

pub returns-then-number-gt-WRITE_COMPANION : goal.returns-then-number-gt-WRITE_COMPANION
returns-then-number-gt-WRITE_COMPANION c =
    let t = c in
    let i = t.args.image.now in
    let m = t.args.memory.now in
    c.sent_pulls.ensures ∙ sym (ap told_by (line_sent i m t.requires.0 c.if-number-gt-WRITE_COMPANION.true))

pub returns-then-clocks-lt7 : goal.returns-then-clocks-lt7
returns-then-clocks-lt7 c =
    let t = c in
    let i = t.args.image.now in
    let m = t.args.memory.now in
    sym (ap told_by (line_early i m t.requires.0 (omega arith) c.if-clocks-lt7.true))

pub taken_pulls-requires : goal.taken_pulls-requires
taken_pulls-requires c =
    let t = c in
    let i = t.args.image.now in
    let m = t.args.memory.now in (
      image_long _ t.requires.0,
      byte_below i m t.requires.0 (omega arith) (omega arith) c.if-clocks-eq7.true,
    )

pub returns-then-clocks-eq7 : goal.returns-then-clocks-eq7
returns-then-clocks-eq7 c =
    let t = c in
    let i = t.args.image.now in
    let m = t.args.memory.now in
    c.taken_pulls.ensures
    ∙ sym (ap told_by (line_eighth i m t.requires.0 (omega arith) (omega arith) c.if-clocks-eq7.true))

pub opened_pulls-requires : goal.opened_pulls-requires
opened_pulls-requires c =
    c.requires

pub returns-then-number-eq-SLAVE : goal.returns-then-number-eq-SLAVE
returns-then-number-eq-SLAVE c =
    let t = c in
    let i = t.args.image.now in
    let m = t.args.memory.now in
    let e = line_opened i m t.requires.0 (omega arith) (omega arith) c.if-clocks-eq7.false c.if-number-eq-SLAVE.true in
    c.opened_pulls.ensures _ refl ∙ sym (ap told_by e)

pub returns : goal.returns
returns c =
    let t = c in
    let i = t.args.image.now in
    let m = t.args.memory.now in
    let e = line_other i m t.requires.0 (omega arith) (omega arith) c.if-clocks-eq7.false c.if-number-eq-SLAVE.false in
    sym (ap told_by e)
