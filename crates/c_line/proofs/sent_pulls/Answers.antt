-- SPDX-License-Identifier: Apache-2.0
-- The four ways through the tests of the clocks done.
use native.Mathlib.Omega.{arith}
use Rattle.fm3130_image.proofs.Accepts.{image_long}
use Rattle.fm3130_image.proofs.Lies.{image_places}
use Rattle.c_line.proofs.ByNumber.{told_ninth, told_eighth, told_first, told_within, fetched_at}
use Rattle.c_line.proofs.sent_pulls.Goals as goal

pub fetched-requires : goal.fetched-requires
fetched-requires c =
    let t = c in
    record { image_len = (image_long _ t.requires.0, t.requires.1); image_bound = image_places _ t.args.memory.now t.requires.1 t.requires.0 }

pub returns-then-clocks-gt7 : goal.returns-then-clocks-gt7
returns-then-clocks-gt7 c =
    let t = c in
    let f = fetched_at t.args.image.now t.args.memory.now t.requires.0 _ t.args.number c.fetched.ensures in
    told_ninth _ _ _ _ c.if-clocks-gt7.true (rw f at c.if_low.ensures.0)

pub returns-then-clocks-eq7 : goal.returns-then-clocks-eq7
returns-then-clocks-eq7 c = told_eighth _ _ _ _ c.if-clocks-eq7.true c.if_low-then-clocks-eq7.ensures.0

pub fetched-first-requires : goal.fetched-first-requires
fetched-first-requires c =
    let t = c in
    record { image_len = (image_long _ t.requires.0, t.requires.1); image_bound = image_places _ t.args.memory.now t.requires.1 t.requires.0 }

pub returns-then-clocks-eq0 : goal.returns-then-clocks-eq0
returns-then-clocks-eq0 c =
    let n = c in
    let t = n in
    let f = fetched_at t.args.image.now t.args.memory.now t.requires.0 _ t.args.number n.fetched-first.ensures in
    told_first _ _ _ _ _ c.if-clocks-eq0.true
    (rw f at c.if_low-then-clocks-eq0.ensures.0) (rw f at c.if_low-then-clocks-eq0-2.ensures.0)

pub returns : goal.returns
returns c =
    told_within _ _ _ _ _ c.if-clocks-eq0.false (omega arith) c.if_low-2.ensures.0 c.if_low-3.ensures.0
