-- SPDX-License-Identifier: Apache-2.0
-- `c_catch_up::search::rings_in` meets its contract: each return cites its case in Rings.
use native.Mathlib.Omega.{arith}
use mathlib.Core.Path.{sym, ◌∙◌}
use Rattle.c_catch_up.proofs.Rings.{rings_other, rings_begun, rings_past}
use Rattle.c_catch_up.proofs.search.rings_in.Goals as goal

pub returns-then-not-passes : goal.returns-then-not-passes
returns-then-not-passes c =
    let s = c.args in
    rings_other s.alarm s.month s.from s.to (omega (arith, c.requires.0)) c.requires.1
    (sym c.passes.ensures ∙ c.if-not-passes.true)

pub returns-then-from-end : goal.returns-then-from-end
returns-then-from-end c =
    let s = c.args in
    let e = c.month_start.ensures.0 in
    rw (c.min.ensures, c.month_start-next.ensures.0, e)
    (rings_begun s.alarm s.month s.from s.to (omega (arith, c.requires.0)) c.requires.1 c.requires.2
    (sym c.passes.ensures ∙ c.if-not-passes.false) c.in-Some.date c.in-Some.ensures
    (sym c.has.ensures ∙ c.if-has.false) (omega (arith, e, c.if-from-end.true)))

pub returns-else-from-end : goal.returns-else-from-end
returns-else-from-end c =
    let s = c.args in
    let e = c.month_start.ensures.0 in
    rw e
    (rings_past s.alarm s.month s.from s.to (omega (arith, c.requires.0)) c.requires.1 c.requires.2
    (sym c.passes.ensures ∙ c.if-not-passes.false) c.in-Some.date c.in-Some.ensures
    (sym c.has.ensures ∙ c.if-has.false) (omega (arith, e, c.if-from-end.false)))
