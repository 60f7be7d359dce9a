-- SPDX-License-Identifier: Apache-2.0
-- `wire_clocks::lay::lay_asked` meets its contract: each byte is one piece more.
use mathlib.Core.Path.{◌≡◌, ◌∙◌}
use native.Mathlib.Omega.{arith}
use Rattle.wire_clocks.proofs.Laying.{laid_none, laid_then, laid_length, asked_more}
use borrow.Author.Rules.{rules}
use Rattle.wire_clocks.proofs.lay.lay_asked.Goals as goal

pub loop-i-init : goal.loop-i-init
loop-i-init c = (search rules, search rules, laid_none _ _)

pub loop-i-preserved : goal.loop-i-preserved
loop-i-preserved c =
    let l = c.loop-i in
    let v = c.lay_byte-place.ensures in
    let q = laid_length v in
    (v.place ∙ omega arith, q ∙ l.invariant.1, rw (asked_more l._i) at (laid_then l.invariant.2 v))

pub returns : goal.returns
returns c = let q : c.loop-i._i ≡ c.args.count = omega arith in rw q at c.loop-i.invariant.2
