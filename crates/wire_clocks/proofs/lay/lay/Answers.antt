-- SPDX-License-Identifier: Apache-2.0
-- `wire_clocks::lay::lay` meets its contract: byte after byte: what was laid so far is the front of the list.
use mathlib.Core.Path.{◌≡◌}
use native.Mathlib.Omega.{arith}
use lib.ListN.{length}
use Rattle.wire_clocks.proofs.Laying.{lay_more, laid_all}
use borrow.Author.Rules.{rules}
use Rattle.wire_clocks.proofs.lay.lay.Goals as goal

pub loop-i-preserved : goal.loop-i-preserved
loop-i-preserved c =
    let l = c.loop-i in
    let a = c.args in
    rw l.invariant (lay_more a.events.now a.from.now a.at l.i (search rules))

pub returns : goal.returns
returns c =
    let l = c.loop-i in
    let a = c.args in
    let done : l.i ≡ length a.from.now = omega arith in
    rw done at (laid_all a.events.now a.from.now l.events a.at l.i (omega arith) c.loop-i-test.false l.invariant)
