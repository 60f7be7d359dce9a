-- SPDX-License-Identifier: Apache-2.0
-- `c_mend::changes::count_changes` meets its contract: one place more, and at the end.
use native.Mathlib.Omega.{arith}
use borrow.Author.Rules.{rules}
use Rattle.c_mend.proofs.Listing.{differ_more, same_more, all_counted}
use Rattle.c_mend.proofs.changes.count_changes.Goals as goal
use Rattle.c_mend.proofs.changes.count_changes.Goals.{then-old-after, else-old-after}

pub loop-i-preserved : goal.loop-i-preserved
loop-i-preserved c =
    let xs = c.args.before.now in
    let ys = c.args.after.now in
    let l = c.loop-i in
    elim c.if-old-after.branch [
      | then-old-after w ↦ (
        omega arith,
        omega (arith, w.count-is),
        let m = differ_more xs ys l.i (omega arith) (omega arith) w.if-old-after.true in omega (arith, m, w.count-is, l.invariant.2),
      )
      | else-old-after w ↦ (
        omega arith,
        omega (arith, w.count-is),
        let m = same_more xs ys l.i (omega arith) (omega arith) w.if-old-after.false in omega (arith, m, w.count-is, l.invariant.2),
      )
    ]

pub returns : goal.returns
returns c =
    let l = c.loop-i in
    all_counted c.args.before.now c.args.after.now l.i (omega arith) (omega arith) l.invariant.2
