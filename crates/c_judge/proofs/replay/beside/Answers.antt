-- SPDX-License-Identifier: Apache-2.0
-- One answer more is right, or differs; and all of them.
use Prim.Native.Nat.{ℕ, ◌+◌}
use mathlib.Core.Path.{◌≡◌, ap, ◌∙◌}
use native.Mathlib.Omega.{arith}
use lib.ListN.{length}
use borrow.Author.Rules.{rules}
use Rattle.c_judge.specs.Verdict.{compared}
use Rattle.c_judge.specs.declared.Verdict.TheVariants.{Agree}
use Rattle.c_judge.proofs.Replays.{beside_differs, beside_same, beside_end}
use Rattle.c_judge.proofs.replay.beside.Goals as goal

pub loop-i-init : goal.loop-i-init
loop-i-init c =
    let n = c.args.from in
    let z : n + 0 ≡ n = omega arith in
    ap (λ (k : ℕ). compared k c.args.right.now c.args.recorded.now) z

pub returns-then-recorded-i : goal.returns-then-recorded-i
returns-then-recorded-i c =
    let l = c.loop-i in
    beside_differs c.args.from c.args.right.now c.args.recorded.now l.i (search rules) (search rules) (search rules) ∙ l.invariant

pub loop-i-preserved : goal.loop-i-preserved
loop-i-preserved c =
    let l = c.loop-i in
    beside_same c.args.from c.args.right.now c.args.recorded.now l.i (search rules) (search rules) c.if-recorded-i.false ∙ l.invariant

pub returns : goal.returns
returns c =
    let l = c.loop-i in
    let e : length c.args.recorded.now ≡ l.i = omega arith in
    ap (λ (k : ℕ). Agree (c.args.from + k)) e
    ∙ beside_end c.args.from c.args.right.now c.args.recorded.now l.i (omega arith) ∙ l.invariant
