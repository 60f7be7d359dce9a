-- SPDX-License-Identifier: Apache-2.0
-- One entry more clashes or does not; one that clashes decides.
use mathlib.Core.Path.{refl, sym, ◌∙◌}
use native.Mathlib.Omega.{arith}
use Rattle.capture_table.specs.Table.{clashes_below}
use Rattle.capture_table.proofs.Sound.{no_clash_more, clash_found}
use Rattle.capture_table.proofs.faults.clash_below.Goals as goal

pub loop-i-init : goal.loop-i-init
unfolding clashes_below
loop-i-init c = refl

pub returns-then-clash : goal.returns-then-clash
returns-then-clash c =
    sym (clash_found c.args.file.now c.args.entry c.loop-i.i c.args.n (omega arith) c.loop-i.invariant
    (sym (rw c.entry_at.ensures at c.clash.ensures) ∙ c.if-clash.true))

pub loop-i-preserved : goal.loop-i-preserved
loop-i-preserved c =
    no_clash_more c.args.file.now c.args.entry c.loop-i.i c.loop-i.invariant
    (sym (rw c.entry_at.ensures at c.clash.ensures) ∙ c.if-clash.false)
