-- SPDX-License-Identifier: Apache-2.0
-- `c_trim::residue::residue` meets its contract: the sum or difference is small, so it fits an i32.
use mathlib.Core.Path.{sym, ap, ◌∙◌}
use native.Mathlib.Omega.{arith}
use Rattle.c_trim.specs.Residue.{trimmed, residue_of}
use Rattle.c_trim.specs.declared.Sign.{Sign}
use Rattle.c_trim.proofs.Signed.{read_back, read_sum, read_difference}
use Rattle.c_trim.proofs.Left.{sum_fits, difference_fits}
use Rattle.c_trim.proofs.residue.residue.Goals as goal

pub overflow_add-result : goal.overflow_add-result
overflow_add-result c =
    let s = c in
    sum_fits c.cycles.result s.ranges.error s.requires.0 c.cycles.ensures (omega arith)

pub overflow_sub-result : goal.overflow_sub-result
overflow_sub-result c =
    let s = c in
    difference_fits c.cycles-in-Minus.result s.ranges.error s.requires.0 c.cycles-in-Minus.ensures (omega arith)

pub returns-in-Plus : goal.returns-in-Plus
unfolding residue_of
returns-in-Plus c =
    let s = c in
    read_back (overflow_add-result c) ∙ read_sum c.cycles.result s.ranges.error c.cycles.ensures (omega arith)
    ∙ ap (λ (g : Sign). trimmed s.args.error g s.args.setting.code) (sym c.in-Plus.is)

pub returns-in-Minus : goal.returns-in-Minus
unfolding residue_of
returns-in-Minus c =
    let s = c in
    read_back (overflow_sub-result c) ∙ read_difference c.cycles-in-Minus.result s.ranges.error c.cycles-in-Minus.ensures (omega arith)
    ∙ ap (λ (g : Sign). trimmed s.args.error g s.args.setting.code) (sym c.in-Minus.is)
