-- SPDX-License-Identifier: Apache-2.0
-- `c_trim::entries::residue_shown` meets its contract: the tests are the definition's.
use mathlib.Core.Path.{sym, ◌∙◌}
use Rattle.c_trim.proofs.Signed.{read_result}
use Rattle.c_trim.proofs.Left.{residue_read, range_read, left_small}
use Rattle.c_trim.proofs.Numbers.{shown, shown_out_of_range, shown_above}
use Rattle.c_trim.proofs.entries.residue_shown.Goals as goal
use Rattle.c_trim.proofs.entries.residue_shown.Goals.{else-in_range-via-then-in_range+else-setting-le-LAST_CODE, else-in_range-via-else-in_range}

pub residue-requires : goal.residue-requires
residue-requires c = (sym c.in_range.ensures ∙ c.if-in_range.true, c.if-setting-le-LAST_CODE.true)

pub returns-then-setting-le-LAST_CODE : goal.returns-then-setting-le-LAST_CODE
returns-then-setting-le-LAST_CODE c =
    let q = range_read c.ranges.error c.in_range.ensures ∙ c.if-in_range.true in
    let h = c.if-setting-le-LAST_CODE.true in
    read_result c.residue.result (residue_read c.args.setting c.ranges.error c.residue.ensures)
    (left_small c.args.error c.args.setting q h)
    ∙ sym (shown c.args.error c.args.setting q h)

pub returns-else-in_range : goal.returns-else-in_range
returns-else-in_range c = elim c.else-in_range.branch [
  | else-in_range-via-then-in_range+else-setting-le-LAST_CODE w ↦
      sym (shown_above c.args.error c.args.setting w.if-setting-le-LAST_CODE.false)
  | else-in_range-via-else-in_range w ↦
      sym (shown_out_of_range c.args.error c.args.setting (range_read c.ranges.error c.in_range.ensures ∙ w.if-in_range.false))
]
