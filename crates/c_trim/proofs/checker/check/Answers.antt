-- SPDX-License-Identifier: Apache-2.0
-- `c_trim::checker::check` meets its contract: each test is a case of the definition.
use mathlib.Core.Path.{sym, ◌∙◌}
use Rattle.c_trim.proofs.Left.{range_read}
use Rattle.c_trim.proofs.Unique.{clash, settled_accepted, settled_not_nearest}
use Rattle.c_trim.proofs.Nearest.{nearest_read}
use Rattle.c_trim.proofs.checker.check.Goals as goal

pub returns-then-not-in_range : goal.returns-then-not-in_range
returns-then-not-in_range c = range_read c.ranges.error c.in_range.ensures ∙ c.if-not-in_range.true

pub returns-then-setting-gt-LAST_CODE : goal.returns-then-setting-gt-LAST_CODE
returns-then-setting-gt-LAST_CODE c =
    let r = c in
    let q = range_read r.ranges.error r.in_range.ensures ∙ c.if-not-in_range.false in
    (q, c.if-setting-gt-LAST_CODE.true)

pub is_nearest-requires : goal.is_nearest-requires
is_nearest-requires c =
    (sym c.in_range.ensures ∙ c.if-not-in_range.false, c.if-setting-gt-LAST_CODE.false)

pub returns-then-is_nearest : goal.returns-then-is_nearest
returns-then-is_nearest c =
    let r = c in
    let s = r in
    settled_accepted s.args.error s.args.setting
    (range_read s.ranges.error r.in_range.ensures ∙ c.if-not-in_range.false)
    c.if-setting-gt-LAST_CODE.false
    ((nearest_read s.args.setting s.ranges.error).0 (c.is_nearest.ensures.0 c.if-is_nearest.true))

pub returns-else-is_nearest : goal.returns-else-is_nearest
returns-else-is_nearest c =
    let r = c in
    let s = r in
    let m = nearest_read s.args.setting s.ranges.error in
    settled_not_nearest s.args.error s.args.setting
    (range_read s.ranges.error r.in_range.ensures ∙ c.if-not-in_range.false)
    c.if-setting-gt-LAST_CODE.false
    (λ n. clash _ (c.is_nearest.ensures.1 (m.1 n)) c.if-is_nearest.false)
