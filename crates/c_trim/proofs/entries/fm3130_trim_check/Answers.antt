-- SPDX-License-Identifier: Apache-2.0
-- `c_trim::entries::fm3130_trim_check` meets its contract: the number of the verdict on the setting that was named.
use mathlib.Core.Path.{sym, ◌∙◌}
use Rattle.c_trim.proofs.Numbers.{told_known, told_unknown}
use Rattle.c_trim.proofs.entries.fm3130_trim_check.Goals as goal

pub returns-in-Ok : goal.returns-in-Ok
returns-in-Ok c =
    let m = c in
    let r = m in
    told_known _ c.check.result r.ranges.error
    (sym r.setting_of.ensures ∙ m.in-Ok.is) c.check.ensures c.number.ensures

pub returns-in-Err : goal.returns-in-Err
returns-in-Err c =
    let r = c in
    told_unknown r.args.error _ _ (sym r.setting_of.ensures ∙ c.in-Err.is)
