-- SPDX-License-Identifier: Apache-2.0
-- `c_trim::entries::fm3130_trim_residue` meets its contract: what the setting that was named leaves.
use mathlib.Core.Path.{sym, ap, ◌∙◌}
use Rattle.c_trim.specs.Entries.{named_residue}
use Rattle.c_trim.proofs.Numbers.{residue_named}
use Rattle.c_trim.proofs.entries.fm3130_trim_residue.Goals as goal

pub returns-in-Ok : goal.returns-in-Ok
returns-in-Ok c =
    let m = c in
    let r = m in
    residue_named _ c.residue_shown.result r.ranges.error
    (sym r.setting_of.ensures ∙ m.in-Ok.is) c.residue_shown.ensures

pub returns-in-Err : goal.returns-in-Err
returns-in-Err c =
    let r = c in
    sym (ap (named_residue r.args.error) (sym r.setting_of.ensures ∙ c.in-Err.is))
