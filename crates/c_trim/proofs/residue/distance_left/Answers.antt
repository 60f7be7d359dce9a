-- SPDX-License-Identifier: Apache-2.0
-- `c_trim::residue::distance_left` meets its contract: what is left of an error in range is small, so its distance can be
-- taken.
use mathlib.Core.Path.{ap, ◌∙◌}
use Rattle.c_trim.specs.Residue.{distance_of}
use Rattle.c_trim.proofs.Signed.{read_result}
use Rattle.c_trim.proofs.Left.{residue_read, left_small}
use Rattle.c_trim.proofs.residue.distance_left.Goals as goal

pub distance-requires : goal.distance-requires
distance-requires c =
    let s = c in
    let h = left_small s.args.error s.args.setting s.requires.0 s.requires.1 in
    rw (read_result c.residue.result (residue_read s.args.setting s.ranges.error c.residue.ensures) h) h

pub returns : goal.returns
returns c =
    let r = c in
    let s = r in
    let h = left_small s.args.error s.args.setting s.requires.0 s.requires.1 in
    let q = residue_read s.args.setting s.ranges.error r.residue.ensures in
    c.distance.ensures ∙ ap distance_of (read_result r.residue.result q h)
