-- SPDX-License-Identifier: Apache-2.0
-- `c_trim::proposer::setting_for` meets its contract: the sign of the error decides, as in the definition.
use mathlib.Core.Path.{ap, ◌∙◌}
use native.Mathlib.Omega.{arith}
use Rattle.c_trim.specs.Residue.{distance_of}
use Rattle.c_trim.proofs.Signed.{read_back, read_test}
use Rattle.c_trim.proofs.Left.{range_small}
use Rattle.c_trim.proofs.Proposals.{setting_of_negative, setting_of_positive}
use Rattle.c_trim.proofs.proposer.setting_for.Goals as goal

pub distance-away-requires : goal.distance-away-requires
distance-away-requires c = rw (read_back c.ranges.error) (omega (arith, range_small c.args.error c.requires))

pub rounded-requires : goal.rounded-requires
rounded-requires c =
    let s = c in
    let q = c.distance-away.ensures ∙ ap distance_of (read_back s.ranges.error) in
    omega (arith, q, range_small s.args.error s.requires)

pub returns-then-error-lt0 : goal.returns-then-error-lt0
returns-then-error-lt0 c =
    let s = c in
    let f = s.ranges.error in
    setting_of_negative s.args.error _ _ (read_test f c.if-error-lt0.true)
    (c.distance-away.ensures ∙ ap distance_of (read_back f)) c.rounded.ensures

pub rounded-requires-else-error-lt0 : goal.rounded-requires-else-error-lt0
rounded-requires-else-error-lt0 c =
    let s = c in
    let q = c.distance-away.ensures ∙ ap distance_of (read_back s.ranges.error) in
    omega (arith, q, range_small s.args.error s.requires)

pub returns-else-error-lt0 : goal.returns-else-error-lt0
returns-else-error-lt0 c =
    let s = c in
    let f = s.ranges.error in
    setting_of_positive s.args.error _ _ (read_test f c.if-error-lt0.false)
    (c.distance-away.ensures ∙ ap distance_of (read_back f)) c.rounded-else-error-lt0.ensures
