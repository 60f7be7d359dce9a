-- SPDX-License-Identifier: Apache-2.0
-- `c_trim::proposer::propose` meets its contract: the test is the definition's.
use mathlib.Core.Path.{sym, ap, ◌∙◌}
use Rattle.std.specs.Prelude.{Some}
use Rattle.c_trim.specs.Proposal.{setting_for}
use Rattle.c_trim.proofs.Signed.{read_back}
use Rattle.c_trim.proofs.Left.{range_read}
use Rattle.c_trim.proofs.Proposals.{proposal_in_range, proposal_out_of_range}
use Rattle.c_trim.proofs.proposer.propose.Goals as goal

pub setting_for-requires : goal.setting_for-requires
setting_for-requires c = sym c.in_range.ensures ∙ c.if-in_range.true

pub returns-then-in_range : goal.returns-then-in_range
returns-then-in_range c =
    let r = c in
    let f = r.ranges.error in
    ap Some (c.setting_for.ensures ∙ ap setting_for (read_back f))
    ∙ sym (proposal_in_range r.args.error (range_read f r.in_range.ensures ∙ c.if-in_range.true))

pub returns-else-in_range : goal.returns-else-in_range
returns-else-in_range c =
    let r = c in
    let q = range_read r.ranges.error r.in_range.ensures ∙ c.if-in_range.false in
    sym (proposal_out_of_range r.args.error q)
