-- SPDX-License-Identifier: Apache-2.0
-- `c_trim::entries::fm3130_trim_propose` meets its contract: what is proposed has a code of at most 31, so a number.
use mathlib.Core.Path.{sym, ap, ◌∙◌}
use Rattle.c_trim.specs.Proposal.{proposal_of}
use Rattle.c_trim.specs.Entries.{proposal_number}
use Rattle.c_trim.proofs.Signed.{read_back}
use Rattle.c_trim.proofs.Proposals.{proposed_coded}
use Rattle.c_trim.proofs.entries.fm3130_trim_propose.Goals as goal

pub number-requires : goal.number-requires
number-requires c =
    proposed_coded _ _ (sym c.propose.ensures ∙ c.in-Some.is)

pub returns-in-Some : goal.returns-in-Some
returns-in-Some c =
    let r = c in
    let q = ap proposal_of (sym (read_back r.ranges.error)) ∙ sym r.propose.ensures in
    c.number.ensures ∙ sym (ap proposal_number (q ∙ c.in-Some.is))

pub returns-in-None : goal.returns-in-None
returns-in-None c =
    let r = c in
    let q = ap proposal_of (sym (read_back r.ranges.error)) ∙ sym r.propose.ensures in
    sym (ap proposal_number (q ∙ c.in-None.is))
