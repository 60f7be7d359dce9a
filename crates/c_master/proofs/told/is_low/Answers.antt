-- SPDX-License-Identifier: Apache-2.0
-- `c_master::told::is_low` meets its contract: the line of an answer is that answer's place among the lines, and it is not high.
use mathlib.Core.Path.{ap, ◌∙◌}
use mathlib.Core.Bool.{not}
use Rattle.c_master.proofs.Listing.{line_at_lem}
use Rattle.c_master.proofs.told.is_low.Goals as goal

pub returns : goal.returns
returns c = ap not (c.is_high.ensures ∙ line_at_lem c.args.answers.now c.args.at c.requires)
