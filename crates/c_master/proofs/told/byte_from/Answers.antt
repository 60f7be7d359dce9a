-- SPDX-License-Identifier: Apache-2.0
-- `c_master::told::byte_from` meets its contract: eight bits, one after another.
use mathlib.Core.Path.{◌∙◌}
use lib.ListN.{take, drop}
use borrow.Author.Rules.{rules}
use Rattle.std.proofs.lemmas.Iterator.{YieldsList-from_slice}
use Rattle.std.proofs.lemmas.Iterator.Consumers.{fold_from_yields_List}
use Rattle.wire.specs.Bits.{pushed}
use Rattle.wire_clocks.specs.Clocks.{is_high}
use Rattle.c_master.proofs.Listing.{byte_from_lem}
use Rattle.c_master.proofs.told.byte_from.Goals as goal

pub returns : goal.returns
returns c =
    let a = c.args in
    fold_from_yields_List _ (λ b x. pushed b (is_high x)) 0 _ c.fold.ensures.ran (YieldsList-from_slice (take 8 (drop a.at a.answers.now)) (search rules)) (λ k e b q r. search rules)
    ∙ byte_from_lem a.answers.now a.at c.requires
