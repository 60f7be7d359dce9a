-- SPDX-License-Identifier: Apache-2.0
-- The fold over the events, from none that was seen.
use mathlib.Core.Path.{◌∙◌}
use mathlib.Core.Bool.{false, ◌||◌}
use lib.Dec.{leb}
use borrow.Author.Rules.{rules}
use Rattle.std.proofs.lemmas.Iterator.{YieldsList-from_slice}
use Rattle.std.proofs.lemmas.Iterator.Consumers.{fold_from_yields_List}
use Rattle.masters_hold.proofs.Lists.{any_fold}
use Rattle.masters_hold.proofs.bus_byte.any_bus.Goals as goal

pub returns : goal.returns
returns c =
    let es = c.args.events.now in
    fold_from_yields_List _ (λ k e. k || leb e 3) false _ c.fold.ensures.ran (YieldsList-from_slice es (search rules)) (λ k e b q r. search rules)
    ∙ any_fold false es
