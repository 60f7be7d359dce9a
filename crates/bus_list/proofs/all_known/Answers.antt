-- SPDX-License-Identifier: Apache-2.0
-- The fold over the events, from a test that has passed.
use mathlib.Core.Path.{◌∙◌}
use mathlib.Core.Bool.{true, ◌&&◌}
use lib.Dec.{leb}
use borrow.Author.Rules.{rules}
use Rattle.std.proofs.lemmas.Iterator.{YieldsList-from_slice}
use Rattle.std.proofs.lemmas.Iterator.Consumers.{fold_from_yields_List}
use Rattle.bus_list.proofs.Runs.{known_fold}
use Rattle.bus_list.proofs.all_known.Goals as goal

pub returns : goal.returns
returns c =
    let a = c.args in
    fold_from_yields_List _ (λ k e. k && leb e a.last) true _ c.fold.ensures.ran (YieldsList-from_slice a.events.now (search rules)) (λ k e b q r. search rules)
    ∙ known_fold a.last true a.events.now
