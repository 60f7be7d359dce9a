-- SPDX-License-Identifier: Apache-2.0
-- The fold over the events, from a bus that was not seen to be freed.
use mathlib.Core.Path.{◌∙◌}
use mathlib.Core.Bool.{false}
use borrow.Author.Rules.{rules}
use Rattle.std.proofs.lemmas.Iterator.{YieldsList-from_slice}
use Rattle.std.proofs.lemmas.Iterator.Consumers.{fold_from_yields_List}
use Rattle.fm3130.specs.Event.{happening}
use Rattle.masters_hold.specs.Bus.{freed_by}
use Rattle.masters_hold.proofs.Lists.{frees_fold}
use Rattle.masters_hold.proofs.bus_byte.frees.Goals as goal

pub returns : goal.returns
returns c =
    let es = c.args.events.now in
    fold_from_yields_List _ (λ f e. freed_by f (happening e)) false _ c.fold.ensures.ran (YieldsList-from_slice es (search rules)) (λ f e b q r. search rules)
    ∙ frees_fold false es
