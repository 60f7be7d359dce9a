-- SPDX-License-Identifier: Apache-2.0
-- `set_event::Set::happen` meets its contract: each device of a set that is fit is.
use Rattle.set_event.specs.Set.{first, second, third, fourth}
use Rattle.set_event.specs.Outcome.{lent_to}
use Rattle.set_event.proofs.Ears.{fit_at}
use Rattle.set_event.proofs.Set.happen.Goals as goal

pub hear-a-requires-clause-fit : goal.hear-a-requires-clause-fit
hear-a-requires-clause-fit c =
    let a = c.args in
    fit_at (lent_to a.self a.one.now a.two.now a.three.now a.four.now) c.requires first

pub hear-b-requires-clause-fit : goal.hear-b-requires-clause-fit
hear-b-requires-clause-fit c =
    let a = c.args in
    fit_at (lent_to a.self a.one.now a.two.now a.three.now a.four.now) c.requires second

pub hear-c-requires-clause-fit : goal.hear-c-requires-clause-fit
hear-c-requires-clause-fit c =
    let a = c.args in
    fit_at (lent_to a.self a.one.now a.two.now a.three.now a.four.now) c.requires third

pub hear-d-requires-clause-fit : goal.hear-d-requires-clause-fit
hear-d-requires-clause-fit c =
    let a = c.args in
    fit_at (lent_to a.self a.one.now a.two.now a.three.now a.four.now) c.requires fourth
