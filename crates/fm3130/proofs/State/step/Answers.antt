-- SPDX-License-Identifier: Apache-2.0
-- The entry: refused by the first number that fits, or done.
use mathlib.Core.Path.{sym, ◌∙◌}
use Rattle.fm3130.proofs.Entry.{step_refused, step_admitted, admitted_ready}
use Rattle.fm3130.proofs.State.step.Goals as goal

pub returns-in-Err : goal.returns-in-Err
returns-in-Err c = rw (step_refused _ _ _ _ (sym c.admits.ensures ∙ c.in-Err.is), c.refused.ensures)

pub tell-told-requires-clause-ready : goal.tell-told-requires-clause-ready
tell-told-requires-clause-ready c = admitted_ready _ _ _ _ (sym c.admits.ensures ∙ c.in-Ok.is)

pub returns-in-Ok : goal.returns-in-Ok
returns-in-Ok c =
    rw (step_admitted _ _ _ _ (sym c.admits.ensures ∙ c.in-Ok.is), c.accepted.ensures, c.tell-told.ensures.result, c.tell-told.ensures.memory)
