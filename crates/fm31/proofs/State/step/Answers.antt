-- SPDX-License-Identifier: Apache-2.0
-- `fm31::State::step` meets its contract. Refused by the first number that fits, or done.
use mathlib.Core.Path.{sym, ◌∙◌}
use Rattle.fm31.proofs.Entry.{step_refused, step_admitted, admitted_ready}
use Rattle.fm31.proofs.State.step.Goals as goal

pub returns-in-Err : goal.returns-in-Err
returns-in-Err c =
    rw (← c.size_of-size.ensures, step_refused _ _ _ _ _ _ (sym c.admits.ensures ∙ c.in-Err.is), c.refused.ensures)

pub advance-answered-requires-clause-ready : goal.advance-answered-requires-clause-ready
advance-answered-requires-clause-ready c = admitted_ready _ _ _ _ _ _ (sym c.admits.ensures ∙ c.in-Ok.is)

pub returns-in-Ok : goal.returns-in-Ok
returns-in-Ok c =
    rw (
      ← c.size_of-size.ensures,
      step_admitted _ _ _ _ _ _ (sym c.admits.ensures ∙ c.in-Ok.is),
      c.advance-answered.ensures.result,
      c.advance-answered.ensures.memory,
    )
