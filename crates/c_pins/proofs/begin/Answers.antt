-- SPDX-License-Identifier: Apache-2.0
use mathlib.Core.Path.{sym, ◌∙◌}
use Rattle.c_pins.proofs.Ways.{begin_refused, begin_done}
use Rattle.c_pins.proofs.begin.Goals as goal

pub returns-in-Err : goal.returns-in-Err
returns-in-Err c =
    begin_refused _ _ _ _ _ c.first-t.ensures c.in-Err.refusal (sym c.admit.ensures.admitted ∙ c.in-Err.is)
    (rw c.number.ensures.0 at c.leave.ensures)

pub returns-in-Ok : goal.returns-in-Ok
returns-in-Ok c = begin_done _ _ _ _ _ c.first-t.ensures c.in-Ok.ensures.ok.0 c.in-Ok.ensures.ok.1 c.ask.ensures
