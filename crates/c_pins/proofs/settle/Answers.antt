-- SPDX-License-Identifier: Apache-2.0
use mathlib.Core.Path.{sym, ◌∙◌}
use Rattle.c_pins.proofs.Ran.{ran_accepted}
use Rattle.c_pins.proofs.Ways.{settle_left, settle_idle, settle_refused, settle_done}
use Rattle.c_pins.proofs.settle.Goals.{then-t-ne0-via-then-t-ne0, then-t-ne0-via-else-t-ne0+then-is_idle}
use Rattle.c_pins.proofs.settle.Goals as goal

pub returns-then-t-ne0 : goal.returns-then-t-ne0
returns-then-t-ne0 c =
    elim c.then-t-ne0.branch [
      | then-t-ne0-via-then-t-ne0 w ↦ settle_left _ _ _ w.if-t-ne0.true
      | then-t-ne0-via-else-t-ne0+then-is_idle w ↦ settle_idle _ _ _ w.if-t-ne0.false (sym w.is_idle.ensures ∙ w.if-is_idle.true)
    ]

pub returns-in-Err : goal.returns-in-Err
returns-in-Err c =
    settle_refused _ _ _ c.if-t-ne0.false (sym c.is_idle.ensures ∙ c.if-is_idle.false) _ c.in-Err.refusal
    (sym c.admit.ensures.admitted ∙ c.in-Err.is) (rw c.number.ensures.0 at c.leave.ensures)

pub ask-requires : goal.ask-requires
ask-requires c =
    ran_accepted _ _ _ _ _ (record { image = c.in_default.ensures.ok.1; memory = c.in_default.ensures.ok.0 }) c.happen_all.ensures

pub returns : goal.returns
returns c =
    settle_done _ _ _ c.if-t-ne0.false (sym c.is_idle.ensures ∙ c.if-is_idle.false) _ _ _
    (record { image = c.in_default.ensures.ok.1; memory = c.in_default.ensures.ok.0 }) c.happen_all.ensures c.ask.ensures
