-- SPDX-License-Identifier: Apache-2.0
-- The two ways to be refused, and the ask that is answered, each by its law.
use mathlib.Core.Path.{sym, ◌∙◌}
use borrow.Author.Rules.{rules}
use Rattle.masters_hold.proofs.Known.{one_byte, one_set}
use Rattle.c_masters.proofs.Ways.{ask_unknown, ask_refused, ask_answered}
use Rattle.c_masters.proofs.entries.ask.Goals as goal

pub returns-in_default : goal.returns-in_default
returns-in_default c =
    sym (ask_unknown _ _ (sym c.standing.ensures ∙ c.in_default.is))

pub returns-then-not-may_ask : goal.returns-then-not-may_ask
returns-then-not-may_ask c =
    let h = sym c.standing.ensures ∙ c.in-Some.is in
    sym (ask_refused _ _ _ _ h (sym c.may_ask.ensures ∙ c.if-not-may_ask.true))

pub bounds-bus-0 : goal.bounds-bus-0
bounds-bus-0 c =
    let one = one_byte _ _ _ (sym c.standing.ensures ∙ c.in-Some.is) in
    search rules

pub returns : goal.returns
returns c =
    let h = sym c.standing.ensures ∙ c.in-Some.is in
    rw (one_set _ _ (one_byte _ _ _ h), c.master_number.ensures)
    (sym (ask_answered _ _ _ _ h (sym c.may_ask.ensures ∙ c.if-not-may_ask.false)))
