-- SPDX-License-Identifier: Apache-2.0
-- The tests of the lent byte and of the number, each way by its law.
use mathlib.Core.Path.{◌≡◌, sym, ◌∙◌}
use lib.ListN.{length}
use native.Mathlib.Omega.{arith}
use Rattle.masters_hold.proofs.Known.{standing_long, standing_holder, standing_master, standing_both}
use Rattle.masters_hold.proofs.bus_byte.standing.Goals as goal

pub returns-in_default : goal.returns-in_default
returns-in_default c = sym (standing_long _ _ (λ e. omega arith))

pub returns-in_default-2 : goal.returns-in_default-2
returns-in_default-2 c = sym (standing_long _ _ (λ e. omega arith))

pub returns-in_err-holder_of : goal.returns-in_err-holder_of
returns-in_err-holder_of c =
    let one : length c.args.bus.now ≡ 1 = omega arith in
    c.from_residual.ensures ∙ sym (standing_holder _ _ one (sym c.holder_of.ensures ∙ c.in_err-holder_of.was))

pub returns-in_err-master_of : goal.returns-in_err-master_of
returns-in_err-master_of c =
    let one : length c.args.bus.now ≡ 1 = omega arith in
    c.from_residual-in_err-master_of.ensures ∙ sym (standing_master _ _ one (sym c.master_of.ensures ∙ c.in_err-master_of.was))

pub returns : goal.returns
returns c =
    let one : length c.args.bus.now ≡ 1 = omega arith in
    sym
    (standing_both _ _ one _ _ (sym c.holder_of.ensures ∙ c.in_ok-holder_of.was)
    (sym c.master_of.ensures ∙ c.in_ok-master_of.was))
