-- SPDX-License-Identifier: Apache-2.0
-- `set_run::run::run_events` meets its contract.
use Rattle.std.proofs.Common.{arith, rules, ◌≡◌, ◌<◌, length, replicate}
use Rattle.set_event.specs.Set.{first, second, third, fourth}
use Rattle.set_event.specs.Outcome.{lent_to}
use Rattle.set_event.proofs.Ears.{fit_at}
use Rattle.set_run.proofs.Members.{all_ran, none_ran}
use Rattle.set_run.proofs.run.run_events.Goals as goal

pub run_member-first-requires-clause-fit : goal.run_member-first-requires-clause-fit
run_member-first-requires-clause-fit c =
    let a = c.args in
    fit_at (lent_to a.set a.one.now a.two.now a.three.now a.four.now) c.requires.set_fit first

pub run_member-second-requires-clause-fit : goal.run_member-second-requires-clause-fit
run_member-second-requires-clause-fit c =
    let a = c.args in
    fit_at (lent_to a.set a.one.now a.two.now a.three.now a.four.now) c.requires.set_fit second

pub run_member-third-requires-clause-fit : goal.run_member-third-requires-clause-fit
run_member-third-requires-clause-fit c =
    let a = c.args in
    fit_at (lent_to a.set a.one.now a.two.now a.three.now a.four.now) c.requires.set_fit third

pub run_member-fourth-requires-clause-fit : goal.run_member-fourth-requires-clause-fit
run_member-fourth-requires-clause-fit c =
    let a = c.args in
    fit_at (lent_to a.set a.one.now a.two.now a.three.now a.four.now) c.requires.set_fit fourth

pub returns-then-set-eq0 : goal.returns-then-set-eq0
returns-then-set-eq0 c =
    let a = c.args in
    let filled : c.fill.new.self ≡ replicate (length a.events.now) 1 = search rules in
    rw filled
    (none_ran (lent_to a.set a.one.now a.two.now a.three.now a.four.now) a.events.now a.answers.now c.if-set-eq0.true)

pub returns : goal.returns
returns c =
    let a = c.args in
    let some : 0 < a.set.count = omega arith in
    all_ran (lent_to a.set a.one.now a.two.now a.three.now a.four.now) a.events.now a.answers.now some c.requires.room
    _ _ _ _ _ _ _ _ _ _ _ _ c.run_member-first.ensures c.run_member-second.ensures c.run_member-third.ensures c.run_member-fourth.ensures
