-- SPDX-License-Identifier: Apache-2.0
-- The number of the phase, by whom the byte names.
use borrow.Author.Tests.{ne_eqb}
use Rattle.wire.specs.Slave.{slave_names, opened}
use Rattle.place_clock.specs.Code.Incoming.{opened_by}
use Rattle.place_clock.proofs.Incomings.{opened_none}
use Rattle.place_clock.proofs.receive.opens.Goals as goal

pub returns-in-160 : goal.returns-in-160
unfolding opened_by slave_names opened
returns-in-160 c = rw c.in-160.is

pub returns-in-161 : goal.returns-in-161
unfolding opened_by slave_names opened
returns-in-161 c = rw c.in-161.is

pub returns-in-208 : goal.returns-in-208
unfolding opened_by slave_names opened
returns-in-208 c = rw c.in-208.is

pub returns-in-209 : goal.returns-in-209
unfolding opened_by slave_names opened
returns-in-209 c = rw c.in-209.is

pub returns-in_default : goal.returns-in_default
unfolding slave_names
returns-in_default c =
    let r = c.in_default.in_default-own.rest in
    opened_none _ (rw (ne_eqb _ _ r.1, ne_eqb _ _ r.0.1, ne_eqb _ _ r.0.0.1, ne_eqb _ _ r.0.0.0.1))
