-- SPDX-License-Identifier: Apache-2.0
-- `bus::select::names_for` meets its contract.
use borrow.Author.Tests.{eq-eqb, ne_eqb}
use Rattle.bus.specs.Select.{slave_names_for}
use Rattle.bus.proofs.select.names_for.Goals as goal

pub returns-then-chosen-select : goal.returns-then-chosen-select
unfolding slave_names_for
returns-then-chosen-select c = rw (c.slave_names.ensures, eq-eqb _ _ c.if-chosen-select.true)

pub returns : goal.returns
unfolding slave_names_for
returns c = rw (ne_eqb _ _ c.if-chosen-select.false)
