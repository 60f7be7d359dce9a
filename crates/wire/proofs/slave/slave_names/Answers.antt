-- SPDX-License-Identifier: Apache-2.0
-- `slave_names` knows the four slave bytes.
use native.Mathlib.Omega.{arith}
use Rattle.std.proofs.lemmas.Grind.{common_steps}
use Rattle.wire.specs.Slave.{slave_names}
use Rattle.wire.proofs.slave.slave_names.Goals as goal

pub returns-in-160 : goal.returns-in-160
unfolding slave_names
returns-in-160 c = rw c.in-160.is

pub returns-in-161 : goal.returns-in-161
unfolding slave_names
returns-in-161 c = rw c.in-161.is

pub returns-in-208 : goal.returns-in-208
unfolding slave_names
returns-in-208 c = rw c.in-208.is

pub returns-in-209 : goal.returns-in-209
unfolding slave_names
returns-in-209 c = rw c.in-209.is

pub returns-in_default : goal.returns-in_default
unfolding slave_names
returns-in_default c = grind (arith, common_steps)
