-- SPDX-License-Identifier: Apache-2.0
-- A transfer exists only while main power is present.
use Rattle.std.proofs.Common.{rules}
use Rattle.bus_limits.specs.Limits.{power_within}
use Rattle.bus_limits.proofs.power_within.Goals as goal

pub returns-in-On : goal.returns-in-On
unfolding power_within
returns-in-On c = rw c.in-On.is

pub returns-in-Backup : goal.returns-in-Backup
unfolding power_within
returns-in-Backup c = search rules
