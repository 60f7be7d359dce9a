-- SPDX-License-Identifier: Apache-2.0
-- A companion address byte: its bits fit, and a whole one is a register's.
use Rattle.wire.specs.Limits.{phase_within}
use Rattle.bus_limits.proofs.Tests.{unless}
use Rattle.bus_limits.proofs.pointer_within.Goals as goal

pub returns : goal.returns
unfolding phase_within
returns c = rw (c.bits_fit.ensures, unless)
