-- SPDX-License-Identifier: Apache-2.0
-- The limits of a bus: the address, the phase, and the supply.
use Rattle.bus_limits.specs.Limits.{bus_within}
use Rattle.bus_limits.proofs.bus_within.Goals as goal

pub returns : goal.returns
unfolding bus_within
returns c = rw (c.power_within.ensures, c.phase_within.ensures)
