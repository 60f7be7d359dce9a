-- SPDX-License-Identifier: Apache-2.0
-- The limits of each phase, at the phase that the match found.
use Rattle.std.proofs.Common.{rules}
use Rattle.wire.specs.Limits.{phase_within}
use Rattle.bus_limits.proofs.phase_within.Goals as goal

pub returns-in-Idle : goal.returns-in-Idle
unfolding phase_within
returns-in-Idle c = rw c.in-Idle.is

pub returns-in-AddressHigh : goal.returns-in-AddressHigh
unfolding phase_within
returns-in-AddressHigh c = search rules
