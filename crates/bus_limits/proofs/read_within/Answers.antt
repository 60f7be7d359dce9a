-- SPDX-License-Identifier: Apache-2.0
-- A byte that goes out: 0 before its first clock.
use Rattle.wire.specs.Limits.{phase_within}
use Rattle.bus_limits.proofs.Tests.{unless}
use Rattle.bus_limits.proofs.read_within.Goals as goal

pub returns : goal.returns
unfolding phase_within
returns c = λ first last. rw unless
