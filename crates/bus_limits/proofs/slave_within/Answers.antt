-- SPDX-License-Identifier: Apache-2.0
-- A slave byte: its bits fit, and a whole one names somebody.
use Rattle.wire.specs.Limits.{phase_within}
use Rattle.bus_limits.proofs.Tests.{unless}
use Rattle.bus_limits.proofs.slave_within.Goals as goal

pub returns : goal.returns
unfolding phase_within
returns c = λ first last. rw (c.bits_fit.ensures, c.answers.ensures, c.names_for.ensures, unless)
