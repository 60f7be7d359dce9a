-- SPDX-License-Identifier: Apache-2.0
-- One event: a Clock, or one that touches no memory.
use native.Mathlib.Omega.{arith}
use Rattle.bus.proofs.Cases.{happening_clock}
use Rattle.bus.proofs.Bus.happen.Goals as goal

pub returns-in-2 : goal.returns-in-2
returns-in-2 c = rw (happening_clock c.args.event (omega arith)) c.clock.ensures
