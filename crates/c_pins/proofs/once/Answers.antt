-- SPDX-License-Identifier: Apache-2.0
use native.Mathlib.Omega.{arith}
use Rattle.c_pins.proofs.Ran.{once_none, once_done}
use Rattle.c_pins.proofs.once.Goals as goal

pub returns-then-event-lt-NONE : goal.returns-then-event-lt-NONE
returns-then-event-lt-NONE c = once_done _ _ _ _ _ _ (omega arith) c.happen.ensures

pub returns-else-event-lt-NONE : goal.returns-else-event-lt-NONE
returns-else-event-lt-NONE c = once_none _ _ _ c.requires (omega arith)
