-- SPDX-License-Identifier: Apache-2.0
-- A clock of a byte from the master: inside it, at its eighth clock, at its acknowledge.
use native.Mathlib.Omega.{arith}
use Rattle.wire.proofs.Clock.{received_inside, received_last, received_ack}
use Rattle.wire.proofs.nine.receive.Goals as goal

pub returns-in-0-to-6 : goal.returns-in-0-to-6
returns-in-0-to-6 c b = rw (received_inside _ _ c.args.clocks b _ (omega arith))

pub returns-in-7 : goal.returns-in-7
returns-in-7 c b = rw (received_last _ _ _ b _ c.in-7.is, c.keep.ensures)

pub returns-in_default : goal.returns-in_default
returns-in_default c b = rw (received_ack _ _ c.args.clocks b _ (omega arith) (λ e. omega arith))
