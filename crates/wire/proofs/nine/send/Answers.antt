-- SPDX-License-Identifier: Apache-2.0
-- A clock of a byte to the master: the master's ninth; its first, or one of the next seven.
use native.Mathlib.Omega.{arith}
use Rattle.wire.proofs.Clock.{sent_first}
use Rattle.wire.proofs.Handed.{outgoing_under, outgoing_ninth}
use Rattle.wire.proofs.nine.send.Goals as goal
use Rattle.wire.proofs.nine.send.Goals.{then-clocks-eq0, else-clocks-eq0}

pub returns-then-clocks-gt7 : goal.returns-then-clocks-gt7
returns-then-clocks-gt7 c = rw (outgoing_ninth _ _ _ _ _ c.if-clocks-gt7.true, c.go_on.ensures, c.sending.ensures)

pub returns : goal.returns
returns c =
    rw (c.sending-2.ensures, c.sending_line.ensures)
    (elim c.if-clocks-eq0.branch [
      | then-clocks-eq0 w ↦ rw (sent_first _ _ _ _ _ w.if-clocks-eq0.true, w.fixed-is, w.if-clocks-eq0.true)
      | else-clocks-eq0 w ↦ rw (outgoing_under _ _ _ _ _ w.if-clocks-eq0.false (omega arith), w.fixed-is)
    ])
