-- SPDX-License-Identifier: Apache-2.0
-- A companion address byte, clock by clock, given the companion's acknowledge.
use mathlib.Core.Path.{refl}
use Rattle.wire.specs.Kinds.{pointer_byte}
use Rattle.wire.proofs.Handed.{received_seen}
use Rattle.bus.specs.Code.Desk.{replied}
use Rattle.bus.proofs.turns.pointer_turn.Goals as goal

pub returns : goal.returns
returns c =
    let a = c.args in
    rw (c.take.ensures a.byte, c.push.ensures, c.count.ensures)
    (received_seen (pointer_byte (λ u b. replied a.reply)) tt a.clocks a.byte a.high _ (λ e. refl))
