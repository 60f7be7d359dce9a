-- SPDX-License-Identifier: Apache-2.0
-- A data byte for the companion, clock by clock, given the companion's acknowledge.
use mathlib.Core.Path.{refl}
use Rattle.wire.specs.Kinds.{companion_byte}
use Rattle.wire.proofs.Handed.{received_seen}
use Rattle.bus.specs.Code.Desk.{replied}
use Rattle.bus.proofs.turns.store_turn.Goals as goal

pub returns : goal.returns
returns c =
    let a = c.args in
    rw (c.take.ensures a.byte, c.push.ensures, c.count.ensures)
    (received_seen (companion_byte (λ u b. replied a.reply)) tt a.clocks a.byte a.high _ (λ e. refl))
