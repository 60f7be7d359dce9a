-- SPDX-License-Identifier: Apache-2.0
-- A clock of the first address byte, which is taken whatever it is.
use mathlib.Core.Path.{refl}
use mathlib.Core.Bool.{true}
use Rattle.wire.specs.Kinds.{high_byte}
use Rattle.wire.proofs.Handed.{received_seen}
use Rattle.wire.proofs.slave.high_clock.Goals as goal

pub returns : goal.returns
returns c =
    let a = c.args in
    rw (c.receive.ensures a.byte, c.push.ensures, c.count.ensures)
    (received_seen high_byte tt a.clocks a.byte a.high true (λ e. refl))
