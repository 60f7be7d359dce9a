-- SPDX-License-Identifier: Apache-2.0
-- A clock of the second address byte: its eighth, at which the address is taken, and any other.
use mathlib.Core.Path.{refl}
use mathlib.Core.Bool.{true}
use Rattle.wire.specs.Clock.{received}
use Rattle.wire.specs.Kinds.{low_byte}
use Rattle.wire.specs.Memory.{lent, pointed}
use Rattle.wire.proofs.Handed.{moved_by, received_seen, received_eighth, received_elsewhere}
use Rattle.wire.proofs.address.low_clock.Goals as goal

pub returns-then-clocks-eq7 : goal.returns-then-clocks-eq7
returns-then-clocks-eq7 c m =
    let n = c in
    let a = n.args in
    let R = low_byte (pointed a.size) a.upper in
    let s = lent m a.address in
    rw (
      c.with_address.ensures,
      c.join.ensures,
      n.receive-turned.ensures a.byte,
      n.awaiting.ensures,
      n.count.ensures,
      n.push-low.ensures,
    )
    (moved_by (received R s a.clocks a.byte a.high)
    (received_seen R s a.clocks a.byte a.high true (λ e. refl))
    (received_eighth R s a.clocks a.byte a.high c.if-clocks-eq7.true))

pub returns : goal.returns
returns c m =
    let n = c in
    let a = n.args in
    let R = low_byte (pointed a.size) a.upper in
    let s = lent m a.address in
    rw (
      c.with_address-2.ensures,
      n.receive-turned.ensures a.byte,
      n.awaiting.ensures,
      n.count.ensures,
      n.push-low.ensures,
    )
    (moved_by (received R s a.clocks a.byte a.high)
    (received_seen R s a.clocks a.byte a.high true (λ e. refl))
    (received_elsewhere R s a.clocks a.byte a.high c.if-clocks-eq7.false))
