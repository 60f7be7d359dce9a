-- SPDX-License-Identifier: Apache-2.0
-- A clock of a data byte to the master: its eighth, at which the address steps on, and any other.
use Rattle.wire.specs.Clock.{sent}
use Rattle.wire.specs.Kinds.{memory_read}
use Rattle.wire.specs.Memory.{lent, byte_at, stepped_on}
use Rattle.wire.specs.declared.Side.TheVariants.{Memory}
use Rattle.wire.proofs.Handed.{moved_by, sent_seen, sent_eighth, sent_elsewhere}
use Rattle.wire.proofs.fetching.fetch_clock.Goals as goal

pub returns-then-clocks-eq7 : goal.returns-then-clocks-eq7
returns-then-clocks-eq7 c =
    let n = c in
    let a = n.args in
    rw (c.with_address.ensures, c.next_address.ensures, n.send-turned.ensures)
    (moved_by
    (sent (memory_read byte_at (stepped_on a.size)) (lent a.memory.now a.address) a.clocks a.byte a.high)
    (sent_seen Memory byte_at (λ m b. stepped_on a.size m) (lent a.memory.now a.address) _ _ _)
    (sent_eighth Memory byte_at (λ m b. stepped_on a.size m) (lent a.memory.now a.address) _ _ _
    c.if-clocks-eq7.true))

pub returns : goal.returns
returns c =
    let n = c in
    let a = n.args in
    rw (c.with_address-2.ensures, n.send-turned.ensures)
    (moved_by
    (sent (memory_read byte_at (stepped_on a.size)) (lent a.memory.now a.address) a.clocks a.byte a.high)
    (sent_seen Memory byte_at (λ m b. stepped_on a.size m) (lent a.memory.now a.address) _ _ _)
    (sent_elsewhere Memory byte_at (λ m b. stepped_on a.size m) (lent a.memory.now a.address) _ _ _
    c.if-clocks-eq7.false))
