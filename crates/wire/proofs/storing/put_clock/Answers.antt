-- SPDX-License-Identifier: Apache-2.0
-- A clock of a data byte from the master: its eighth, at which it is taken, and any other.
use mathlib.Core.Path.{refl, sym, ap}
use mathlib.Core.Bool.{true}
use Rattle.wire.specs.Clock.{received}
use Rattle.wire.specs.Kinds.{memory_byte}
use Rattle.wire.specs.Memory.{lent, put_byte}
use Rattle.wire.proofs.Handed.{moved_by, received_seen, received_eighth, received_elsewhere}
use Rattle.wire.proofs.storing.put_clock.Goals as goal

pub returns-then-clocks-eq7 : goal.returns-then-clocks-eq7
returns-then-clocks-eq7 c =
    let n = c in
    let f = n in
    let a = f.args in
    let R = memory_byte (put_byte a.size a.guard) in
    let s = lent a.memory.now a.address in
    let e = received_eighth R s a.clocks a.byte a.high f.if-clocks-eq7.true in
    rw (
      c.with_address.ensures,
      c.receive-turned.ensures a.byte,
      f.awaiting-after.ensures,
      n.put-done.ensures.result,
      f.count.ensures,
      f.push-whole.ensures,
    )
    (record {
      result =
          moved_by (received R s a.clocks a.byte a.high)
          (received_seen R s a.clocks a.byte a.high _ (λ q. refl)) e;
      bytes = rw (e, ← f.push-whole.ensures) n.put-done.ensures.bytes;
    })

pub returns : goal.returns
returns c =
    let f = c in
    let a = f.args in
    let R = memory_byte (put_byte a.size a.guard) in
    let s = lent a.memory.now a.address in
    let e = received_elsewhere R s a.clocks a.byte a.high f.if-clocks-eq7.false in
    rw (
      c.with_address-2.ensures,
      c.receive-turned-2.ensures a.byte,
      f.awaiting-after.ensures,
      f.count.ensures,
      f.push-whole.ensures,
    )
    (record {
      result =
          moved_by (received R s a.clocks a.byte a.high)
          (received_seen R s a.clocks a.byte a.high true (λ q. absurd (f.if-clocks-eq7.false q))) e;
      bytes = sym (ap (λ m. m.bytes) e);
    })
