-- SPDX-License-Identifier: Apache-2.0
-- A slave byte, clock by clock: acknowledged where it names somebody, and then that is opened.
use mathlib.Core.Path.{refl}
use native.Mathlib.Omega.{arith}
use borrow.Author.Tests.{lt-ltb}
use Rattle.wire.specs.Kinds.{slave_byte}
use Rattle.wire.proofs.Clock.{received_inside}
use Rattle.wire.proofs.Handed.{received_seen}
use Rattle.bus.specs.Select.{slave_names_for}
use Rattle.bus.proofs.select.select_clock.Goals as goal

pub returns-then-clocks-lt7 : goal.returns-then-clocks-lt7
returns-then-clocks-lt7 c =
    let f = c in
    let a = f.args in
    let h = f.if-clocks-lt7.true in
    rw (
      c.receive.ensures a.byte,
      f.count.ensures,
      f.push-whole.ensures,
      received_inside _ _ _ _ _ h,
      received_inside _ _ _ _ _ h,
      lt-ltb a.clocks 8 (omega arith),
    )

pub returns : goal.returns
returns c =
    let o = c in
    let g = o in
    let n = g in
    let a = n.args in
    rw (
      c.receive-2.ensures a.byte,
      o.opened-after.ensures,
      o.names_for-2.ensures,
      g.answers-good.ensures,
      g.names_for.ensures,
      n.count.ensures,
      n.push-whole.ensures,
    )
    (received_seen (slave_byte (slave_names_for a.select)) tt a.clocks a.byte a.high _ (λ e. refl))
