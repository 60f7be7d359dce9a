-- SPDX-License-Identifier: Apache-2.0
-- A data byte from the master, by the device that it serves.
use mathlib.Core.Path.{refl}
use Rattle.wire.specs.Machine.{clocked}
use Rattle.bus.proofs.Cases.{both}
use Rattle.bus.proofs.Bus.write_clock.Goals as goal

pub returns-in-Memory : goal.returns-in-Memory
unfolding clocked
returns-in-Memory c = rw (c.in-Memory.is, c.moved.ensures, c.put_clock.ensures.result) (both refl c.put_clock.ensures.bytes)

pub returns-in-Companion : goal.returns-in-Companion
unfolding clocked
returns-in-Companion c = rw (c.in-Companion.is, c.turned.ensures, c.store_turn.ensures)
