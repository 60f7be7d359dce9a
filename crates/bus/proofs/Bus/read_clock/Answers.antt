-- SPDX-License-Identifier: Apache-2.0
-- A data byte to the master, by the device that it serves.
use mathlib.Core.Path.{refl, sym}
use Rattle.wire.specs.Machine.{clocked}
use Rattle.wire.proofs.Cells.{fetch_bytes}
use Rattle.bus.proofs.Cases.{both}
use Rattle.bus.proofs.Bus.read_clock.Goals as goal

pub returns-in-Memory : goal.returns-in-Memory
unfolding clocked
returns-in-Memory c = rw (c.in-Memory.is, c.moved.ensures, c.fetch_clock.ensures) (both refl (sym (fetch_bytes _ _ _ _ _)))

pub returns-in-Companion : goal.returns-in-Companion
unfolding clocked
returns-in-Companion c = rw (c.in-Companion.is, c.turned.ensures, c.load_turn.ensures)
