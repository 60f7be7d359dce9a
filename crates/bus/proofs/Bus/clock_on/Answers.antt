-- SPDX-License-Identifier: Apache-2.0
-- A Clock by phase: each phase's own clock, cited at the phase that the match found.
use mathlib.Core.Path.{refl, sym}
use Rattle.wire.specs.Machine.{clocked}
use Rattle.wire.proofs.Cells.{low_bytes}
use Rattle.bus.specs.Select.{slave_names_for}
use Rattle.bus.proofs.Cases.{both, at_phase, idle_clock}
use Rattle.bus.proofs.Bus.clock_on.Goals as goal

pub returns-in-Idle : goal.returns-in-Idle
returns-in-Idle c = let a = c.args in idle_clock a.part.size (slave_names_for a.part.select) a.part.guard
    a.part.reply a.self
    a.memory.now a.high c.in-Idle.is

pub returns-in-Slave : goal.returns-in-Slave
unfolding clocked
returns-in-Slave c = let a = c.args in at_phase a.part.size
    (slave_names_for a.part.select)
    a.part.guard a.part.reply a.self a.memory.now a.high c.in-Slave.is (rw (
      c.turned.ensures,
      c.select_clock.ensures,
    ))

pub returns-in-AddressHigh : goal.returns-in-AddressHigh
unfolding clocked
returns-in-AddressHigh c = let a = c.args in at_phase a.part.size
    (slave_names_for a.part.select)
    a.part.guard a.part.reply a.self a.memory.now a.high c.in-AddressHigh.is (rw
    (c.turned-in-AddressHigh.ensures, c.high_clock.ensures))

pub returns-in-AddressLow : goal.returns-in-AddressLow
unfolding clocked
returns-in-AddressLow c = let a = c.args in at_phase a.part.size
    (slave_names_for a.part.select)
    a.part.guard a.part.reply a.self a.memory.now a.high c.in-AddressLow.is (rw (
      c.moved.ensures,
      c.low_clock.ensures a.memory.now,
    ) (both refl (sym (low_bytes _ _ _ _ _ _))))

pub returns-in-Pointer : goal.returns-in-Pointer
unfolding clocked
returns-in-Pointer c = let a = c.args in at_phase a.part.size
    (slave_names_for a.part.select)
    a.part.guard a.part.reply a.self a.memory.now a.high c.in-Pointer.is (rw
    (c.turned-in-Pointer.ensures, c.pointer_turn.ensures))

pub returns-in-Write : goal.returns-in-Write
returns-in-Write c = let a = c.args in at_phase a.part.size
    (slave_names_for a.part.select) a.part.guard a.part.reply a.self a.memory.now a.high
    c.in-Write.is c.write_clock.ensures

pub returns-in-Read : goal.returns-in-Read
returns-in-Read c = let a = c.args in at_phase a.part.size
    (slave_names_for a.part.select)
    a.part.guard a.part.reply a.self a.memory.now a.high c.in-Read.is
    c.read_clock.ensures
