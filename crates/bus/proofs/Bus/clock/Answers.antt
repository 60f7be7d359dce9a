-- SPDX-License-Identifier: Apache-2.0
-- A Clock is heard while main power is present.
use mathlib.Core.Path.{refl}
use mathlib.Core.Logic.{inl, inr}
use Rattle.wire.specs.Machine.{lined, clock}
use Rattle.bus.specs.Happening.{on_wire}
use Rattle.bus.specs.Event.{event_on}
use Rattle.bus.specs.Select.{slave_names_for}
use Rattle.bus.proofs.Cases.{at_power}
use Rattle.bus.proofs.Bus.clock.Goals as goal

pub returns-in-On : goal.returns-in-On
unfolding event_on lined
returns-in-On c = rw c.in-On.is (rw c.in-On.is at c.clock_on.ensures)

pub returns-in-Backup : goal.returns-in-Backup
unfolding event_on
returns-in-Backup c =
    let a = c.args in
    let n = slave_names_for a.part.select in
    let x = on_wire (clock a.high) in
    elim c.in-Backup.is [
      | inl p ↦ at_power a.part.size n a.part.guard a.part.reply a.self a.memory.now x p refl
      | inr p ↦ at_power a.part.size n a.part.guard a.part.reply a.self a.memory.now x p refl
    ]
