-- SPDX-License-Identifier: Apache-2.0
-- The FM3130 as a part (01, The part we play), and the device's state as a bus with the companion beside it.
--   memory_size, fm3130   the part                bus_of, state_with    a state's bus; the state of a bus and a companion
--   Done                 what an event leaves     done_with, done_of    the same, of an event of the part, of the machine
use Rattle.std.specs.Prelude.{ℕ, Bool, List}
use Rattle.wire.specs.Slave.{slave_names}
use Rattle.wire.specs.Machine.{Parts, Out}
use Rattle.bus.specs.Desk.{part_of}
use Rattle.bus.specs.Event as bus
use Rattle.bus.specs.declared.Bus.{Bus}
use Rattle.fm3130_companion.specs.declared.Companion.{Companion}
use Rattle.fm3130.specs.Desk.{companion30}
use Rattle.fm3130.specs.declared.State.{State}

-- "8,192 bytes of FRAM."
abbrev pub memory_size : ℕ
memory_size = 8192

abbrev pub fm3130 : Parts
fm3130 = part_of memory_size slave_names companion30

abbrev pub bus_of : State → Bus
bus_of s = record { power = s.power; phase = s.phase; address = s.address }

abbrev pub state_with : Bus → Companion → State
state_with u c = record { power = u.power; phase = u.phase; address = u.address; companion = c }

-- What an event leaves: the state, the lent memory, and the line.
pub record Done : Type 0 where
  pub state : State
  pub memory : List ℕ
  pub line : Bool

abbrev pub done_with : bus.Done memory_size slave_names companion30 → Done
done_with d = record { state = state_with d.bus d.companion; memory = d.memory; line = d.line }

-- Auxiliary: what an event of the machine leaves.
abbrev pub done_of : Out fm3130 → Done
done_of o = done_with (bus.done_of memory_size slave_names companion30 o)
