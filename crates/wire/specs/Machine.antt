-- SPDX-License-Identifier: Apache-2.0
-- THE bus machine, over any part: what Start, Stop, a Clock and a tick do (01, Transfers). The FM3130 is one value of
-- `Parts`, a device of the larger family another; contracts, theorems and tests all cite this machine at such a value.
--   Parts   the two devices of a part            clocked, lined, step   one event
--   State   phase, memory, companion             Answer, answer_of       what is seen of it
use Rattle.std.specs.Prelude.{ℕ, Bool, true}
use Rattle.wire.specs.Clock.{Half, Taken, received, sent}
use Rattle.wire.specs.Kinds.{slave_byte, high_byte, low_byte, memory_byte, memory_read, pointer_byte, companion_byte, companion_read}
use Rattle.wire.specs.declared.Side.TheVariants.{Memory, Companion}
use Rattle.wire.specs.declared.Named.{Named}
use Rattle.wire.specs.declared.Phase.{Phase}
use Rattle.wire.specs.declared.Phase.TheVariants.{Idle, Slave, AddressHigh, AddressLow, Pointer, Write, Read}

-- The two devices of a part. "Each of the two devices has its own address": it lies inside the device's own state.
pub record Parts : Type 1 where
  pub Tick : Type 0
  pub Guard : Type 0
  pub Cells : Type 0
  pub Desk : Type 0
  pub Pin : Type 0
  -- whom a slave byte names
  pub names : ℕ → Named
  -- the memory, `Cells`: take an address of two bytes; put a byte, under a protection; the byte at the address; step on
  pub point : Cells → ℕ → ℕ → Cells
  pub put : Guard → Cells → ℕ → Taken Cells
  pub fetch : Cells → ℕ
  pub step_on : Cells → Cells
  -- the companion, `Desk`: take an address; store a byte; the byte at the address; what a whole byte read does
  pub aim : Desk → ℕ → Taken Desk
  pub store : Desk → ℕ → Taken Desk
  pub load : Desk → ℕ
  pub loaded : Desk → ℕ → Desk
  -- what else the companion does: a tick; its protection, which is all that the memory sees of it; what its pin shows
  pub ticked : Tick → Desk → Desk
  pub guard : Desk → Guard
  pub pin : Desk → Pin

-- What happens on the two wires; a Clock says whether the master's data line is high.
pub data Line : Type 0 where
  start stop : Line
  clock : Bool → Line

-- 01, Event bytes: "For a Clock, low if the master or the device pulls it low; for other events 1". Here the master alone.
abbrev pub masters_line : Line → Bool
masters_line start = true
masters_line stop = true
masters_line (clock d) = d

pub data Event (Tick : Type 0) : Type 0 where
  line : Line → Event Tick
  tick : Tick → Event Tick

module _ (P : Parts) where
  pub record State : Type 0 where
    pub phase : Phase
    pub memory : P.Cells
    pub companion : P.Desk

  -- `line` is true when the wire is high.
  pub record Out : Type 0 where
    pub state : State
    pub line : Bool

  abbrev pub out : Phase → P.Cells → P.Desk → Bool → Out
  out p m c d = record { state = record { phase = p; memory = m; companion = c }; line = d }

  -- Auxiliary: what a clock was handed goes back beside what it was not.
  abbrev pub neither : P.Cells → P.Desk → Half (Unit {0}) → Out
  neither m c h = out h.phase m c h.line

  abbrev pub beside : P.Desk → Half P.Cells → Out
  beside c h = out h.phase h.part c h.line

  abbrev pub beyond : P.Cells → Half P.Desk → Out
  beyond m h = out h.phase m h.part h.line

  -- A Clock, by phase. "A Clock outside a transfer, or after it has ended, changes nothing and its line is the master's."
  unfoldable pub clocked : Phase → P.Cells → P.Desk → Bool → Out
  clocked Idle m c d = out Idle m c d
  clocked (Slave k b) m c d = neither m c (received (slave_byte P.names) tt k b d)
  clocked (AddressHigh k b) m c d = neither m c (received high_byte tt k b d)
  clocked (AddressLow h k b) m c d = beside c (received (low_byte P.point h) m k b d)
  clocked (Pointer k b) m c d = beyond m (received (pointer_byte P.aim) c k b d)
  clocked (Write Memory k b) m c d = beside c (received (memory_byte (P.put (P.guard c))) m k b d)
  clocked (Write Companion k b) m c d = beyond m (received (companion_byte P.store) c k b d)
  clocked (Read Memory k b) m c d = beside c (sent (memory_read P.fetch P.step_on) m k b d)
  clocked (Read Companion k b) m c d = beyond m (sent (companion_read P.load P.loaded) c k b d)

  -- "Start at any moment begins a slave byte; Stop at any moment ends the transfer. Either drops a part byte."
  unfoldable pub lined : Phase → P.Cells → P.Desk → Line → Out
  lined p m c start = out (Slave 0 0) m c true
  lined p m c stop = out Idle m c true
  lined p m c (clock d) = clocked p m c d

  abbrev pub stepped : Phase → P.Cells → P.Desk → Event P.Tick → Out
  stepped p m c (line x) = lined p m c x
  stepped p m c (tick t) = out p m (P.ticked t c) true

  abbrev pub step : State → Event P.Tick → Out
  step s e = stepped s.phase s.memory s.companion e

  -- What is seen of an event: the line, and the pin after it.
  pub record Answer : Type 0 where
    pub line : Bool
    pub pin : P.Pin

  abbrev pub answer_of : Out → Answer
  answer_of o = record { line = o.line; pin = P.pin o.state.companion }
