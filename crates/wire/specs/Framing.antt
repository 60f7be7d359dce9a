-- SPDX-License-Identifier: Apache-2.0
-- What an event leaves alone, over any part (01, Transfers: "Each of the two devices has its own address"; Ticks, alarm,
-- power: a tick is the companion's).
--   serves_memory, serves_companion   whom the Clocks of a phase serve
--   Framed                          the statement
use Rattle.std.specs.Prelude.{◌≡◌, Bool, true, false}
use Rattle.wire.specs.Machine.{Parts, start, stop, clock, line, tick, State, step}
use Rattle.wire.specs.declared.Side.TheVariants.{Memory, Companion}
use Rattle.wire.specs.declared.Phase.{Phase}
use Rattle.wire.specs.declared.Phase.TheVariants.{Idle, Slave, AddressHigh, AddressLow, Pointer, Write, Read}

-- The second address byte takes an address, and data bytes of the memory's side go to it and come from it.
abbrev pub serves_memory : Phase → Bool
serves_memory Idle = false
serves_memory (Slave k b) = false
serves_memory (AddressHigh k b) = false
serves_memory (AddressLow h k b) = true
serves_memory (Pointer k b) = false
serves_memory (Write Memory k b) = true
serves_memory (Write Companion k b) = false
serves_memory (Read Memory k b) = true
serves_memory (Read Companion k b) = false

-- The same of the companion, whose address is one byte.
abbrev pub serves_companion : Phase → Bool
serves_companion Idle = false
serves_companion (Slave k b) = false
serves_companion (AddressHigh k b) = false
serves_companion (AddressLow h k b) = false
serves_companion (Pointer k b) = true
serves_companion (Write Memory k b) = false
serves_companion (Write Companion k b) = true
serves_companion (Read Memory k b) = false
serves_companion (Read Companion k b) = true

-- A Clock touches the memory only in a phase that serves it, and the companion likewise; a Start and a Stop touch neither;
-- a tick touches neither the phase nor the memory.
pub record Framed (P : Parts) : Type 0 where
  pub clock_memory : (s : State P) (d : Bool) → serves_memory s.phase ≡ false
      → (step P s (line (clock d))).state.memory ≡ s.memory
  pub clock_companion : (s : State P) (d : Bool) → serves_companion s.phase ≡ false
      → (step P s (line (clock d))).state.companion ≡ s.companion
  pub start_memory : (s : State P) → (step P s (line start)).state.memory ≡ s.memory
  pub start_companion : (s : State P) → (step P s (line start)).state.companion ≡ s.companion
  pub stop_memory : (s : State P) → (step P s (line stop)).state.memory ≡ s.memory
  pub stop_companion : (s : State P) → (step P s (line stop)).state.companion ≡ s.companion
  pub tick_phase : (s : State P) (t : P.Tick) → (step P s (tick t)).state.phase ≡ s.phase
  pub tick_memory : (s : State P) (t : P.Tick) → (step P s (tick t)).state.memory ≡ s.memory
