-- SPDX-License-Identifier: Apache-2.0
-- What makes the device safe on real wires, where a controller drives the line before a clock rises, cannot see a level
-- that it hides itself, and may take a rise for a clock that turns out to be a Start's or a Stop's.
--   HiddenLevel   where the device pulls a Clock's line, the master's level there changes nothing
--   is_eighth      the next Clock is the eighth of a byte, at which a byte acts
--   ClockDropped  any other Clock, followed by Start or Stop, leaves what Start or Stop alone leaves
--   SafeOnWires   all of this, of every state and memory
use Rattle.std.specs.Prelude.{ℕ, ◌≡◌, Bool, true, false, List, eqb}
use Rattle.wire.specs.declared.Phase.{Phase}
use Rattle.wire.specs.declared.Phase.TheVariants.{Idle, Slave, AddressHigh, AddressLow, Pointer, Write, Read}
use Rattle.fm3130.specs.Event.{event_of}
use Rattle.fm3130.specs.declared.State.{State}
use Rattle.c_line.specs.Line.{pulls, pulls_after}

-- Where the device pulls the line, the events 2 and 3 leave the same state, memory and line.
abbrev pub HiddenLevel : State → List ℕ → Type 0
HiddenLevel s m = pulls s m ≡ true → event_of s m 2 ≡ event_of s m 3

-- So the Clock after it needs one answer only.
abbrev pub HiddenNext : State → List ℕ → Type 0
HiddenNext s m = pulls s m ≡ true → pulls_after s m 2 ≡ pulls_after s m 3

-- Seven clocks of a byte are done.
unfoldable pub is_eighth : Phase → Bool
is_eighth Idle = false
is_eighth (Slave k b) = eqb k 7
is_eighth (AddressHigh k b) = eqb k 7
is_eighth (AddressLow h k b) = eqb k 7
is_eighth (Pointer k b) = eqb k 7
is_eighth (Write s k b) = eqb k 7
is_eighth (Read s k b) = eqb k 7

-- A Clock c, then e, leaves the state, the memory and the line that e alone leaves.
abbrev pub ClockDropped : State → List ℕ → ℕ → ℕ → Type 0
ClockDropped s m c e =
    is_eighth s.phase ≡ false → event_of (event_of s m c).state (event_of s m c).memory e ≡ event_of s m e

pub record SafeOnWires : Type 0 where
  pub hidden : (s : State) (m : List ℕ) → HiddenLevel s m
  pub hidden_next : (s : State) (m : List ℕ) → HiddenNext s m
  pub low_then_start : (s : State) (m : List ℕ) → ClockDropped s m 2 0
  pub high_then_start : (s : State) (m : List ℕ) → ClockDropped s m 3 0
  pub low_then_stop : (s : State) (m : List ℕ) → ClockDropped s m 2 1
  pub high_then_stop : (s : State) (m : List ℕ) → ClockDropped s m 3 1
