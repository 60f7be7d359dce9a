-- SPDX-License-Identifier: Apache-2.0
-- A written memory data byte: the events of its eight clocks, what they are worth, and when the device acknowledges it
-- (01, Transfers: "Acknowledged means that the device itself pulls the ninth clock's line low, whatever the master does
-- there. The memory byte in demand 2 is a written data byte, not an address byte, all nine of whose clocks fall in one
-- list or in calls that hand memory and state on untouched").
--   after, memory_after   state and memory after a list of events, one by one
--   Byte, StoredAt       those of every part (crate `law_parts`)
--   AtData, Pulls        a data byte begins; the device pulls the line low
--   AcknowledgedStored   the statement
use Rattle.std.specs.Prelude.{ℕ, ◌≡◌, Bool, true, false, List, [], ◌∷◌, ◌++◌, length}
use Rattle.fm3130.specs.Desk.{companion30}
use Rattle.fm3130.specs.Chip.{memory_size, bus_of}
use Rattle.fm3130.specs.Event.{event_of}
use Rattle.fm3130.specs.Limits.{well_formed}
use Rattle.fm3130.specs.declared.State.{State}
use Rattle.fm3130_list.specs.Run.{run_of}
use Rattle.law_parts.specs.Stored as parts
pub use Rattle.law_parts.specs.Events.{clock_event}
pub use Rattle.law_parts.specs.Stored.{StoredAt}

-- Auxiliary: state and memory after a list of events, one by one: the list run's own.
abbrev pub after : State → List ℕ → List ℕ → State
after s m es = (run_of s m es).state

abbrev pub memory_after : State → List ℕ → List ℕ → List ℕ
memory_after s m es = (run_of s m es).memory

-- The events of a whole byte, high bit first: eight clocks, and between them ticks and returns of power that is there.
abbrev pub Byte : ℕ → List ℕ → Type 0
Byte w es = parts.Byte companion30 w es

-- A data byte of a memory write is about to begin.
abbrev pub AtData : State → Type 0
AtData s = parts.AtData (bus_of s)

-- The device itself pulls the line of the next Clock low: though the master leaves it high, it is low.
abbrev pub Pulls : State → List ℕ → Type 0
Pulls s m = (event_of s m 3).line ≡ false

-- Demand 2: an acknowledged memory byte is stored at its address. Whatever the state, the memory and the events before:
-- where a data byte of a memory write begins, its eight clocks come, and the device itself pulls the ninth clock's line low,
-- the memory then is as it was but for that byte at the address.
abbrev pub AcknowledgedStored : Type 0
AcknowledgedStored =
    (s : State) (m before byte : List ℕ) (w : ℕ) (d : Bool)
    → well_formed s ≡ true → length m ≡ memory_size
    → AtData (after s m before) → Byte w byte → Pulls (after s m (before ++ byte)) (memory_after s m (before ++ byte))
    → StoredAt (memory_after s m before) (after s m before).address w (memory_after s m (before ++ (byte ++ (clock_event d ∷ []))))
