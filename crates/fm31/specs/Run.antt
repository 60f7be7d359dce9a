-- SPDX-License-Identifier: Apache-2.0
-- A list of events over size and select (01, Entries: "A second entry runs a list of events"): that of every part (crate
-- `bus_list`).
--   Ended, answer_to, after, run_of   what a list leaves; the answer to an event; one event, and a list
use Rattle.std.specs.Prelude.{ℕ, List}
use Rattle.wire.specs.declared.Named.{Named}
use Rattle.bus.specs.Event as Event
use Rattle.bus_list.specs.Run as list
use Rattle.fm31.specs.Chip.{companion31, event_of}
use Rattle.fm31.specs.Step.{state_of, answer_byte}
use Rattle.fm31.specs.declared.State.{State}
pub use Rattle.bus_list.specs.Run.{following}

-- What a list of events leaves: the state, the memory, and one answer an event.
abbrev pub Ended : Type 0
Ended = list.Ended State

-- Auxiliary: the answer to an event.
abbrev pub answer_to : {size : ℕ} {names : ℕ → Named} → Event.Done size names companion31 → ℕ
answer_to d = answer_byte d.line

-- One event, as a list does it.
abbrev pub after : ℕ → ℕ → State → List ℕ → ℕ → list.Stepped State
after size select s m e =
    let d = event_of size select s m e in record { state = state_of d; memory = d.memory; answer = answer_to d }

-- The events one by one, each on the state and the memory that the one before it left.
unfoldable pub run_of : ℕ → ℕ → State → List ℕ → List ℕ → Ended
unfolding list.run_of
run_of size select s m es = list.run_of (after size select) s m es
