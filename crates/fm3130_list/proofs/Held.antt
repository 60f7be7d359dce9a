-- SPDX-License-Identifier: Apache-2.0
-- The list run is the part's events one by one, by computation, and so are its answers: what `law_parts` proves of every
-- part holds of the list run.
use Prim.Native.Nat.{ℕ}
use mathlib.Core.Path.{◌≡◌, refl, ap}
use mathlib.Core.List.{List, [], ◌∷◌}
use Rattle.wire.specs.Slave.{slave_names}
use Rattle.fm3130.specs.Desk.{companion30}
use Rattle.fm3130.specs.Chip.{memory_size, state_with}
use Rattle.fm3130.specs.Event.{happening, event_of, event_on}
use Rattle.fm3130.specs.declared.State.{State}
use Rattle.law_parts.specs.Events as parts
use Rattle.law_parts.specs.Demand3 as demand
use Rattle.law_parts.proofs.Events.{second_heard}
use Rattle.fm3130_list.specs.Run.{run_of}
use Rattle.fm3130_list.specs.Held.{held, list_run}

pub run_held : (s : State) (m es : List ℕ)
    → parts.after_events memory_size slave_names companion30 (held s m) es ≡ held (run_of s m es).state
    (run_of s m es).memory
unfolding run_of event_on happening
run_held s m [] = refl
run_held s m (e ∷ es) = run_held (event_of s m e).state (event_of s m e).memory es

pub answers_held : (s : State) (m es : List ℕ)
    → parts.answers_to memory_size slave_names companion30 (held s m) es ≡ (run_of s m es).answers
unfolding run_of event_on happening
answers_held s m [] = refl
answers_held s m (e ∷ es) =
    ap (λ (l : List ℕ). parts.answer_to memory_size slave_names companion30 (held s m) e ∷ l)
    (answers_held (event_of s m e).state (event_of s m e).memory es)

-- of both, as functions
pub list_run_is : demand.one_by_one memory_size slave_names companion30 ≡ list_run
list_run_is =
    λ i h es. let s = state_with h.bus h.companion in
    record { held = run_held s h.memory es i; answers = answers_held s h.memory es i }

-- the byte of the FM3130's one tick says so
pub ticks_heard : parts.TicksHeard companion30
ticks_heard t = second_heard companion30.beyond
