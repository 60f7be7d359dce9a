-- SPDX-License-Identifier: Apache-2.0
-- A list of events on the larger family is that list on its part: the state is the bus and the companion, and no pin is
-- shown above the line.
use Prim.Native.Nat.{ℕ, ◌+◌, ◌*◌}
use mathlib.Core.Path.{◌≡◌, refl}
use mathlib.Core.Bool.{Bool, true, false, cond}
use mathlib.Core.List.{List, [], ◌∷◌}
use Rattle.bus.specs.Select.{lone, slave_names_for}
use Rattle.fm31.specs.Chip.{companion31, event_of}
use Rattle.fm31.specs.Step.{state_of}
use Rattle.fm31.specs.Run.{run_of}
use Rattle.fm31.specs.declared.State.{State}
use Rattle.law_parts.specs.Events.{after_events, answers_to}
use Rattle.law_parts.specs.Demand3.{one_by_one}
use Rattle.law_larger.specs.Demand3.{held, list_run}

module _ (size : ℕ) where
  pub run_held : (s : State) (m es : List ℕ)
      → after_events size (slave_names_for lone) companion31 (held size s m) es
      ≡ held size (run_of size lone s m es).state (run_of size lone s m es).memory
  unfolding run_of
  run_held s m [] = refl
  run_held s m (e ∷ es) = let d = event_of size lone s m e in run_held (state_of d) d.memory es

  line_alone : (d : Bool) → 2 * 0 + cond d 1 0 ≡ cond d 1 0
  line_alone true = refl
  line_alone false = refl

  pub answers_held : (s : State) (m es : List ℕ)
      → answers_to size (slave_names_for lone) companion31 (held size s m) es ≡ (run_of size lone s m es).answers
  unfolding run_of
  answers_held s m [] = refl
  answers_held s m (e ∷ es) =
      let d = event_of size lone s m e in
      let rest = answers_held (state_of d) d.memory es in
      λ i. line_alone d.line i ∷ rest i

  -- of both, as functions
  pub list_run_is : one_by_one size (slave_names_for lone) companion31 ≡ list_run size
  list_run_is =
      λ i h es. let s : State = record { bus = h.bus; counters = h.companion } in
      record { held = run_held s h.memory es i; answers = answers_held s h.memory es i }
