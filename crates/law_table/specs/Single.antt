-- SPDX-License-Identifier: Apache-2.0
-- The entry for one event under each number (01, Entries and refusal numbers: "A refused single event returns its state
-- unchanged with answer byte 1").
--   refused_by       what a refused event returns and leaves
--   SingleEvent     the numbers, each given exactly when its line says
use Rattle.std.specs.Prelude.{ℕ, ◌≤◌, ◌<◌, ◌≡◌, true, false, List, length}
use Rattle.calendar.specs.declared.Rolled.TheVariants.{Nothing}
use Rattle.fm3130.specs.Limits.{well_formed}
use Rattle.fm3130.specs.Step.{Step, step_of}
use Rattle.fm3130.specs.declared.State.{State}

-- State and memory unchanged, "with answer byte 1"; and no field of the calendar.
abbrev pub refused_by : ℕ → State → List ℕ → Step
refused_by n s m = record { number = n; state = s; answer = 1; rolled = Nothing; memory = m }

-- "Checked in the order of the numbers."
pub record SingleEvent (s : State) (m : List ℕ) (e : ℕ) : Type 0 where
  -- 1: "memory is not 8,192 bytes"
  pub memory : (length m ≡ 8192 → ⊥) → step_of s m e ≡ refused_by 1 s m
  -- 2: "for a state by value, outside the limits"
  pub state : length m ≡ 8192 → well_formed s ≡ false → step_of s m e ≡ refused_by 2 s m
  -- 3: "event byte is above 7"
  pub event : length m ≡ 8192 → well_formed s ≡ true → 7 < e → step_of s m e ≡ refused_by 3 s m
  -- 0: "none below"
  pub answered : length m ≡ 8192 → well_formed s ≡ true → e ≤ 7 → (step_of s m e).number ≡ 0

abbrev pub EverySingleEvent : Type 0
EverySingleEvent = (s : State) (m : List ℕ) (e : ℕ) → SingleEvent s m e
