-- SPDX-License-Identifier: Apache-2.0
-- What holds of each event of a list, and buffers that the list run's first three numbers let pass.
use Rattle.std.specs.Prelude.{ℕ, ◌≤◌, ◌≡◌, List, [], ◌∷◌, length}
use Rattle.fm3130.specs.declared.State.{State}
use Rattle.fm3130_image.specs.Reading.{WrittenBy}

abbrev pub Each : (ℕ → Type 0) → List ℕ → Type 0
Each X [] = Unit {0}
Each X (e ∷ es) = X e × Each X es

-- 8,192 bytes of memory, an image that a well-formed state writes, and no event byte above 7.
pub record Handed (i m es : List ℕ) : Type 0 where
  pub memory : length m ≡ 8192
  pub state : State
  pub image : WrittenBy i state
  pub events : Each (λ e. e ≤ 7) es
