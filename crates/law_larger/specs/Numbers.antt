-- SPDX-License-Identifier: Apache-2.0
-- The family's numbers in their own figures (02, number 5: "Number 1 then means the wrong length for the chosen size",
-- "number 3 starts at 10 for this part"; 01's table), of the list run.
use Rattle.std.specs.Prelude.{ℕ, ◌≤◌, ◌<◌, ◌≡◌, List, ◌∷◌, ◌++◌, length, Some, None}
use Rattle.bus.specs.Select.{lone}
use Rattle.fm31.specs.declared.State.{State}
use Rattle.fm31_image.specs.Image.{decode_of}
use Rattle.c_fm31.specs.Run.{refused, outcome_of}

-- An event byte from 10 on stands in the list.
pub record UnknownIn (es : List ℕ) : Type 0 where
  pub before : List ℕ
  pub event : ℕ
  pub rest : List ℕ
  pub unknown : 10 ≤ event
  pub list : es ≡ before ++ (event ∷ rest)

-- "Checked in the order of the numbers"; under each but 0 nothing is written.
pub record RunNumbers (size : ℕ) (i m es a : List ℕ) : Type 0 where
  pub one : (length m ≡ size → ⊥) → outcome_of size i m es a ≡ refused 1 i m a
  pub two : length m ≡ size → decode_of size lone i ≡ None → outcome_of size i m es a ≡ refused 2 i m a
  pub three : length m ≡ size → (s : State) → decode_of size lone i ≡ Some s → UnknownIn es
      → outcome_of size i m es a ≡ refused 3 i m a
  pub four : length m ≡ size → (s : State) → decode_of size lone i ≡ Some s → (UnknownIn es → ⊥) → length a < length es
      → outcome_of size i m es a ≡ refused 4 i m a
  pub zero : length m ≡ size → (s : State) → decode_of size lone i ≡ Some s → (UnknownIn es → ⊥) → length es ≤ length a
      → (outcome_of size i m es a).number ≡ 0

abbrev pub EveryNumber : ℕ → Type 0
EveryNumber size = (i m es a : List ℕ) → RunNumbers size i m es a
