-- SPDX-License-Identifier: Apache-2.0
-- What the functions over an image leave, in the words of the state that lies in it. Auxiliary: the entries' contracts speak
-- of whole outcomes.
--   Becomes   an image in which a state lies becomes one in which another lies
--   Took      what taking a byte leaves of the image
use Rattle.std.specs.Prelude.{ℕ, ◌≡◌, Bool, List}
use Rattle.fm3130_companion.specs.Part.{Taken}
use Rattle.fm3130.specs.Code.Bus.{with_companion}
use Rattle.fm3130.specs.declared.State.{State}
use Rattle.fm3130_image.specs.Image.{image_of}

abbrev pub Becomes : List ℕ → (State → State) → List ℕ → Type 0
Becomes i f i' = (s : State) → i ≡ image_of s → i' ≡ image_of (f s)

pub record Took (s : State) (t : Taken) (r : Bool) (i' : List ℕ) : Type 0 where
  pub acknowledged : r ≡ t.acknowledged
  pub image : i' ≡ image_of (with_companion s t.companion)
