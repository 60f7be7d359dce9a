-- SPDX-License-Identifier: Apache-2.0
-- What catching up has to do with the list run, and with no ticks at all (02, number 7).
--   AsTheListRun       it says and leaves what the list run of as many ticks does, whatever the memory
--   NoneLeavesAll      n = 0 changes nothing
--   AcceptedAgain      the image that it leaves is accepted again
use Rattle.std.specs.Prelude.{ℕ, ◌≤◌, ◌≡◌, List, length, Some}
use Rattle.calendar_days.specs.After.{most_ticks}
use Rattle.fm3130.specs.Chip.{memory_size}
use Rattle.fm3130.specs.declared.State.{State}
use Rattle.fm3130_image.specs.Image.{image_of, decode_of}
use Rattle.fm3130_list.specs.Run.{outcome_of}
use Rattle.c_catch_up.specs.CatchUp.{ticks, caught_up, catch_up_of}

-- "One call for n ticks must leave registers, core, AF and CF exactly as n single ticks would": the number and the image are
-- those of a list of n events of byte 4, on any image, any memory of the right length, and answers that are long enough.
pub record SameAsList (i m : List ℕ) (n : ℕ) (a : List ℕ) : Type 0 where
  pub number : (catch_up_of i n).number ≡ (outcome_of i m (ticks n) a).number
  pub image : (catch_up_of i n).image ≡ (outcome_of i m (ticks n) a).image
  pub memory : (outcome_of i m (ticks n) a).memory ≡ m

abbrev pub AsTheListRun : Type 0
AsTheListRun =
    (i m : List ℕ) (n : ℕ) (a : List ℕ) → length m ≡ memory_size → n ≤ most_ticks → n ≤ length a → SameAsList i m n a

-- "n = 0 included": not a byte of the image changes; 02h to 08h do not take the core.
abbrev pub NoneLeavesAll : Type 0
NoneLeavesAll = (i : List ℕ) → (catch_up_of i 0).image ≡ i

-- Image and state go both ways after it too.
abbrev pub AcceptedAgain : Type 0
AcceptedAgain = (i : List ℕ) (s : State) (n : ℕ) → decode_of i ≡ Some s
    → decode_of (image_of (caught_up n s)) ≡ Some (caught_up n s)
