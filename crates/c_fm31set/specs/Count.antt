-- SPDX-License-Identifier: Apache-2.0
-- Number 9 is given exactly if the plan has not one to four bytes, whatever else is wrong.
--   NineExactly    of one number
--   CountExactly   of both entries, on all that they can be given
use Rattle.std.specs.Prelude.{ℕ, ◌≡◌, false, List, length}
use Rattle.numbers.specs.Numbers.{wrong_count}
use Rattle.set_event.specs.Make.{is_count}
use Rattle.c_fm31set.specs.Entry.{check_of, run_outcome}

pub record NineExactly (plan : List ℕ) (n : ℕ) : Type 0 where
  pub then_nine : is_count (length plan) ≡ false → n ≡ wrong_count
  pub only_then : n ≡ wrong_count → is_count (length plan) ≡ false

abbrev pub CountExactly : Type 0
CountExactly =
    (plan images a b c d es room : List ℕ)
    → NineExactly plan (check_of plan images a b c d)
    × NineExactly plan (run_outcome plan images a b c d es room).number
