-- SPDX-License-Identifier: Apache-2.0
-- What the line's number tells, by the answer bytes of the list run (01, Event bytes: "Bit 0 is the line").
--   pulled      1 where the device pulls the line of a Clock at which the master leaves it high
--   LineTold    the number: 1 and 2 of 01's table, or bits 8 to 10
use Rattle.std.specs.Prelude.{ℕ, ◌+◌, ◌-◌, ◌*◌, ◌%◌, ◌≡◌, List, [], ◌∷◌, length, get_or}
use Rattle.fm3130.specs.declared.State.{State}
use Rattle.fm3130_image.specs.Reading.{WrittenBy}
use Rattle.fm3130_list.specs.Run.{run_of}
use Rattle.c_line.specs.Line.{line_of}

-- Bit 0 of the answer at a place is 0.
abbrev pub pulled : List ℕ → ℕ → ℕ
pulled answers k = 1 - get_or answers k 1 % 2

-- Bit 8: the next Clock, event 3. Bits 9 and 10: the Clock after it, where the next is event 2, and where it is event 3.
pub record LineTold (i m : List ℕ) : Type 0 where
  pub memory : (length m ≡ 8192 → ⊥) → line_of i m ≡ 1
  pub image : length m ≡ 8192 → ((s : State) → WrittenBy i s → ⊥) → line_of i m ≡ 2
  pub told : length m ≡ 8192 → (s : State) → WrittenBy i s → line_of i m
      ≡ 0x100 * pulled (run_of s m (3 ∷ [])).answers 0 + 0x200 * pulled (run_of s m (2 ∷ 3 ∷ [])).answers 1
      + 0x400 * pulled (run_of s m (3 ∷ 3 ∷ [])).answers 1

abbrev pub EveryLineTold : Type 0
EveryLineTold = (i m : List ℕ) → LineTold i m
