-- SPDX-License-Identifier: Apache-2.0
-- What every call that is lent an image and the memory tests first (01, Entries and refusal numbers: the first number that
-- fits).
use Rattle.std.specs.Prelude.{ℕ, cond, List, eqb, length, Result, Ok, Err}
use Rattle.numbers.specs.declared.Refusal.{Refusal}
use Rattle.numbers.specs.declared.Refusal.TheVariants.{WrongMemory, WrongState}
use Rattle.fm3130.specs.Chip.{memory_size}
use Rattle.fm3130_image.specs.Code.Accepting.{is_image}

-- Number 1, the memory's length; then number 2, the image.
abbrev pub admitted : List ℕ → List ℕ → Result (Unit {0}) Refusal
admitted i m = cond (eqb (length m) memory_size) (cond (is_image i) (Ok tt) (Err WrongState)) (Err WrongMemory)
