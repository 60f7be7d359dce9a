-- SPDX-License-Identifier: Apache-2.0
-- What the loop that writes the list leaves: a list stands at a place of a buffer, and nothing else of it was changed.
use Rattle.std.specs.Prelude.{ℕ, ◌+◌, ◌≡◌, List, ◌++◌, length, take, drop}

-- Auxiliary: the list l was written at a place: the place after it, what stands before that, and all past it as it was.
pub record WrittenAt (l : List ℕ) (at : ℕ) (ch : List ℕ) (r : ℕ) (ch' : List ℕ) : Type 0 where
  pub place : r ≡ at + length l
  pub front : take r ch' ≡ take at ch ++ l
  pub rest : drop r ch' ≡ drop r ch
  pub same : length ch' ≡ length ch
