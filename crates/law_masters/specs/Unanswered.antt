-- SPDX-License-Identifier: Apache-2.0
-- 02, number 1: "given the answer bytes, it says which data bytes were acknowledged, or which bytes were read (none if a slave or
-- address byte went unacknowledged)". By the answer bytes themselves: after the Start at place 0 the ninth clocks of the slave byte
-- and of the two address bytes stand at 9, 18 and 27, that of a read's second slave byte at 37; bit 0 of an answer is the line.
--   Opening, OpeningRead   the places of those ninth clocks
--   NothingWritten         where one of them is high, of a write every flag is 0
--   NothingRead            of a read no byte is given
use Rattle.std.specs.Prelude.{ℕ, ◌+◌, ◌*◌, ◌%◌, ◌≤◌, ◌≡◌, List, ◌++◌, length, get_or, drop, replicate}
use Rattle.c_master.specs.Outcome.{write_told_of, read_told_of}

pub data Opening : ℕ → Type 0 where
  slave : Opening 9
  high : Opening 18
  low : Opening 27

pub data OpeningRead : ℕ → Type 0 where
  first : {k : ℕ} → Opening k → OpeningRead k
  second : OpeningRead 37

-- An answer that is not there counts as one with the line at rest, high.
abbrev pub NothingWritten : Type 0
NothingWritten =
    (n k : ℕ) (answers e : List ℕ) → n ≤ 256 → n ≤ length e → length answers ≡ 29 + 9 * n
    → Opening k → get_or answers k 1 % 2 ≡ 1
    → write_told_of n answers e ≡ record { number = 0; count = n; buffer = replicate n 0 ++ drop n e }

abbrev pub NothingRead : Type 0
NothingRead =
    (n k : ℕ) (answers e : List ℕ) → 1 ≤ n → n ≤ 256 → n ≤ length e → length answers ≡ 39 + 9 * n
    → OpeningRead k → get_or answers k 1 % 2 ≡ 1 → read_told_of n answers e ≡ record { number = 0; count = 0; buffer = e }
