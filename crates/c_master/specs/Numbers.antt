-- SPDX-License-Identifier: Apache-2.0
-- The master's own numbers (02, number 1: "is refused by 1 to 5 of its own in that order, and nothing is written").
use Rattle.std.specs.Prelude.{ℕ}

abbrev pub accepted : ℕ
accepted = 0

-- "More than 256".
abbrev pub too_many : ℕ
too_many = 1

-- "A read of none".
abbrev pub read_of_none : ℕ
read_of_none = 2

-- "An address above 1FFFh".
abbrev pub wrong_address : ℕ
wrong_address = 3

-- "Too little room".
abbrev pub little_room : ℕ
little_room = 4

-- "Answers not as many as the events".
abbrev pub wrong_answers : ℕ
wrong_answers = 5

-- "At most 256 at a time".
abbrev pub most : ℕ
most = 256
