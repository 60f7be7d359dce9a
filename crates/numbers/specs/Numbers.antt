-- SPDX-License-Identifier: Apache-2.0
-- The numbers of 01's table (01, Entries and refusal numbers), each in the words of its line, and those of 02. All entries of
-- all parts give these.
use Rattle.std.specs.Prelude.{ℕ}

-- "none below"
abbrev pub accepted : ℕ
accepted = 0

-- "memory is not 8,192 bytes"; 02, number 5: "Number 1 then means the wrong length for the chosen size"
abbrev pub wrong_memory : ℕ
wrong_memory = 1

-- "image is not 64 bytes, or no well-formed state writes it ..; for a state by value, outside the limits below"
abbrev pub wrong_state : ℕ
wrong_state = 2

-- "some event byte is above 7"; 02, number 5: "number 3 starts at 10 for this part"
abbrev pub unknown_event : ℕ
unknown_event = 3

-- "answers shorter than events"
abbrev pub short_answers : ℕ
short_answers = 4

-- "viewer: selector neither 0 (memory) nor 1 (registers)"
abbrev pub unknown_selector : ℕ
unknown_selector = 5

-- "viewer: start + length (exact sum) passes the end of the chosen bytes"
abbrev pub past_the_end : ℕ
past_the_end = 6

-- 02, number 8: "an ask while the other holds it, or a call with any event 0 to 3 by a master that does not hold it as the
-- call begins, is refused with a new number 7"
abbrev pub not_held : ℕ
not_held = 7

-- 02, number 7: "a larger n is refused by number 8"
abbrev pub too_many_ticks : ℕ
too_many_ticks = 8

-- 02, number 12: "Up to four devices": a count that is not 1 to 4.
abbrev pub wrong_count : ℕ
wrong_count = 9

-- 02, number 12: "Equal selects .. are refused when the set is made".
abbrev pub equal_selects : ℕ
equal_selects = 10

-- 02, number 12: "or a device not between transfers".
abbrev pub in_transfer : ℕ
in_transfer = 11
