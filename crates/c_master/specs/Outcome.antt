-- SPDX-License-Identifier: Apache-2.0
-- The whole outcomes of the master's four entries (02, number 1: "More than 256, a read of none, an address above 1FFFh, too
-- little room, or answers not as many as the events is refused by 1 to 5 of its own in that order, and nothing is written").
--   Outcome, refused, filled                all that a caller can see; a refusal; an answer
--   write_events_of, read_events_of             the events of a write, of a read
--   write_told_of, read_told_of                 what their answers say
--   WriteEventsSettled .. ReadToldSettled   the entries' contracts
use Rattle.std.specs.Prelude.{ℕ, ◌≡◌, cond, List, ◌++◌, eqb, leb, ltb, length, drop}
use Rattle.fm3130.specs.Chip.{memory_size}
use Rattle.wire_clocks.specs.Clocks.{lines_of}
use Rattle.c_master.specs.Numbers.{accepted, too_many, read_of_none, wrong_address, little_room, wrong_answers, most}
use Rattle.wire_clocks.specs.Events.{write_events, read_events, write_count, read_count}
use Rattle.c_master.specs.Told.{flags_of, bytes_of}
use Rattle.c_master.specs.declared.Filled.{Filled}

-- What a caller of an entry can see of it: the number, how many bytes were written, and the lent buffer.
pub record Outcome : Type 0 where
  pub number : ℕ
  pub count : ℕ
  pub buffer : List ℕ

-- "Nothing is written."
abbrev pub refused : ℕ → List ℕ → Outcome
refused n e = record { number = n; count = 0; buffer = e }

-- The buffer's front is written, the rest stays.
abbrev pub filled : List ℕ → List ℕ → Outcome
filled xs e = record { number = accepted; count = length xs; buffer = xs ++ drop (length xs) e }

-- A write of none is accepted: it sets the address.
unfoldable pub write_events_of : ℕ → List ℕ → List ℕ → Outcome
write_events_of a bs e =
    cond (leb (length bs) most)
    (cond (ltb a memory_size)
    (cond (leb (write_count (length bs)) (length e)) (filled (write_events a bs) e) (refused little_room e))
    (refused wrong_address e))
    (refused too_many e)

unfoldable pub read_events_of : ℕ → ℕ → List ℕ → Outcome
read_events_of a n e =
    cond (leb n most)
    (cond (eqb n 0) (refused read_of_none e)
    (cond (ltb a memory_size)
    (cond (leb (read_count n) (length e)) (filled (read_events a n) e) (refused little_room e))
    (refused wrong_address e)))
    (refused too_many e)

-- Of a write of n data bytes.
unfoldable pub write_told_of : ℕ → List ℕ → List ℕ → Outcome
write_told_of n answers e =
    cond (leb n most)
    (cond (leb n (length e))
    (cond (eqb (length answers) (write_count n)) (filled (flags_of n (lines_of answers)) e) (refused wrong_answers e))
    (refused little_room e))
    (refused too_many e)

-- Of a read of n data bytes. Room is asked for all of them, though none may have been read.
unfoldable pub read_told_of : ℕ → List ℕ → List ℕ → Outcome
read_told_of n answers e =
    cond (leb n most)
    (cond (eqb n 0) (refused read_of_none e)
    (cond (leb n (length e))
    (cond (eqb (length answers) (read_count n)) (filled (bytes_of n (lines_of answers)) e) (refused wrong_answers e))
    (refused little_room e)))
    (refused too_many e)

-- Auxiliary: what a call returned and left, as an outcome.
abbrev pub outcome_with : Filled → List ℕ → Outcome
outcome_with r e = record { number = r.number; count = r.count; buffer = e }

-- The contracts: what an entry returns and leaves in the lent buffer is one definition of what it was given.
abbrev pub WriteEventsSettled : ℕ → List ℕ → List ℕ → Filled → List ℕ → Type 0
WriteEventsSettled a bs e r e' = outcome_with r e' ≡ write_events_of a bs e

abbrev pub ReadEventsSettled : ℕ → ℕ → List ℕ → Filled → List ℕ → Type 0
ReadEventsSettled a n e r e' = outcome_with r e' ≡ read_events_of a n e

abbrev pub WriteToldSettled : ℕ → List ℕ → List ℕ → Filled → List ℕ → Type 0
WriteToldSettled n answers e r e' = outcome_with r e' ≡ write_told_of n answers e

abbrev pub ReadToldSettled : ℕ → List ℕ → List ℕ → Filled → List ℕ → Type 0
ReadToldSettled n answers e r e' = outcome_with r e' ≡ read_told_of n answers e
