-- SPDX-License-Identifier: Apache-2.0
-- The line of the next Clock, and of the one after it (01, Event bytes: "Bit 0 is the line: for a Clock,
-- low if the master or the device pulls it low"). All by the machine's own answers: the device pulls a Clock's line
-- exactly if the answer to event 3, the Clock at which the master does not pull it, has bit 0 clear.
--   pulls, pulls_of                  whether the device pulls the next Clock's line; and the one after it
--   told_by, line_of                  the same as one number, refusals too
--   LineSettled                     the entry's contract
use Rattle.std.specs.Prelude.{ℕ, ◌+◌, ◌%◌, ◌≡◌, Bool, cond, List, eqb, length, Option, Some, None}
use Rattle.numbers.specs.Numbers.{wrong_memory}
use Rattle.fm3130.specs.Chip.{memory_size}
use Rattle.fm3130.specs.Event.{event_of}
use Rattle.fm3130.specs.declared.State.{State}
use Rattle.fm3130_image.specs.Image.{decode_of}
use Rattle.fm3130_image.specs.Reading.{decoded_says}
use Rattle.fm3130_list.specs.Run.{answer_to}

-- Whether the device pulls a line low: of the next Clock; of the one after it, if the next is low, and if it is high.
pub record Pulls : Type 0 where
  pub next : Bool
  pub low : Bool
  pub high : Bool

-- The device pulls the next Clock's line low: bit 0 of the answer to event 3 would be 0.
unfoldable pub pulls : State → List ℕ → Bool
pulls s m = eqb (answer_to (event_of s m 3) % 2) 0

-- The same of the Clock after an event.
abbrev pub pulls_after : State → List ℕ → ℕ → Bool
pulls_after s m e = pulls (event_of s m e).state (event_of s m e).memory

-- The next Clock; the one after it, if the next is low (event 2), and if it is high (event 3).
abbrev pub pulls_of : State → List ℕ → Pulls
pulls_of s m = record { next = pulls s m; low = pulls_after s m 2; high = pulls_after s m 3 }

-- As one number: bit 8 the next Clock, bits 9 and 10 the one after it. Bits 0 to 7 are the number of 01's table.
abbrev pub told_by : Pulls → ℕ
told_by p = cond p.next 0x100 0 + cond p.low 0x200 0 + cond p.high 0x400 0

abbrev pub line_on : ℕ → Option State → List ℕ → ℕ
line_on n None m = n
line_on n (Some s) m = told_by (pulls_of s m)

-- "Checked in the order of the numbers."
unfoldable pub line_of : List ℕ → List ℕ → ℕ
line_of i m =
    let read = decoded_says (decode_of i) in
    cond (eqb (length m) memory_size) (line_on read.number read.returned m) wrong_memory

-- The contract of `fm3130_line`; it is lent both buffers to read.
abbrev pub LineSettled : List ℕ → List ℕ → ℕ → Type 0
LineSettled i m r = r ≡ line_of i m
