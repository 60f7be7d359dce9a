-- SPDX-License-Identifier: Apache-2.0
-- Catching up (02, number 7): many ticks on a state's image in one call. `CatchUpSettled` is the entry's whole outcome.
--   ticks, caught_up      n events of byte 4; the state that they lead to as a list
--   caught_on, catch_up_of  the tests in the order of the numbers
--   CatchUpSettled       the entry's contract
use Rattle.std.specs.Prelude.{ℕ, ◌≡◌, cond, List, [], leb, replicate, Option, Some, None}
use Rattle.calendar_days.specs.After.{most_ticks}
use Rattle.numbers.specs.Numbers.{accepted, too_many_ticks}
use Rattle.fm3130.specs.declared.State.{State}
use Rattle.fm3130_image.specs.Image.{image_of, decode_of}
use Rattle.fm3130_image.specs.Reading.{decoded_says}
use Rattle.fm3130_image.specs.Made.{Made}
use Rattle.fm3130_list.specs.Run.{run_of}

-- 01, Event bytes and answer bytes: "4 one-second tick": n of them.
abbrev pub ticks : ℕ → List ℕ
ticks n = replicate n 4

-- "Exactly as n single ticks would": the state that the list run of n ticks leads to. A tick touches no memory, so none is
-- lent here; `Laws.AsTheListRun` says it for every memory.
unfoldable pub caught_up : ℕ → State → State
caught_up n s = (run_of s [] (ticks n)).state

-- "Refused by number 8, after number 2, and changes nothing."
abbrev pub caught_on : ℕ → Option State → List ℕ → ℕ → Made
caught_on r None i n = record { number = r; image = i }
caught_on r (Some s) i n =
    cond (leb n most_ticks)
    (record { number = accepted; image = image_of (caught_up n s) })
    (record { number = too_many_ticks; image = i })

-- Image and number of ticks to the whole outcome.
unfoldable pub catch_up_of : List ℕ → ℕ → Made
catch_up_of i n = let read = decoded_says (decode_of i) in caught_on read.number read.returned i n

-- The contract of `fm3130_catch_up`: what it returns and leaves is `catch_up_of` of what it was given.
abbrev pub CatchUpSettled : List ℕ → ℕ → ℕ → List ℕ → Type 0
CatchUpSettled i n r i' = record { number = r; image = i' } ≡ catch_up_of i n
