-- SPDX-License-Identifier: Apache-2.0
-- What the mending entry does, by the bytes of the image (02, number 14). The places are those of docs/IMAGE.md: registers
-- 02h to 08h are bytes 2 to 8, the core is bytes 15 to 21.
--   Elsewhere, EverythingElseStays    "Everything else in the image stays"
--   EachByItself                      registers and core, each put right by itself
--   OutputValid                       "the output is always valid"
--   ListsWhatChanged                  the list and the count are those of all fifteen registers, before and after
--   ThreeBytesEach                    the list has three bytes for each register that it counts
--   AlwaysEnough, NoMoreWritten       room for every list: so many bytes are always enough, and none past them is written
--   AllNeeded                         and not one byte fewer is
--   ValidGivesNone, ValidStays        "Valid registers give an empty list"; a valid image stays
--   TwiceIsOnce                       "running it twice changes nothing more"
use Rattle.std.specs.Prelude.{ℕ, ◌*◌, ◌≤◌, ◌<◌, ◌≡◌, List, T, length, take, drop}
use Rattle.calendar.specs.Next.{is_valid}
use Rattle.calendar.specs.Mend.{mended_of}
use Rattle.calendar.specs.declared.Calendar.{Calendar}
use Rattle.fm3130_companion.specs.Change.{with_time, with_registers}
use Rattle.numbers.specs.Numbers.{accepted, short_answers}
use Rattle.fm3130.specs.Code.Bus.{with_companion}
use Rattle.fm3130.specs.Power.{fresh}
use Rattle.fm3130.specs.declared.State.{State}
use Rattle.fm3130_image.specs.Places.{SECONDS_AT, CORE_SECONDS_AT}
use Rattle.fm3130_image.specs.Image.{calendar_at, image_of}
use Rattle.fm3130_image.specs.Reading.{WrittenBy}
use Rattle.c_mend.specs.Changes.{changes_from, changed_count}
use Rattle.c_mend.specs.Mend.{mended_state, refused, mend_of}

-- The calendar that the registers of an image hold, and its core.
abbrev pub registers_in : List ℕ → Calendar
registers_in i = calendar_at i SECONDS_AT

abbrev pub core_in : List ℕ → Calendar
core_in i = calendar_at i CORE_SECONDS_AT

-- Two images agree in every byte but 2 to 8 and 15 to 21.
pub record Elsewhere (i i' : List ℕ) : Type 0 where
  pub all : length i' ≡ length i
  pub front : take 2 i' ≡ take 2 i
  pub between : take 6 (drop 9 i') ≡ take 6 (drop 9 i)
  pub rest : drop 22 i' ≡ drop 22 i

-- Whatever was given, refused or not, in the middle of a transfer too: bytes 22 to 29 are where it stands.
abbrev pub EverythingElseStays : Type 0
EverythingElseStays = (i ch : List ℕ) → Elsewhere i (mend_of i ch).image

-- Neither of the two calendars depends on the other.
abbrev pub EachByItself : Type 0
EachByItself =
    (i ch : List ℕ) → (mend_of i ch).number ≡ accepted
    → (registers_in (mend_of i ch).image ≡ mended_of (registers_in i)) × (core_in (mend_of i ch).image ≡ mended_of (core_in i))

abbrev pub OutputValid : Type 0
OutputValid =
    (i ch : List ℕ) → (mend_of i ch).number ≡ accepted
    → T (is_valid (registers_in (mend_of i ch).image)) × T (is_valid (core_in (mend_of i ch).image))

-- Of all fifteen registers, numbered from 00h on: what stands at the front of the lent bytes; those past it stay.
pub record Listed (i ch i' ch' : List ℕ) (count : ℕ) : Type 0 where
  pub list : take (3 * count) ch' ≡ changes_from 0 (take 15 i) (take 15 i')
  pub past : drop (3 * count) ch' ≡ drop (3 * count) ch
  pub counted : count ≡ changed_count (take 15 i) (take 15 i')

abbrev pub ListsWhatChanged : Type 0
ListsWhatChanged =
    (i ch : List ℕ) → Listed i ch (mend_of i ch).image (mend_of i ch).changes (mend_of i ch).count

abbrev pub ThreeBytesEach : Type 0
ThreeBytesEach = (n : ℕ) (xs ys : List ℕ) → length (changes_from n xs ys) ≡ 3 * changed_count xs ys

-- Room for every list: seven registers, three bytes each.
abbrev pub room : ℕ
room = 21

-- With so many bytes lent no image, accepted or not, is refused for want of room.
abbrev pub AlwaysEnough : Type 0
AlwaysEnough = (i ch : List ℕ) → room ≤ length ch → (mend_of i ch).number ≡ short_answers → ⊥

-- Whatever is lent.
abbrev pub NoMoreWritten : Type 0
NoMoreWritten = (i ch : List ℕ) → drop room (mend_of i ch).changes ≡ drop room ch

-- A state whose calendar registers are all out of range on their own.
abbrev pub impossible : State
impossible =
    with_companion fresh
    (with_registers fresh.companion
    (with_time fresh.companion.registers 0
    (record { seconds = 0x7F; minutes = 0x7F; hours = 0x3F; day = 0; date = 0; month = 0; year = 0xFF })))

-- Its image is refused for want of room with any fewer.
abbrev pub AllNeeded : Type 0
AllNeeded =
    (ch : List ℕ) → length ch < room → mend_of (image_of impossible) ch ≡ refused short_answers (image_of impossible) ch

-- Of every image that 01 accepts; no byte need be lent then, and the core is put right where it is invalid.
abbrev pub ValidGivesNone : Type 0
ValidGivesNone =
    (i ch : List ℕ) (s : State) → WrittenBy i s → T (is_valid (registers_in i))
    → mend_of i ch ≡ record { number = accepted; count = 0; image = image_of (mended_state s); changes = ch }

-- Where the core is valid too, nothing at all is changed.
abbrev pub ValidStays : Type 0
ValidStays =
    (i ch : List ℕ) (s : State) → WrittenBy i s → T (is_valid (registers_in i)) → T (is_valid (core_in i))
    → mend_of i ch ≡ record { number = accepted; count = 0; image = i; changes = ch }

-- The output is accepted again, with whatever is lent, and stays; nothing is listed.
abbrev pub TwiceIsOnce : Type 0
TwiceIsOnce =
    (i ch ch₂ : List ℕ) → (mend_of i ch).number ≡ accepted
    → mend_of (mend_of i ch).image ch₂
    ≡ record { number = accepted; count = 0; image = (mend_of i ch).image; changes = ch₂ }
