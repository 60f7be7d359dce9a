-- SPDX-License-Identifier: Apache-2.0
-- Mending an image (02, number 14: "A tool refuses an image by number 2, unchanged and with an empty list, and else puts
-- right registers 02h to 08h and, by itself but by the same rule, the core .. Everything else in the image stays").
-- `MendSettled` is its whole outcome.
--   mended_state                 a state put right
--   time_bytes, changes_in        its registers 02h to 08h; the list of those that were changed
--   Outcome, refused, written   all that a caller can see; a refusal; an image put right
--   on_decoded, mend_of           the tests in the order of the numbers
--   MendSettled                 the entry's contract
use Rattle.std.specs.Prelude.{ℕ, ◌≡◌, cond, List, ◌++◌, leb, length, drop, Option, Some, None, Result, Ok, Err}
use Rattle.calendar.specs.Mend.{mended_of}
use Rattle.fm3130_companion.specs.Change.{with_time}
use Rattle.fm3130_companion.specs.declared.Companion.{Companion}
use Rattle.numbers.specs.Numbers.{accepted, short_answers}
use Rattle.numbers.specs.Refusal.{number_of}
use Rattle.numbers.specs.declared.Refusal.{Refusal}
use Rattle.fm3130.specs.declared.State.{State}
use Rattle.fm3130_image.specs.Image.{calendar_bytes, image_of, decode_of}
use Rattle.fm3130_image.specs.Reading.{decoded_says}
use Rattle.c_mend.specs.Changes.{changes_from, changed_count}
use Rattle.c_mend.specs.declared.Mended.{Mended}

-- "Registers 02h to 08h and, by itself but by the same rule, the core."
abbrev pub mended_companion : Companion → Companion
mended_companion c =
    record {
      registers = with_time c.registers c.registers.control (mended_of c.registers.time);
      core = mended_of c.core;
      address = c.address;
    }

-- "Everything else .. stays", where a transfer stands too.
abbrev pub mended_state : State → State
mended_state s =
    record { power = s.power; phase = s.phase; address = s.address; companion = mended_companion s.companion }

-- Auxiliary: registers 02h to 08h.
abbrev pub time_bytes : State → List ℕ
time_bytes s = calendar_bytes s.companion.registers.time

-- "It lists each register changed"; the core is no register.
abbrev pub changes_in : State → List ℕ
changes_in s = changes_from 2 (time_bytes s) (time_bytes (mended_state s))

-- All that a caller of the entry can see of it.
pub record Outcome : Type 0 where
  pub number : ℕ
  pub count : ℕ
  pub image : List ℕ
  pub changes : List ℕ

-- "Unchanged and with an empty list."
abbrev pub refused : ℕ → List ℕ → List ℕ → Outcome
refused n i ch = record { number = n; count = 0; image = i; changes = ch }

-- The state put right, as an image; the list, and bytes past it as they were; how many registers were changed.
abbrev pub written : State → List ℕ → Outcome
written s ch =
    record {
      number = accepted;
      count = changed_count (time_bytes s) (time_bytes (mended_state s));
      image = image_of (mended_state s);
      changes = changes_in s ++ drop (length (changes_in s)) ch;
    }

-- Refused by 4 where fewer bytes are lent than the list has.
abbrev pub on_decoded : ℕ → Option State → List ℕ → List ℕ → Outcome
on_decoded n None i ch = refused n i ch
on_decoded n (Some s) i ch = cond (leb (length (changes_in s)) (length ch)) (written s ch) (refused short_answers i ch)

-- "Refuses an image by number 2 .. and else": image and lent bytes to the whole outcome.
unfoldable pub mend_of : List ℕ → List ℕ → Outcome
mend_of i ch = let read = decoded_says (decode_of i) in on_decoded read.number read.returned i ch

-- What a host program is told: under 0 how many registers were changed, or the refusal's number and a count of 0.
abbrev pub mended_told : Result ℕ Refusal → Mended
mended_told (Ok n) = record { number = accepted; count = n }
mended_told (Err r) = record { number = number_of r; count = 0 }

-- Auxiliary: what a call returned and left, as an outcome.
abbrev pub outcome_with : Mended → List ℕ → List ℕ → Outcome
outcome_with r i ch = record { number = r.number; count = r.count; image = i; changes = ch }

-- The contract of `fm3130_mend`: what it returns and leaves in the buffers is `mend_of` of what it was given.
abbrev pub MendSettled : List ℕ → List ℕ → Mended → List ℕ → List ℕ → Type 0
MendSettled i ch r i' ch' = outcome_with r i' ch' ≡ mend_of i ch
