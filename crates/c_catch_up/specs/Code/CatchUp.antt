-- SPDX-License-Identifier: Apache-2.0
-- Many ticks on the bytes of an image, as the code does them.
--   alarm_at, followed_on   bytes 9 to 13 as an alarm; bytes 2 to 8 take a core, unless R or W is 1
--   CountedOn             ticks that count, on a state's image
use Rattle.std.specs.Prelude.{ℕ, ◌≡◌, cond, ◌||◌, List, get_or}
use Rattle.std.proofs.lemmas.List.Edits.{sets}
use Rattle.bits.specs.Weight.{has}
use Rattle.calendar.specs.declared.Calendar.{Calendar}
use Rattle.fm3130_registers.specs.Map.{W, R}
use Rattle.fm3130_companion.specs.declared.Alarm.{Alarm}
use Rattle.fm3130.specs.Code.Bus.{with_companion}
use Rattle.fm3130.specs.declared.State.{State}
use Rattle.fm3130_image.specs.Image.{calendar_bytes, image_of}
use Rattle.c_catch_up.specs.Code.Ticks.{caught_of}

-- Auxiliary: five bytes of an image.
abbrev pub alarm_at : List ℕ → Alarm
alarm_at i =
    record {
      seconds = get_or i 9 0;
      minutes = get_or i 10 0;
      hours = get_or i 11 0;
      date = get_or i 12 0;
      month = get_or i 13 0;
    }

-- Auxiliary: what `fm3130_registers/specs/Control.followed` says of 02h to 08h, on an image.
abbrev pub followed_on : ℕ → Calendar → List ℕ → List ℕ
followed_on control core i = cond (has control W || has control R) i (sets i 2 (calendar_bytes core))

-- Auxiliary: the image of a state becomes that of the state after n ticks that count.
abbrev pub CountedOn : ℕ → List ℕ → List ℕ → Type 0
CountedOn n i i' = (s : State) → i ≡ image_of s → i' ≡ image_of (with_companion s (caught_of n s.companion))
