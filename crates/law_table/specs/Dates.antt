-- SPDX-License-Identifier: Apache-2.0
-- 02, number 6: "A core can then be invalid only by an image or state handed in", of the bytes of images: the core is bytes 15
-- to 21 (docs/IMAGE.md).
--   DateIn                           an image's core is a date and a time that exist
--   CallStaysValid, CallsStayValid   a call of the list run, and calls one after the other, whatever their numbers
use Rattle.std.specs.Prelude.{ℕ, ◌≡◌, true, List}
use Rattle.calendar.specs.Next.{is_valid}
use Rattle.fm3130_image.specs.Places.{CORE_SECONDS_AT}
use Rattle.fm3130_image.specs.Image.{calendar_at}
use Rattle.bus_list.specs.Calls.{Call, calls_of}
use Rattle.fm3130_list.specs.Run.{outcome_of}

abbrev pub DateIn : List ℕ → Type 0
DateIn i = is_valid (calendar_at i CORE_SECONDS_AT) ≡ true

abbrev pub CallStaysValid : Type 0
CallStaysValid = (i m es a : List ℕ) → DateIn i → DateIn (outcome_of i m es a).image

abbrev pub CallsStayValid : Type 0
CallsStayValid = (i m : List ℕ) (cs : List Call) → DateIn i → DateIn (calls_of outcome_of i m cs).image
