-- SPDX-License-Identifier: Apache-2.0
-- 02, number 14: "then a date beyond its month's end goes to the last day", as one list of cases in bytes.
--   Case            a month, a year, a date, and the date put right
--   late            the thirty-first of each month of a common year
--   february        the end of February, in years that divide by 4 and in others
--   figures         dates that are none; months that are none, which are then January
--   DatesMended     all of them, whatever the time of day and the day of the week
use Rattle.std.specs.Prelude.{ℕ, ◌≡◌, List, [], ◌∷◌, ◌++◌, map}
use Rattle.calendar.specs.Mend.{mended_of}

pub record Case : Type 0 where
  pub month : ℕ
  pub year : ℕ
  pub date : ℕ
  pub mended : ℕ

-- Auxiliary: a case in short: date, month, year, and what the date becomes.
abbrev pub on : ℕ → ℕ → ℕ → ℕ → Case
on date month year mended = record { month = month; year = year; date = date; mended = mended }

abbrev pub late : List Case
late =
    on 0x31 0x01 0x09 0x31 ∷ on 0x31 0x02 0x09 0x28 ∷ on 0x31 0x03 0x09 0x31 ∷ on 0x31 0x04 0x09 0x30
    ∷ on 0x31 0x05 0x09 0x31 ∷ on 0x31 0x06 0x09 0x30 ∷ on 0x31 0x07 0x09 0x31 ∷ on 0x31 0x08 0x09 0x31
    ∷ on 0x31 0x09 0x09 0x30 ∷ on 0x31 0x10 0x09 0x31 ∷ on 0x31 0x11 0x09 0x30 ∷ on 0x31 0x12 0x09 0x31 ∷ []

abbrev pub february : List Case
february =
    on 0x30 0x02 0x00 0x29 ∷ on 0x30 0x02 0x08 0x29 ∷ on 0x30 0x02 0x96 0x29 ∷ on 0x29 0x02 0x08 0x29
    ∷ on 0x29 0x02 0x09 0x28 ∷ on 0x29 0x02 0x10 0x28 ∷ on 0x30 0x02 0x99 0x28 ∷ on 0x28 0x02 0x09 0x28
    ∷ on 0x30 0x02 0x9A 0x29 ∷ []

abbrev pub figures : List Case
figures =
    on 0x00 0x04 0x09 0x01 ∷ on 0x32 0x04 0x09 0x01 ∷ on 0x1A 0x04 0x09 0x01 ∷ on 0x30 0x04 0x09 0x30
    ∷ on 0x31 0x00 0x09 0x31 ∷ on 0x31 0x13 0x09 0x31 ∷ on 0x31 0x0A 0x09 0x31 ∷ []

-- Auxiliary: the date of a case put right, at a time of day and on a day of the week.
abbrev pub put_right : ℕ → ℕ → ℕ → ℕ → Case → ℕ
put_right seconds minutes hours day k =
    (mended_of (record {
      seconds = seconds;
      minutes = minutes;
      hours = hours;
      day = day;
      date = k.date;
      month = k.month;
      year = k.year;
    })).date

abbrev pub cases : List Case
cases = late ++ (february ++ figures)

abbrev pub DatesMended : Type 0
DatesMended =
    (seconds minutes hours day : ℕ) → map (put_right seconds minutes hours day) cases ≡ map (λ (k : Case). k.mended) cases
