-- SPDX-License-Identifier: Apache-2.0
-- Round the century. 02, number 13: "An auditor asks whether the calendar can skip or repeat." docs/AUDIT.md puts this
-- page into words. `(next_of c).calendar` is one tick of the calendar c, and `after n c` is n of them (crate calendar).
--
--   century_ticks                how many ticks go round the century
--   DateAndTime, date_and_time    a calendar without its day of the week
--   day_on, places_on             a day of the week one place on, and several
--   NeverTwoToOne               no two valid calendars tick to the same one
--   BackAfterCentury            date and time come back after exactly a century
--   SixPlacesOn, SixPlaces      the day of the week has then moved on by six places; what that is for each day
--   Comes, NoneSkipped          every date and time comes within a century
--
use Rattle.std.specs.Prelude.{ℕ, zero, suc, ◌+◌, ◌≤◌, ◌<◌, ◌≡◌, true, cond, [], ◌∷◌, map, eqb}
use Rattle.calendar.specs.Next.{is_valid, next_of}
use Rattle.calendar.specs.After.{after}
use Rattle.calendar.specs.declared.Calendar.{Calendar}

-- 02, number 13: "3,155,760,000 ticks": 36,525 days of 86,400 seconds
abbrev pub century_ticks : ℕ
century_ticks = 3155760000

-- 02, number 13: "date and time": all of a calendar but its day of the week
pub record DateAndTime : Type 0 where
  pub seconds : ℕ
  pub minutes : ℕ
  pub hours : ℕ
  pub date : ℕ
  pub month : ℕ
  pub year : ℕ

abbrev pub date_and_time : Calendar → DateAndTime
date_and_time c =
    record {
      seconds = c.seconds;
      minutes = c.minutes;
      hours = c.hours;
      date = c.date;
      month = c.month;
      year = c.year;
    }

-- 01, Ticks, alarm, power: "the day goes 7 to 1 or one up": one place on
abbrev pub day_on : ℕ → ℕ
day_on day = cond (eqb day 7) 1 (day + 1)

-- Auxiliary: n places on
abbrev pub places_on : ℕ → ℕ → ℕ
places_on zero day = day
places_on (suc n) day = day_on (places_on n day)

-- 02, number 13: "on valid calendars the tick never takes two to the same one"
abbrev pub NeverTwoToOne : Type 0
NeverTwoToOne =
    (c d : Calendar) → is_valid c ≡ true → is_valid d ≡ true → (next_of c).calendar ≡ (next_of d).calendar → c ≡ d

-- 02, number 13: "date and time come back after exactly 3,155,760,000 ticks and not sooner": after so many they are the
-- same again, and after a smaller number, from 1 on, they are not
pub record BackAfterCentury : Type 0 where
  pub back : (c : Calendar) → is_valid c ≡ true → date_and_time (after century_ticks c) ≡ date_and_time c
  pub not_sooner :
      (c : Calendar) → is_valid c ≡ true
      → (n : ℕ) → 1 ≤ n → n < century_ticks → date_and_time (after n c) ≡ date_and_time c → ⊥

-- 02, number 13: "the day of the week has then moved on by six places"
abbrev pub SixPlacesOn : Type 0
SixPlacesOn = (c : Calendar) → is_valid c ≡ true → (after century_ticks c).day ≡ places_on 6 c.day

-- Auxiliary: where six places on are, for the days 1 to 7
abbrev pub SixPlaces : Type 0
SixPlaces = map (places_on 6) (1 ∷ 2 ∷ 3 ∷ 4 ∷ 5 ∷ 6 ∷ 7 ∷ []) ≡ 7 ∷ 1 ∷ 2 ∷ 3 ∷ 4 ∷ 5 ∷ 6 ∷ []

-- Auxiliary: after some number of ticks below a century's, the calendar c has the date and time of d
pub record Comes (c d : Calendar) : Type 0 where
  pub ticks : ℕ
  pub within : ticks < century_ticks
  pub there : date_and_time (after ticks c) ≡ date_and_time d

-- 02, number 13: "can skip": from any valid calendar on, the date and time of any other comes within a century
abbrev pub NoneSkipped : Type 0
NoneSkipped = (c d : Calendar) → is_valid c ≡ true → is_valid d ≡ true → Comes c d
