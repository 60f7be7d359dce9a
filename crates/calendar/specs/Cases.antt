-- SPDX-License-Identifier: Apache-2.0
-- K1 to K7 of 01, The table to prove: the list of the calendar's cases, and what it means that a case holds. 01
-- leaves some fields of K2 to K7 open, and there each case takes one value.
--
--   Case                a calendar, what one tick makes of it, and CF
--   K1 .. K7, cases     01's cases, and the list of them
--   Holds, AllHold      the tick does as a case says; as each case of a list says
--
use Rattle.std.specs.Prelude.{ℕ, ◌≡◌, Bool, true, false, List, [], ◌∷◌}
use Rattle.calendar.specs.Next.{next_of}
use Rattle.calendar.specs.declared.Calendar.{Calendar}

-- Auxiliary: a calendar, what one tick makes of it, and whether that sets CF
pub record Case : Type 0 where
  pub from : Calendar
  pub to : Calendar
  pub century : Bool

-- Auxiliary: a calendar from its bytes in the order of 01's table: hours, minutes, seconds; date, month, year; day
abbrev pub on : ℕ → ℕ → ℕ → ℕ → ℕ → ℕ → ℕ → Calendar
on hours minutes seconds date month year day =
    record {
      seconds = seconds;
      minutes = minutes;
      hours = hours;
      day = day;
      date = date;
      month = month;
      year = year;
    }

-- Auxiliary: the last second of a day, and the first
abbrev pub last_of : ℕ → ℕ → ℕ → ℕ → Calendar
last_of = on 0x23 0x59 0x59

abbrev pub first_of : ℕ → ℕ → ℕ → ℕ → Calendar
first_of = on 0x00 0x00 0x00

-- 01, K1: "23:59:59, 31/12/99, day 7 goes to 00:00:00, 01/01/00, day 1, CF set"
abbrev pub K1 : Case
K1 = record { from = on 0x23 0x59 0x59 0x31 0x12 0x99 7; to = on 0x00 0x00 0x00 0x01 0x01 0x00 1; century = true }

-- 01, K2: "last second of 28/02/08 goes to 29/02/08"
abbrev pub K2 : Case
K2 = record { from = last_of 0x28 0x02 0x08 4; to = first_of 0x29 0x02 0x08 5; century = false }

-- 01, K3: "last second of 28/02/09 goes to 01/03/09"
abbrev pub K3 : Case
K3 = record { from = last_of 0x28 0x02 0x09 6; to = first_of 0x01 0x03 0x09 7; century = false }

-- 01, K4: "last second of 29/02/00 goes to 01/03/00"
abbrev pub K4 : Case
K4 = record { from = last_of 0x29 0x02 0x00 2; to = first_of 0x01 0x03 0x00 3; century = false }

-- 01, K5: "seconds 09h go to 10h"
abbrev pub K5 : Case
K5 =
    record {
      from = on 0x12 0x34 0x09 0x15 0x06 0x24 6;
      to = on 0x12 0x34 0x10 0x15 0x06 0x24 6;
      century = false;
    }

-- 01, K6: "19:59:59 goes to 20:00:00"
abbrev pub K6 : Case
K6 =
    record {
      from = on 0x19 0x59 0x59 0x15 0x06 0x24 6;
      to = on 0x20 0x00 0x00 0x15 0x06 0x24 6;
      century = false;
    }

-- 01, K7: "31/04 stays"
abbrev pub K7 : Case
K7 =
    record {
      from = on 0x12 0x00 0x00 0x31 0x04 0x24 3;
      to = on 0x12 0x00 0x00 0x31 0x04 0x24 3;
      century = false;
    }

-- 01, The table to prove: "one list of cases", of which these are the calendar's
abbrev pub cases : List Case
cases = K1 ∷ K2 ∷ K3 ∷ K4 ∷ K5 ∷ K6 ∷ K7 ∷ []

-- Auxiliary: a case holds if the tick gives its calendar and its CF
abbrev pub Holds : Case → Type 0
Holds k = ((next_of k.from).calendar ≡ k.to) × ((next_of k.from).century ≡ k.century)

-- 01, The table to prove: "together as a single statement"
abbrev pub AllHold : List Case → Type 0
AllHold [] = Unit {0}
AllHold (k ∷ ks) = Holds k × AllHold ks
