-- SPDX-License-Identifier: Apache-2.0
-- A valid calendar, as a test and as the limits of its seven fields: the two say the same.
use mathlib.Core.Path.{◌≡◌, sym}
use mathlib.Core.Bool.{Bool, true, false, ◌&&◌, and-true, and-false}
use mathlib.Core.List.{List, [], ◌∷◌}
use lib.Dec.{T}
use Rattle.calendar.specs.Field.{in_field}
use Rattle.calendar.specs.Next.{is_valid, length_of}
use Rattle.calendar.specs.declared.Calendar.{Calendar}
use Rattle.calendar.proofs.Tests.{Each, none, ◌also◌, joined_each, each_joined}
use Rattle.calendar.proofs.Field.{InField, in_field_facts, in_field_test}

pub record Valid (c : Calendar) : Type 0 where
  pub seconds : InField 0 59 c.seconds
  pub minutes : InField 0 59 c.minutes
  pub hours : InField 0 23 c.hours
  pub day : InField 1 7 c.day
  pub date : InField 1 (length_of c) c.date
  pub month : InField 1 12 c.month
  pub year : InField 0 99 c.year

abbrev valid_tests : Calendar → List Bool
valid_tests c =
    in_field 0 59 c.seconds ∷ in_field 0 59 c.minutes ∷ in_field 0 23 c.hours ∷ in_field 1 7 c.day
    ∷ in_field 1 (length_of c) c.date ∷ in_field 1 12 c.month ∷ in_field 0 99 c.year ∷ []

pub valid_facts : (c : Calendar) → T (is_valid c) → Valid c
unfolding is_valid
valid_facts c t = facts (joined_each (valid_tests c) t)
  where
    facts : Each (valid_tests c) → Valid c
    facts (seconds also minutes also hours also day also date also month also year also none) =
        record {
          seconds = in_field_facts 0 59 c.seconds seconds;
          minutes = in_field_facts 0 59 c.minutes minutes;
          hours = in_field_facts 0 23 c.hours hours;
          day = in_field_facts 1 7 c.day day;
          date = in_field_facts 1 (length_of c) c.date date;
          month = in_field_facts 1 12 c.month month;
          year = in_field_facts 0 99 c.year year;
        }

pub valid_test : (c : Calendar) → Valid c → T (is_valid c)
unfolding is_valid
valid_test c v =
    each_joined (valid_tests c)
    (in_field_test 0 59 c.seconds v.seconds
    also in_field_test 0 59 c.minutes v.minutes
    also in_field_test 0 23 c.hours v.hours
    also in_field_test 1 7 c.day v.day
    also in_field_test 1 (length_of c) c.date v.date
    also in_field_test 1 12 c.month v.month
    also in_field_test 0 99 c.year v.year
    also none)

-- the tests as they come one by one, the date and the month last
module _ (c : Calendar) where
  pub wrong_seconds : in_field 0 59 c.seconds ≡ false → false ≡ is_valid c
  unfolding is_valid
  wrong_seconds s = rw s

  module _ (s : in_field 0 59 c.seconds ≡ true) where
    pub wrong_minutes : in_field 0 59 c.minutes ≡ false → false ≡ is_valid c
    unfolding is_valid
    wrong_minutes m = rw (s, m)

    module _ (m : in_field 0 59 c.minutes ≡ true) where
      pub wrong_hours : in_field 0 23 c.hours ≡ false → false ≡ is_valid c
      unfolding is_valid
      wrong_hours h = rw (s, m, h)

      module _ (h : in_field 0 23 c.hours ≡ true) where
        pub wrong_day : in_field 1 7 c.day ≡ false → false ≡ is_valid c
        unfolding is_valid
        wrong_day d = rw (s, m, h, d)

        module _ (d : in_field 1 7 c.day ≡ true) where
          pub wrong_year : in_field 0 99 c.year ≡ false → false ≡ is_valid c
          unfolding is_valid
          wrong_year y =
              rw (s, m, h, d, y) (sym (and-false (in_field 1 (length_of c) c.date && in_field 1 12 c.month)))

          pub right_but_date : in_field 0 99 c.year ≡ true
              → (in_field 1 (length_of c) c.date && in_field 1 12 c.month) ≡ is_valid c
          unfolding is_valid
          right_but_date y =
              rw (s, m, h, d, y) (sym (and-true (in_field 1 (length_of c) c.date && in_field 1 12 c.month)))
