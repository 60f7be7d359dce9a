-- SPDX-License-Identifier: Apache-2.0
-- The bits that the registers store, as a test and as facts; a valid calendar is within them, and the tick keeps any
-- calendar within them: a valid one goes to a valid one, an invalid one stays. Each field's byte is at most its
-- greatest number's byte.
use mathlib.Core.Path.{◌≡◌, refl}
use mathlib.Core.Bool.{Bool, true, false}
use mathlib.Core.List.{List, [], ◌∷◌}
use Prim.Native.Nat.{ℕ, ◌<◌}
use native.Mathlib.Omega.{arith}
use lib.Dec.{T, ltb, ltb→lt, lt→ltb}
use Rattle.calendar.specs.Field.{value, bcd}
use Rattle.calendar.specs.Next.{is_valid, next_of}
use Rattle.calendar.specs.Width.{is_within}
use Rattle.calendar.specs.declared.Calendar.{Calendar}
use Rattle.calendar.proofs.Tests.{test_true, true_test, Each, none, ◌also◌, joined_each, each_joined}
use Rattle.calendar.proofs.Field.{InField, in_field_le}
use Rattle.calendar.proofs.Month.{month_length_limits}
use Rattle.calendar.proofs.Valid.{Valid, valid_facts}
use Rattle.calendar.proofs.Next.{next_valid, next_of_invalid}

pub record Within (c : Calendar) : Type 0 where
  pub seconds : c.seconds < 128
  pub minutes : c.minutes < 128
  pub hours : c.hours < 64
  pub day : c.day < 8
  pub date : c.date < 64
  pub month : c.month < 32

abbrev within_tests : Calendar → List Bool
within_tests c =
    ltb c.seconds 128 ∷ ltb c.minutes 128 ∷ ltb c.hours 64 ∷ ltb c.day 8 ∷ ltb c.date 64
    ∷ ltb c.month 32 ∷ []

pub within_facts : (c : Calendar) → is_within c ≡ true → Within c
unfolding is_within
within_facts c h = facts (joined_each (within_tests c) (true_test (is_within c) h))
  where
    facts : Each (within_tests c) → Within c
    facts (seconds also minutes also hours also day also date also month also none) =
        record {
          seconds = ltb→lt c.seconds 128 seconds;
          minutes = ltb→lt c.minutes 128 minutes;
          hours = ltb→lt c.hours 64 hours;
          day = ltb→lt c.day 8 day;
          date = ltb→lt c.date 64 date;
          month = ltb→lt c.month 32 month;
        }

pub within_test : (c : Calendar) → Within c → is_within c ≡ true
unfolding is_within
within_test c w =
    test_true (is_within c)
    (each_joined (within_tests c)
    (lt→ltb c.seconds 128 w.seconds
    also lt→ltb c.minutes 128 w.minutes
    also lt→ltb c.hours 64 w.hours
    also lt→ltb c.day 8 w.day
    also lt→ltb c.date 64 w.date
    also lt→ltb c.month 32 w.month
    also none))

-- a field whose greatest number's byte is below a limit is below it
field_below : (low top x n : ℕ) → InField low top x → bcd top < n → x < n
field_below low top x n f h = omega (arith, in_field_le low top x f)

-- a date is at most 31, whatever the month
date_below : (c : Calendar) → Valid c → c.date < 64
date_below c v =
    let l = month_length_limits (value c.month) (value c.year) v.month.least v.month.most in
    let d = v.date in
    field_below 1 31 c.date 64 (record { digit = d.digit; least = d.least; most = omega (arith, d.most) })
    (omega arith)

pub valid_within : (c : Calendar) → T (is_valid c) → is_within c ≡ true
valid_within c h =
    let v = valid_facts c h in
    within_test c
    (record {
      seconds = field_below 0 59 c.seconds 128 v.seconds (omega arith);
      minutes = field_below 0 59 c.minutes 128 v.minutes (omega arith);
      hours = field_below 0 23 c.hours 64 v.hours (omega arith);
      day = field_below 1 7 c.day 8 v.day (omega arith);
      date = date_below c v;
      month = field_below 1 12 c.month 32 v.month (omega arith);
    })

pub next_within : (c : Calendar) → is_within c ≡ true → is_within (next_of c).calendar ≡ true
next_within c w = by_validity (is_valid c) refl
  where
    by_validity : (b : Bool) → is_valid c ≡ b → is_within (next_of c).calendar ≡ true
    by_validity true e = valid_within (next_of c).calendar (next_valid c (true_test (is_valid c) e))
    by_validity false e = rw (next_of_invalid c e).0 w
