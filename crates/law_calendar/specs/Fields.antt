-- SPDX-License-Identifier: Apache-2.0
-- 02, number 14: "each field that is out of range on its own goes to its lowest legal figure", by the field's byte.
--   Digits         a byte is two decimal digits whose number lies between two others
--   Mends          a field put right
--   FieldsMended   each field of a calendar but its date
use Rattle.std.specs.Prelude.{ℕ, ◌+◌, ◌*◌, ◌/◌, ◌%◌, ◌≤◌, ◌<◌, ◌≡◌}
use Rattle.calendar.specs.Mend.{mended_of}
use Rattle.calendar.specs.declared.Calendar.{Calendar}

pub record Digits (low top x : ℕ) : Type 0 where
  pub digit : x % 16 < 10
  pub least : low ≤ x / 16 * 10 + x % 16
  pub most : x / 16 * 10 + x % 16 ≤ top

-- In range it stays; "out of range on its own" it becomes this byte.
pub record Mends (low top before after : ℕ) : Type 0 where
  pub stays : Digits low top before → after ≡ before
  pub lowest : (Digits low top before → ⊥) → after ≡ low

-- 01, Ticks, alarm, power: "seconds and minutes to 59, hours to 23, day 1 to 7, month 1 to 12, year 00 to 99".
pub record Mended (c : Calendar) : Type 0 where
  pub seconds : Mends 0 59 c.seconds (mended_of c).seconds
  pub minutes : Mends 0 59 c.minutes (mended_of c).minutes
  pub hours : Mends 0 23 c.hours (mended_of c).hours
  pub day : Mends 1 7 c.day (mended_of c).day
  pub month : Mends 1 12 c.month (mended_of c).month
  pub year : Mends 0 99 c.year (mended_of c).year

abbrev pub FieldsMended : Type 0
FieldsMended = (c : Calendar) → Mended c
