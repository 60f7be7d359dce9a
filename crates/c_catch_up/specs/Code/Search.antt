-- SPDX-License-Identifier: Apache-2.0
-- Whether one of many seconds rings the alarm, without looking at each: what the functions of the search promise.
-- All definitions are auxiliary; what n ticks do is said in Ticks.
--   passes a x           an alarm field lets the number x of its calendar field pass
--   Asks a v             without Match, v is the only number that passes
--   Some P lo hi         some number from lo to below hi has the property P
--   Tells r A            the test r tells whether A
--   DayRings a d         the date and the month of the day d pass
--   Skips a k j          j is a later month than k, and those between do not pass
--   Narrowed a b s r     r are the minutes (hours, days) in which some second (minute, hour) of s passes
use Rattle.std.specs.Prelude.{ℕ, ◌+◌, ◌-◌, ◌/◌, ◌%◌, ◌≤◌, ◌<◌, ◌≡◌, Bool, true, false, eqb}
use Rattle.calendar.specs.Field.{bcd}
use Rattle.calendar.specs.Instant.{month_start}
use Rattle.calendar_days.specs.Code.Places.{InMonth}
use Rattle.fm3130_companion.specs.declared.Alarm.{Alarm}
use Rattle.c_catch_up.specs.declared.search.Stretch.{Stretch}
use Rattle.fm3130_registers.specs.Alarm.{agrees}

abbrev pub passes : ℕ → ℕ → Bool
passes alarm x = agrees alarm (bcd x)

pub record Asks (alarm number : ℕ) : Type 0 where
  pub least : number ≤ 255
  pub is : (x : ℕ) → x < 255 → eqb (alarm % 128) (bcd x) ≡ eqb number x

pub record Some (P : ℕ → Type 0) (lo hi : ℕ) : Type 0 where
  pub at : ℕ
  pub from : lo ≤ at
  pub to : at < hi
  pub holds : P at

pub record Tells (r : Bool) (A : Type 0) : Type 0 where
  pub yes : r ≡ true → A
  pub no : r ≡ false → A → ⊥

pub record DayRings (a : Alarm) (d : ℕ) : Type 0 where
  pub month : ℕ
  pub in_month : InMonth d month
  pub date : passes a.date (d - month_start month + 1) ≡ true
  pub name : passes a.month (month % 12 + 1) ≡ true

pub record Skips (alarm month later : ℕ) : Type 0 where
  pub after : month < later
  pub most : later ≤ month + 12
  pub none : (k : ℕ) → month < k → k < later → passes alarm (k % 12 + 1) ≡ true → ⊥

pub record Narrowed (alarm span : ℕ) (s r : Stretch) : Type 0 where
  pub most : r.to ≤ s.to / span + 1
  pub down :
      (x : ℕ) → s.from ≤ x → x < s.to → passes alarm (x % span) ≡ true → (r.from ≤ x / span) × (x / span < r.to)
  pub up :
      (y : ℕ) → r.from ≤ y → y < r.to
      → Some (λ x. (x / span ≡ y) × (passes alarm (x % span) ≡ true)) s.from s.to
