-- SPDX-License-Identifier: Apache-2.0
-- What a tick says: the highest field in which the calendars before and after differ, whatever the calendar; and nothing
-- exactly where the calendar is invalid. A valid calendar's seconds always change.
use mathlib.Core.Path.{◌≡◌, refl, sym, ◌∙◌}
use mathlib.Core.Bool.{Bool, true, false}
use Rattle.calendar.specs.Highest.{changed_of, highest_of}
use Rattle.calendar.specs.Next.{is_valid, seconds_of, minutes_of, hours_of, date_of, month_of, tick_of, next_of}
use Rattle.calendar.specs.declared.Calendar.{Calendar}
use Rattle.calendar.specs.declared.Rolled.TheVariants.{Nothing}
use borrow.Author.Tests.{eq-eqb}
use Prim.Native.Nat.{ℕ}
use native.Mathlib.Omega.{arith}
use Rattle.calendar.proofs.Tests.{true_test}
use Rattle.calendar.proofs.Valid.{valid_facts}
use Rattle.calendar.proofs.Tick.{tick_rolled}
use Rattle.calendar.proofs.Next.{next_of_valid, next_of_invalid}

pub changed_self : (c : Calendar) → changed_of c c ≡ Nothing
unfolding changed_of
changed_self c =
    rw (
      eq-eqb c.year c.year refl,
      eq-eqb c.month c.month refl,
      eq-eqb c.date c.date refl,
      eq-eqb c.hours c.hours refl,
      eq-eqb c.minutes c.minutes refl,
      eq-eqb c.seconds c.seconds refl,
    )

-- the highest of the fields that took a carry is never nothing
highest_something : (a b c d e : Bool) → highest_of a b c d e ≡ Nothing → ⊥
unfolding highest_of
highest_something a b c d true h = let z : ◌≡◌ {A = ℕ} 0 1 = cc in omega arith
highest_something a b c true false h = let z : ◌≡◌ {A = ℕ} 0 1 = cc in omega arith
highest_something a b true false false h = let z : ◌≡◌ {A = ℕ} 0 1 = cc in omega arith
highest_something a true false false false h = let z : ◌≡◌ {A = ℕ} 0 1 = cc in omega arith
highest_something true false false false false h = let z : ◌≡◌ {A = ℕ} 0 1 = cc in omega arith
highest_something false false false false false h = let z : ◌≡◌ {A = ℕ} 0 1 = cc in omega arith

module _ (c : Calendar) where
  valid_rolled : is_valid c ≡ true → (next_of c).rolled ≡ changed_of c (next_of c).calendar
  unfolding tick_of
  valid_rolled e = rw (next_of_valid c (true_test (is_valid c) e)) refl

  invalid_nothing : is_valid c ≡ false → (next_of c).rolled ≡ Nothing
  unfolding next_of
  invalid_nothing e = rw e refl

  -- 02, number 4: what a tick says, of any calendar
  pub next_rolled : (next_of c).rolled ≡ changed_of c (next_of c).calendar
  next_rolled = by_validity (is_valid c) refl
    where
      by_validity : (b : Bool) → is_valid c ≡ b → (next_of c).rolled ≡ changed_of c (next_of c).calendar
      by_validity true e = valid_rolled e
      by_validity false e = invalid_nothing e ∙ sym (rw (next_of_invalid c e).0 (changed_self c))

  -- nothing exactly where the calendar is invalid
  pub nothing_if_invalid : is_valid c ≡ false → (next_of c).rolled ≡ Nothing
  nothing_if_invalid e = invalid_nothing e

  pub nothing_only_if_invalid : (next_of c).rolled ≡ Nothing → is_valid c ≡ false
  unfolding tick_of
  nothing_only_if_invalid h = by_validity (is_valid c) refl
    where
      by_validity : (b : Bool) → is_valid c ≡ b → is_valid c ≡ false
      by_validity true e =
          let t = true_test (is_valid c) e in
          let n : (tick_of c).rolled ≡ Nothing = rw (next_of_valid c t) at h in
          absurd (highest_something (seconds_of c).carry (minutes_of c).carry (hours_of c).carry (date_of c).carry
          (month_of c).carry (tick_rolled c (valid_facts c t) ∙ n))
      by_validity false e = e
