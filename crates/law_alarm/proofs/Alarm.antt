-- SPDX-License-Identifier: Apache-2.0
-- What a tick raises. With no supply nothing happens; with one, by OSCEN, the companion is as it was or has counted. Where
-- it counted, AF and CF are read off 00h; the year carries exactly where it goes from 99 to 00.
use Prim.Native.Nat.{ℕ}
use mathlib.Core.Path.{◌≡◌, refl, sym, ap, ◌∙◌}
use mathlib.Core.Bool.{Bool, true, false, cond, not, ◌&&◌, ◌||◌}
use mathlib.Core.List.{List}
use native.Mathlib.Omega.{arith}
use lib.Dec.{eqb}
use borrow.Author.Tests.{eqb-true, eqb-false}
use Rattle.wire.specs.declared.Phase.{Phase}
use Rattle.calendar.specs.Field.{value, step_of}
use Rattle.calendar.specs.Next.{is_valid, next_of, tick_if, month_of}
use Rattle.calendar.specs.Next as Calendars
use Rattle.calendar.specs.declared.Calendar.{Calendar}
use Rattle.calendar.proofs.Tests.{true_test}
use Rattle.calendar.proofs.Field.{InField}
use Rattle.calendar.proofs.Valid.{valid_facts}
use Rattle.bus.specs.declared.Power.{Power}
use Rattle.bus.specs.declared.Power.TheVariants.{On, Backup, Off}
use Rattle.fm3130_companion.specs.Tick.{rung, counted_of, tick_of}
use Rattle.fm3130_companion.specs.declared.Companion.{Companion}
use Rattle.fm3130.specs.Event.{happening, event_on}
use Rattle.fm3130.specs.declared.State.{State}
use Rattle.fm3130_list.specs.Run.{run_of}
use Rattle.law_alarm.specs.Second.{bit, counts, after, with00h}
use Rattle.law_alarm.specs.Alarm.{agreed, AlarmRises, CenturyRises, EnableFree, InvalidRaisesNothing}
use Rattle.law_alarm.proofs.Flags.{flagged_af, flagged_cf, flagged_self}

or_false : (b : Bool) → b || false ≡ b
or_false true = refl
or_false false = refl

-- the year's carry
year_turns : (x : ℕ) (b : Bool) → InField 0 99 x → (step_of 0 99 b x).carry ≡ eqb x 0x99 && eqb (step_of 0 99 b x).byte 0
unfolding step_of
year_turns x b f = turns b (eqb (value x) 99) (eqb x 0x99) refl refl
  where
    turns : (b t u : Bool) → eqb (value x) 99 ≡ t → eqb x 0x99 ≡ u
        → (step_of 0 99 b x).carry ≡ eqb x 0x99 && eqb (step_of 0 99 b x).byte 0
    turns false t true h g = rw (eqb-true x 0x99 g)
    turns false t false h g = rw g
    turns true true true h g = rw (h, g)
    turns true false false h g = rw (h, g)
    turns true true false h g =
        let e = eqb-true (value x) 99 h in let n = eqb-false x 0x99 g in absurd (omega (arith, f.digit))
    turns true false true h g =
        let n = eqb-false (value x) 99 h in let e = eqb-true x 0x99 g in absurd (omega arith)

century_by : (c : Calendar) (v : Bool) → is_valid c ≡ v
    → (tick_if v c).century ≡ v && (eqb c.year 0x99 && eqb (tick_if v c).calendar.year 0)
unfolding Calendars.tick_of
century_by c true h = year_turns c.year (month_of c).carry (valid_facts c (true_test _ h)).year
century_by c false h = refl

-- a companion that has counted or not, by the test of OSCEN
module _ (c : Companion) where
  abbrev counted : Bool → Companion
  counted t = cond t c (counted_of c)

  counted_af : (t : Bool) → bit 64 (counted t).registers.control
      ≡ bit 64 c.registers.control || (not t && (is_valid c.core && agreed c.registers.alarm (counted t).core))
  counted_af true = sym (or_false (bit 64 c.registers.control))
  counted_af false =
      flagged_af c.registers.control (bit 64 c.registers.control || rung c)
      (bit 32 c.registers.control || (next_of c.core).century)

  counted_cf : (t : Bool) → bit 32 (counted t).registers.control
      ≡ bit 32 c.registers.control
      || (not t && (is_valid c.core && (eqb c.core.year 0x99 && eqb (counted t).core.year 0)))
  unfolding next_of
  counted_cf true = sym (or_false (bit 32 c.registers.control))
  counted_cf false =
      flagged_cf c.registers.control (bit 64 c.registers.control || rung c)
      (bit 32 c.registers.control || (next_of c.core).century)
      ∙ ap (λ (x : Bool). bit 32 c.registers.control || x) (century_by c.core (is_valid c.core) refl)

  counted_invalid : (t : Bool) → is_valid c.core ≡ false
      → ((counted t).core ≡ c.core) × ((counted t).registers.control ≡ c.registers.control)
  unfolding next_of
  counted_invalid true h = (refl, refl)
  counted_invalid false h = (
    rw h,
    rw (h, or_false (bit 64 c.registers.control), or_false (bit 32 c.registers.control))
        (flagged_self c.registers.control),
  )

-- event 4 under each supply
module _ (q : Phase) (a : ℕ) (c : Companion) (m : List ℕ) where
  abbrev at : Power → State
  at p = record { power = p; phase = q; address = a; companion = c }

  rises : (p : Power) → bit 64 (after (at p) m).registers.control
      ≡ bit 64 c.registers.control
      || (counts (at p) && (is_valid c.core && agreed c.registers.alarm (after (at p) m).core))
  unfolding run_of happening event_on tick_of
  rises On = counted_af c (bit 128 c.registers.trim)
  rises Backup = counted_af c (bit 128 c.registers.trim)
  rises Off = sym (or_false (bit 64 c.registers.control))

  turns_century : (p : Power) → bit 32 (after (at p) m).registers.control
      ≡ bit 32 c.registers.control
      || (counts (at p) && (is_valid c.core && (eqb c.core.year 0x99 && eqb (after (at p) m).core.year 0)))
  unfolding run_of happening event_on tick_of
  turns_century On = counted_cf c (bit 128 c.registers.trim)
  turns_century Backup = counted_cf c (bit 128 c.registers.trim)
  turns_century Off = sym (or_false (bit 32 c.registers.control))

  raises_nothing : (p : Power) → is_valid c.core ≡ false
      → ((after (at p) m).core ≡ c.core) × ((after (at p) m).registers.control ≡ c.registers.control)
  unfolding run_of happening event_on tick_of
  raises_nothing On h = counted_invalid c (bit 128 c.registers.trim) h
  raises_nothing Backup h = counted_invalid c (bit 128 c.registers.trim) h
  raises_nothing Off h = (refl, refl)

-- two bytes at 00h with the same AF
module _ (s : State) (m : List ℕ) (x y : ℕ) (h : bit 64 x ≡ bit 64 y) where
  abbrev AfOf : (ℕ → Companion) → Type 0
  AfOf X = bit 64 (X x).registers.control ≡ bit 64 (X y).registers.control

  free_counted : (t : Bool) → AfOf (λ k. counted (with00h s k).companion t)
  free_counted true = h
  free_counted false =
      let told : ℕ → Bool = λ k. bit 64 k || rung s.companion in
      let cf : ℕ → Bool = λ k. bit 32 k || (next_of s.companion.core).century in
      flagged_af x (told x) (cf x) ∙ (ap (λ (b : Bool). b || rung s.companion) h ∙ sym (flagged_af y (told y) (cf y)))

  free_by : (p : Power) → AfOf (λ k. after (at s.phase s.address (with00h s k).companion m p) m)
  unfolding run_of happening event_on tick_of
  free_by On = free_counted (bit 128 s.companion.registers.trim)
  free_by Backup = free_counted (bit 128 s.companion.registers.trim)
  free_by Off = h

pub enable_free : EnableFree
enable_free s m x y h = free_by s m x y h s.power

pub alarm_rises : AlarmRises
alarm_rises s m = rises s.phase s.address s.companion m s.power

pub century_rises : CenturyRises
century_rises s m = turns_century s.phase s.address s.companion m s.power

pub invalid_raises_nothing : InvalidRaisesNothing
invalid_raises_nothing s m h = raises_nothing s.phase s.address s.companion m s.power h
