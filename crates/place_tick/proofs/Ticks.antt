-- SPDX-License-Identifier: Apache-2.0
-- A tick by its parts is the tick of the companion's definitions: the core moves, the flags rise, 02h to 08h follow. Where
-- the seconds of a valid core are not 59 they alone move. A core that ticks ticks on.
use Rattle.std.proofs.Common.{◌≡◌, ℕ, ◌+◌, ◌%◌, ◌<◌, ◌≤◌, Bool, true, false, cond, not, ◌&&◌, ◌||◌, eqb, List, set, sym, refl, ap, ◌∙◌, arith, ne_eqb, eqb-true}
use mathlib.Core.Bool.{and-false}
use borrow.Author.Tests.{eqb-false, not-true}
use Rattle.bits.specs.Weight.{has}
use Rattle.calendar.specs.Field.{value, bcd, step_of}
use Rattle.calendar.specs.Highest.{highest_of}
use Rattle.calendar.specs.Next.{is_valid, tick_of, next_of}
use Rattle.calendar.specs.declared.Calendar.{Calendar}
use Rattle.calendar.specs.declared.Rolled.{Rolled}
use Rattle.calendar.specs.declared.Rolled.TheVariants.{Nothing, Seconds}
use Rattle.calendar.proofs.Tests.{true_test, test_true}
use Rattle.calendar.proofs.Field.{bcd_next_nine, bcd_next_less}
use Rattle.calendar.proofs.Valid.{valid_facts}
use Rattle.calendar.proofs.Next.{next_of_valid, next_of_invalid, next_valid}
use Rattle.calendar.proofs.Tick.{tick_rolled}
use Rattle.calendar.proofs.Highest.{nothing_if_invalid}
use Rattle.bus.specs.declared.Power.{Power}
use Rattle.bus.specs.declared.Power.TheVariants.{On, Backup, Off}
use Rattle.fm3130_registers.specs.Map.{W, R, OSCEN}
use Rattle.fm3130_companion.specs.Change.{with_time, with_registers}
use Rattle.fm3130_registers.specs.Control.{told_of}
use Rattle.fm3130_companion.specs.Tick.{matches, counted_of}
use Rattle.fm3130_companion.specs.Part.{rolled_of}
use Rattle.fm3130_companion.specs.Tick as ticking
use Rattle.fm3130_companion.specs.declared.Companion.{Companion}
use Rattle.fm3130.specs.Code.Bus.{with_companion}
use Rattle.fm3130.specs.Power.{is_supplied}
use Rattle.fm3130.specs.declared.State.{State}
use Rattle.bus_image.specs.Layout.{power_number}
use Rattle.fm3130_image.specs.Image.{image_of}
use Rattle.wire.proofs.Tests.{and_split}
use Rattle.place_companion.specs.Code.Desk.{with_core, core_shown}
use Rattle.place_tick.specs.Code.Tick.{tell_of, one_more, is_ticking}

-- a calendar with other seconds
abbrev pub with_seconds : Calendar → ℕ → Calendar
with_seconds c n =
    record {
      seconds = n;
      minutes = c.minutes;
      hours = c.hours;
      day = c.day;
      date = c.date;
      month = c.month;
      year = c.year;
    }

-- one more, in two decimal digits below 99
module _ (x : ℕ) (d : x % 16 < 10) (m : value x ≤ 59) where
  one_more_value : one_more x ≡ bcd (value x + 1)
  unfolding one_more
  one_more_value = by_digit (eqb (x % 16) 9) refl
    where
      by_digit : (t : Bool) → eqb (x % 16) 9 ≡ t
          → cond (eqb (x % 16) 9) ((x + 7) % 256) ((x + 1) % 256) ≡ bcd (value x + 1)
      by_digit true e =
          let k = eqb-true (x % 16) 9 e in
          let l : x + 7 < 256 = omega arith in
          let z : (x + 7) % 256 ≡ x + 7 = omega arith in
          rw e (z ∙ bcd_next_nine x k)
      by_digit false e =
          let n = eqb-false (x % 16) 9 e in
          let k : x % 16 < 9 = omega arith in
          let l : x + 1 < 256 = omega arith in
          let z : (x + 1) % 256 ≡ x + 1 = omega arith in
          rw e (z ∙ bcd_next_less x k)

  not_last : (x ≡ 0x59 → ⊥) → value x ≡ 59 → ⊥
  not_last n e = n (omega arith)

-- the next second of a valid calendar whose seconds are not 59
pub seconds_next : (c : Calendar) → is_valid c ≡ true → (c.seconds ≡ 0x59 → ⊥)
    → next_of c ≡ record { calendar = with_seconds c (one_more c.seconds); century = false; rolled = Seconds }
unfolding tick_of step_of highest_of
seconds_next c v n =
    let t = true_test (is_valid c) v in
    let f = valid_facts c t in
    let s = f.seconds in
    let e = ne_eqb (value c.seconds) 59 (not_last c.seconds s.digit s.most n) in
    next_of_valid c t
    ∙ rw (← tick_rolled c f, e, one_more_value c.seconds s.digit s.most) refl

-- what a tick tells
module _ (s : State) (rung century : Bool) where
  pub tell_kept : (has s.companion.registers.control W || has s.companion.registers.control R) ≡ true
      → set (image_of s) 0 (told_of s.companion.registers.control rung century)
      ≡ image_of (with_companion s (tell_of s.companion rung century))
  unfolding tell_of image_of
  tell_kept t = rw t refl

  pub tell_shown : (has s.companion.registers.control W || has s.companion.registers.control R) ≡ false
      → image_of (with_companion s (core_shown (with_registers s.companion (with_time s.companion.registers
      (told_of s.companion.registers.control rung century) s.companion.registers.time))))
      ≡ image_of (with_companion s (tell_of s.companion rung century))
  unfolding tell_of
  tell_shown t = rw t refl

-- a tick by its parts, for a valid core
pub counted_parts : (c : Companion) → is_valid c.core ≡ true
    → tell_of (with_core c (next_of c.core).calendar) (matches c.registers.alarm (next_of c.core).calendar)
    (next_of c.core).century
    ≡ counted_of c
unfolding tell_of
counted_parts c v = rw v refl

-- for a valid core whose seconds are not 59
pub seconds_parts : (s : State) → is_valid s.companion.core ≡ true
    → next_of s.companion.core
    ≡ record {
      calendar = with_seconds s.companion.core (one_more s.companion.core.seconds);
      century = false;
      rolled = Seconds;
    }
    → image_of (with_companion s (tell_of (with_core s.companion
    (with_seconds s.companion.core (one_more s.companion.core.seconds)))
    (matches s.companion.registers.alarm (with_seconds s.companion.core (one_more s.companion.core.seconds))) false))
    ≡ image_of (with_companion s (counted_of s.companion))
unfolding tell_of
seconds_parts s v n = rw (v, n) refl

-- for an invalid one
pub counted_rest : (c : Companion) → is_valid c.core ≡ false → tell_of c false false ≡ counted_of c
unfolding tell_of
counted_rest c v = rw ((next_of_invalid c.core v).0, (next_of_invalid c.core v).1, v) refl

-- a tick, by 01h and the core
module _ (s : State) where
  pub tick_off : has s.companion.registers.trim OSCEN ≡ true
      → (Nothing ≡ rolled_of s.companion) × (image_of s ≡ image_of (with_companion s (ticking.tick_of s.companion)))
  unfolding ticking.rolled_of ticking.tick_of
  tick_off t = rw t (refl, refl)

  module _ (t : has s.companion.registers.trim OSCEN ≡ false) where
    -- what a tick that counts leaves is what a tick leaves
    pub tick_counts : {r : Rolled} {i : List ℕ}
        → (r ≡ (next_of s.companion.core).rolled) × (i ≡ image_of (with_companion s (counted_of s.companion)))
        → (r ≡ rolled_of s.companion) × (i ≡ image_of (with_companion s (ticking.tick_of s.companion)))
    unfolding ticking.rolled_of ticking.tick_of
    tick_counts h = rw t h

    pub tick_rest : {i : List ℕ} → is_valid s.companion.core ≡ false
        → i ≡ image_of (with_companion s (tell_of s.companion false false))
        → (Nothing ≡ rolled_of s.companion) × (i ≡ image_of (with_companion s (ticking.tick_of s.companion)))
    tick_rest v h =
        tick_counts (
          sym (nothing_if_invalid s.companion.core v),
          h ∙ ap (λ (x : Companion). image_of (with_companion s x)) (counted_rest s.companion v),
        )

-- whether ticks move the core, test by test
module _ (s : State) where
  pub ticks_dark : power_number s.power ≡ 2 → false ≡ is_ticking s
  unfolding is_ticking
  ticks_dark e = by_power s.power e
    where
      by_power : (p : Power) → power_number p ≡ 2
          → false ≡ (is_supplied p && not (has s.companion.registers.trim OSCEN) && is_valid s.companion.core)
      by_power On h = absurd (omega arith)
      by_power Backup h = absurd (omega arith)
      by_power Off h = refl

  supplied : (power_number s.power ≡ 2 → ⊥) → is_supplied s.power ≡ true
  supplied n = by_power s.power n
    where
      by_power : (p : Power) → (power_number p ≡ 2 → ⊥) → is_supplied p ≡ true
      by_power On h = refl
      by_power Backup h = refl
      by_power Off h = absurd (h refl)

  pub ticks_stopped : has s.companion.registers.trim OSCEN ≡ true → false ≡ is_ticking s
  unfolding is_ticking
  ticks_stopped t = rw (t, and-false (is_supplied s.power)) refl

  pub ticks_valid : {r : Bool} → (power_number s.power ≡ 2 → ⊥) → has s.companion.registers.trim OSCEN ≡ false
      → r ≡ is_valid s.companion.core → r ≡ is_ticking s
  unfolding is_ticking
  ticks_valid n t h = rw (supplied n, t) h

-- what it is that a core ticks: it goes by `counted_of`, and ticks on
module _ (s : State) (t : is_ticking s ≡ true) where
  pub ticking_parts : (is_supplied s.power ≡ true)
      × ((has s.companion.registers.trim OSCEN ≡ false) × (is_valid s.companion.core ≡ true))
  unfolding is_ticking
  ticking_parts =
      let p = and_split (is_supplied s.power && not (has s.companion.registers.trim OSCEN)) _ t in
      let q = and_split (is_supplied s.power) _ p.0 in
      (q.0, (not-true _ q.1, p.1))

  pub ticking_tick : ticking.tick_of s.companion ≡ counted_of s.companion
  unfolding ticking.tick_of
  ticking_tick = rw ticking_parts.1.0 refl

  pub counted_ticks : is_ticking (with_companion s (counted_of s.companion)) ≡ true
  unfolding is_ticking
  counted_ticks =
      rw (
        ticking_parts.0,
        ticking_parts.1.0,
        test_true (is_valid (next_of s.companion.core).calendar)
            (next_valid s.companion.core (true_test _ ticking_parts.1.1)),
      )
      refl
