-- SPDX-License-Identifier: Apache-2.0
-- Round the century. A tick adds one to the place of a valid calendar, and the century's end takes the century off; so
-- the place before a tick follows from the one after it, a place comes back after a century and not sooner, and every
-- place comes. One place has one date and time. The day of the week has gone on by 36,525 places, 5,217 weeks and six.
use mathlib.Core.Path.{◌≡◌, refl, sym, ◌∙◌, ap}
use Prim.Native.Nat.{ℕ, ◌+◌, ◌*◌, ◌-◌, ◌%◌, ◌≤◌, ◌<◌}
use native.Mathlib.Omega.{arith}
use lib.Dec.{T}
use Rattle.calendar.specs.Field.{value, bit}
use Rattle.calendar.specs.Next.{is_valid, tick_of, next_of, hours_of, day_of}
use Rattle.calendar.specs.Instant.{instant}
use Rattle.calendar.specs.After.{after, crossings}
use Rattle.calendar.specs.declared.Calendar.{Calendar}
use Rattle.calendar.proofs.Tests.{true_test}
use Rattle.calendar.proofs.Field.{bit_le}
use Rattle.calendar.proofs.Valid.{Valid, valid_facts}
use Rattle.calendar.proofs.Instant.{tick_instant}
use Rattle.calendar.proofs.Next.{next_of_valid}
use Rattle.calendar.proofs.After.{after_valid, after_instant}
use Rattle.law_century.specs.Century.{century_ticks, DateAndTime, date_and_time, places_on}
use Rattle.law_century.specs.Century.{NeverTwoToOne, BackAfterCentury, SixPlacesOn, SixPlaces, Comes, NoneSkipped}
use Rattle.law_century.proofs.Instants.{instant_below, settled, same_time, with_day, same_instant, same_calendar}
use Rattle.law_century.proofs.Week.{tick_day, after_day, places_on_mod, week_after, day_is_value}

-- two places that a tick takes to one are one
place_before :
    (a b b' i j : ℕ) → a + 3155760000 * b ≡ i + 1 → a + 3155760000 * b' ≡ j + 1
    → i < 3155760000 → j < 3155760000 → b ≤ 1 → b' ≤ 1 → i ≡ j
place_before a b b' i j e f h k l m = omega arith

-- two days of the week that a tick takes to one are one, if it is midnight for both or for neither
day_before :
    (x x' b b' n y : ℕ) → y + 8 * b ≡ x + 1 * b + n → y + 8 * b' ≡ x' + 1 * b' + n
    → 1 ≤ x → x ≤ 7 → 1 ≤ x' → x' ≤ 7 → x ≡ x'
day_before x x' b b' n y e f h k l m = omega arith

module _ (c d : Calendar) (v : Valid c) (w : Valid d) (e : (tick_of c).calendar ≡ (tick_of d).calendar) where
  time_before : date_and_time c ≡ date_and_time d
  time_before =
      same_time c d v w
      (place_before (instant (tick_of c).calendar) (bit (tick_of c).century) (bit (tick_of d).century)
      (instant c) (instant d) (tick_instant c v) (rw e (tick_instant d w)) (instant_below c v) (instant_below d w)
      (bit_le (tick_of c).century) (bit_le (tick_of d).century))

  tick_never_two : c ≡ d
  tick_never_two =
      let b : (hours_of c).carry ≡ (hours_of d).carry =
      ap (λ (t : DateAndTime). (hours_of (with_day t 0)).carry) time_before in
      let y = ap (λ (x : Calendar). value x.day) e in
      let n =
      day_before (value c.day) (value d.day) (bit (day_of c).carry) (bit (day_of d).carry)
      (bit (hours_of c).carry) (value (tick_of c).calendar.day) (tick_day c v) (rw (y, b) (tick_day d w))
      v.day.least v.day.most w.day.least w.day.most in
      same_calendar c d time_before (settled c.day d.day v.day w.day n)

pub never_two_to_one : NeverTwoToOne
never_two_to_one c d h k e =
    let s = true_test (is_valid c) h in
    let t = true_test (is_valid d) k in
    let p : (next_of c).calendar ≡ (tick_of c).calendar = rw (next_of_valid c s) in
    let q : (next_of d).calendar ≡ (tick_of d).calendar = rw (next_of_valid d t) in
    tick_never_two c d (valid_facts c s) (valid_facts d t) (sym p ∙ e ∙ q)

-- places after a number of ticks, q of which crossed the century's end
place_back : (i j q : ℕ) → j + 3155760000 * q ≡ i + century_ticks → i < 3155760000 → j < 3155760000 → j ≡ i
place_back i j q e h k = omega arith

place_moved : (i j q n : ℕ) → j + 3155760000 * q ≡ i + n → j ≡ i → 1 ≤ n → n < century_ticks → ⊥
place_moved i j q n e f h k = omega arith

place_reached :
    (i j k q : ℕ) → k + 3155760000 * q ≡ i + (j + century_ticks - i) % century_ticks
    → i < 3155760000 → j < 3155760000 → k < 3155760000 → k ≡ j
place_reached i j k q e h l m = omega arith

module _ (c : Calendar) (h : T (is_valid c)) where
  valid_after : (n : ℕ) → Valid (after n c)
  valid_after n = valid_facts (after n c) (after_valid n c h)

  below_after : (n : ℕ) → instant (after n c) < 3155760000
  below_after n = instant_below (after n c) (valid_after n)

  back_after : date_and_time (after century_ticks c) ≡ date_and_time c
  back_after =
      let v = valid_facts c h in
      same_time (after century_ticks c) c (valid_after century_ticks) v
      (place_back (instant c) (instant (after century_ticks c)) (crossings century_ticks c)
      (after_instant century_ticks c h) (instant_below c v) (below_after century_ticks))

  not_back : (n : ℕ) → 1 ≤ n → n < century_ticks → date_and_time (after n c) ≡ date_and_time c → ⊥
  not_back n l m e =
      place_moved (instant c) (instant (after n c)) (crossings n c) n (after_instant n c h)
      (same_instant (after n c) c e) l m

  comes : (d : Calendar) → Valid d → Comes c d
  comes d w =
      let n = (instant d + century_ticks - instant c) % century_ticks in
      let e =
      place_reached (instant c) (instant d) (instant (after n c)) (crossings n c) (after_instant n c h)
      (instant_below c (valid_facts c h)) (instant_below d w) (below_after n) in
      record { ticks = n; within = omega arith; there = same_time (after n c) d (valid_after n) w e }

pub back_after_century : BackAfterCentury
back_after_century =
    record {
      back = λ c h. back_after c (true_test (is_valid c) h);
      not_sooner = λ c h. not_back c (true_test (is_valid c) h);
    }

pub none_skipped : NoneSkipped
none_skipped c d h k = comes c (true_test (is_valid c) h) d (valid_facts d (true_test (is_valid d) k))

pub six_places_on : SixPlacesOn
six_places_on c h =
    let t = true_test (is_valid c) h in
    let v = (valid_facts c t).day in
    let w = (valid_after c t century_ticks).day in
    sym (day_is_value (after century_ticks c).day w)
    ∙ week_after (value c.day) (value (after century_ticks c).day) (instant c)
    v.least v.most w.least w.most (after_day c t century_ticks)
    ∙ sym (places_on_mod 6 (value c.day) v.least v.most)
    ∙ ap (places_on 6) (day_is_value c.day v)

pub six_places : SixPlaces
six_places = refl
