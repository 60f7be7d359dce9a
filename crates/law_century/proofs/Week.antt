-- SPDX-License-Identifier: Apache-2.0
-- The day of the week after several ticks: one place on at each midnight, so as many places as the day number of the
-- running second has grown. By induction on the number of ticks. Places on are counted modulo seven.
use mathlib.Core.Path.{◌≡◌, refl, ◌∙◌, ap}
use mathlib.Core.Bool.{Bool, true, false, cond}
use Prim.Native.Nat.{ℕ, zero, suc, ◌+◌, ◌*◌, ◌/◌, ◌%◌, ◌≤◌, ◌<◌}
use native.Mathlib.Omega.{arith}
use native.Mathlib.Nat.{add-zero}
use lib.Dec.{T, eqb}
use borrow.Author.Tests.{eqb-true, eqb-false}
use Rattle.calendar.specs.Field.{value, bit}
use Rattle.calendar.specs.Next.{is_valid, tick_of, hours_of, day_of}
use Rattle.calendar.specs.Instant.{day_number, time_of, instant}
use Rattle.calendar.specs.After.{after, crossings}
use Rattle.calendar.specs.declared.Calendar.{Calendar}
use Rattle.calendar.specs.declared.Advanced.{Advanced}
use Rattle.calendar.proofs.Field.{InField}
use Rattle.calendar.proofs.Valid.{Valid, valid_facts}
use Rattle.calendar.proofs.Tick.{tick_ticked, tick_valid}
use Rattle.calendar.proofs.Next.{next_of_valid}
use Rattle.calendar.proofs.After.{after_valid, after_instant}
use Rattle.law_century.specs.Century.{century_ticks, day_on, places_on}
use Rattle.law_century.proofs.Instants.{time_below}

-- the arithmetic, over plain numbers
day_on_lem : (w w' b m k t : ℕ) → w' + 8 * b ≡ w + 1 * b + m → (w + k) % 7 ≡ t % 7 → (w' + k) % 7 ≡ (t + m) % 7
day_on_lem w w' b m k t e f = omega arith

midnight_on :
    (d t t' m q i : ℕ) → d * 86400 + t + 3155760000 * q ≡ i → t < 86400 → t' + 86400 * m ≡ t + 1 → t' < 86400
    → suc i / 86400 ≡ i / 86400 + m
midnight_on d t t' m q i e h f h' = omega arith

week_on :
    (w i n m : ℕ) → suc (i + n) / 86400 ≡ (i + n) / 86400 + m
    → (w + (i + n) / 86400 + m) % 7 ≡ (w + (i + suc n) / 86400) % 7
week_on w i n m e =
    let s : i + suc n ≡ suc (i + n) = omega arith in
    let q : w + (i + n) / 86400 + m ≡ w + ((i + n) / 86400 + m) = omega arith in
    rw (s, e) (ap (λ (k : ℕ). k % 7) q)

-- one tick: the time of day, which midnight takes back to 0, and the day of the week
module _ (c : Calendar) (v : Valid c) where
  tick_time : time_of (tick_of c).calendar + 86400 * bit (hours_of c).carry ≡ time_of c + 1
  unfolding tick_of
  tick_time =
      let t = tick_ticked c v in
      omega (arith, t.seconds.sum, t.minutes.sum, t.hours.sum)

  pub tick_day :
      value (tick_of c).calendar.day + 8 * bit (day_of c).carry
      ≡ value c.day + 1 * bit (day_of c).carry + bit (hours_of c).carry
  unfolding tick_of
  tick_day = (tick_ticked c v).day.sum

module _ (c : Calendar) (h : T (is_valid c)) where
  pub after_day :
      (n : ℕ) → (value (after n c).day + instant c / 86400) % 7 ≡ (value c.day + (instant c + n) / 86400) % 7
  unfolding after
  after_day zero = rw add-zero
  after_day (suc n) =
      let x = after n c in
      let k = after_valid n c h in
      let u = valid_facts x k in
      let y = (tick_of x).calendar in
      let m = bit (hours_of x).carry in
      let z =
      midnight_on (day_number x) (time_of x) (time_of y) m (crossings n c) (instant c + n)
      (after_instant n c h) (time_below x u) (tick_time x u) (time_below y (tick_valid x u)) in
      ap (λ (a : Advanced). (value a.calendar.day + instant c / 86400) % 7) (next_of_valid x k)
      ∙ day_on_lem (value x.day) (value y.day) (bit (day_of x).carry) m (instant c / 86400)
      (value c.day + (instant c + n) / 86400) (tick_day x u) (after_day n)
      ∙ week_on (value c.day) (instant c) n m z

-- one place on, and several, by what is left over seven
day_on_mod : (w : ℕ) → 1 ≤ w → w ≤ 7 → day_on w ≡ w % 7 + 1
day_on_mod w h k = by_seven (eqb w 7) refl
  where
    by_seven : (b : Bool) → eqb w 7 ≡ b → cond b 1 (w + 1) ≡ w % 7 + 1
    by_seven true e = omega (arith, eqb-true w 7 e)
    by_seven false e = omega (arith, eqb-false w 7 e)

pub places_on_mod : (n w : ℕ) → 1 ≤ w → w ≤ 7 → places_on n w ≡ (w + 6 + n) % 7 + 1
places_on_mod zero w h k = omega arith
places_on_mod (suc n) w h k =
    let e = places_on_mod n w h k in
    day_on_mod (places_on n w) (omega arith) (omega arith) ∙ omega arith

-- the day of the week after a century: w before it, u after it, i being the second of the century
pub week_after :
    (w u i : ℕ) → 1 ≤ w → w ≤ 7 → 1 ≤ u → u ≤ 7
    → (u + i / 86400) % 7 ≡ (w + (i + century_ticks) / 86400) % 7 → u ≡ (w + 6 + 6) % 7 + 1
week_after w u i h k l m e = omega arith

-- a day of the week is its own number
pub day_is_value : (x : ℕ) → InField 1 7 x → value x ≡ x
day_is_value x f = omega (arith, f.digit, f.most)
