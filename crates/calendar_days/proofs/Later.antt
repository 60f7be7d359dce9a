-- SPDX-License-Identifier: Apache-2.0
-- Many ticks at once. The calendar at a second of the century is valid and stands at that second; n ticks of a valid
-- calendar lead to the second n later, and the day of the week goes on by the midnights between; and no two dates and
-- times stand at one second. So n ticks lead to the calendar at the second n later.
use mathlib.Core.Path.{◌≡◌, refl, sym, ◌∙◌, ap, subst}
use mathlib.Core.Bool.{Bool, true, false}
use Prim.Native.Nat.{ℕ, zero, suc, ◌+◌, ◌*◌, ◌-◌, ◌/◌, ◌%◌, ◌≤◌, ◌<◌, zero-le}
use native.Mathlib.Omega.{arith}
use lib.Dec.{T, ltb, leb}
use borrow.Author.Tests.{leb-true, leb-false, le-leb, lt-leb, le-ltb, lt-ltb}
use Rattle.calendar.specs.Field.{value, bcd, bit}
use Rattle.calendar.specs.Month.{month_length}
use Rattle.calendar.specs.Next.{is_valid, length_of, next_of}
use Rattle.calendar.specs.Instant.{month_start, month_index, day_number, time_of, instant}
use Rattle.calendar.specs.After.{after, crossings}
use Rattle.calendar.specs.declared.Calendar.{Calendar}
use Rattle.calendar.proofs.Field.{InField, value_bcd, bcd_digit}
use Rattle.calendar.proofs.Month.{month_length_limits}
use Rattle.calendar.proofs.Valid.{Valid, valid_facts}
use Rattle.calendar.proofs.Instant.{month_start_next}
use Rattle.calendar.proofs.Next.{next_of_invalid}
use Rattle.calendar.proofs.After.{after_valid, after_instant}
use Rattle.law_century.proofs.Instants.{time_below, instant_below, settled, same_time, same_calendar}
use Rattle.law_century.proofs.Week.{after_day, day_is_value}
use Rattle.calendar_days.specs.Code.Places.{InMonth, day_of_second, calendar_at, PlacedAt}
use Rattle.calendar_days.specs.After.{after_of}
use Rattle.calendar_days.proofs.Months.{month_start_wrap}

-- the byte of a number is a field that stands for it
bcd_field : (low top n : ℕ) → low ≤ n → n ≤ top → InField low top (bcd n)
bcd_field low top n h k =
    let v = value_bcd n in
    record { digit = bcd_digit n; least = omega arith; most = omega arith }

plain_field : (w : ℕ) → 1 ≤ w → w ≤ 7 → InField 1 7 w
plain_field w h k = record { digit = omega arith; least = omega arith; most = omega arith }

-- the arithmetic, over plain numbers
index_of : (y m k : ℕ) → k < 2400 → y ≡ k / 12 % 100 → m ≡ k % 12 + 1
    → (12 * y + (m - 1) ≡ k % 1200) × (y ≤ 99)
index_of y m k h e f = omega arith

clock_of_lem : (s m h i : ℕ) → s ≡ i % 60 → m ≡ i / 60 % 60 → h ≡ i / 60 / 60 % 24
    → (i / 60 / 60 / 24 * 86400 + ((h * 60 + m) * 60 + s) ≡ i)
clock_of_lem s m h i e f g = omega arith

date_of_lem : (d start next len v : ℕ) → start ≤ d → d < next → next ≡ start + len → v ≡ d - start + 1
    → (start + (v - 1) ≡ d) × (1 ≤ v) × (v ≤ len)
date_of_lem d start next len v h k l e = omega arith

-- a century later the years divide by 4 as before
month_length_year : (m y : ℕ) → month_length m (y % 100) ≡ month_length m y
unfolding month_length
month_length_year m y =
    let e : y % 100 % 4 ≡ y % 4 = omega arith in
    rw e

length_at : (i k w : ℕ) → length_of (calendar_at i k w) ≡ month_length (k % 12 + 1) (k / 12)
unfolding calendar_at
length_at i k w =
    rw (value_bcd (k % 12 + 1), value_bcd (k / 12 % 100)) (month_length_year (k % 12 + 1) (k / 12))

month_ends_at : (i k w : ℕ) → month_start (k + 1) ≡ month_start k + length_of (calendar_at i k w)
month_ends_at i k w =
    rw (length_at i k w) (month_start_next k (k % 12 + 1) (k / 12) (omega arith) (omega arith) (omega arith))

index_at : (i k w : ℕ) → k < 2400
    → (month_index (calendar_at i k w) ≡ k % 1200) × (value (calendar_at i k w).year ≤ 99)
unfolding calendar_at
index_at i k w h =
    index_of (value (bcd (k / 12 % 100))) (value (bcd (k % 12 + 1))) k h
    (value_bcd (k / 12 % 100)) (value_bcd (k % 12 + 1))

date_at : (i k w : ℕ) → value (calendar_at i k w).date ≡ day_of_second i - month_start k + 1
unfolding calendar_at
date_at i k w = value_bcd (day_of_second i - month_start k + 1)

day_at : (i k w : ℕ) → w ≡ (calendar_at i k w).day
unfolding calendar_at
day_at i k w = refl

time_at : (i k w : ℕ) → day_of_second i * 86400 + time_of (calendar_at i k w) ≡ i
unfolding calendar_at
time_at i k w =
    clock_of_lem (value (bcd (i % 60))) (value (bcd (i / 60 % 60))) (value (bcd (i / 60 / 60 % 24))) i
    (value_bcd (i % 60)) (value_bcd (i / 60 % 60)) (value_bcd (i / 60 / 60 % 24))

-- a date is below 100, as its byte asks
pub date_below : (d k : ℕ) → InMonth d k → d - month_start k + 1 < 100
date_below d k m =
    let e = month_ends_at 0 k 0 in
    let l = month_length_limits (k % 12 + 1) (k / 12) (omega arith) (omega arith) in
    omega (arith, m.from, m.to, length_at 0 k 0)

-- a calendar made field by field
pub placed_at :
    (i w : ℕ) {k start s n h d m y : ℕ} → InMonth (day_of_second i) k → start ≡ month_start k
    → s ≡ bcd (i % 60) → n ≡ bcd (i / 60 % 60) → h ≡ bcd (i / 60 / 60 % 24)
    → d ≡ bcd (day_of_second i - start + 1) → m ≡ bcd (k % 12 + 1) → y ≡ bcd (k / 12 % 100)
    → PlacedAt i w (record { seconds = s; minutes = n; hours = h; day = w; date = d; month = m; year = y })
unfolding calendar_at
placed_at i w {k} t e es en eh ed em ey = record { index = k; in_month = t; is = rw (es, en, eh, ed, em, ey, e) refl }

minutes_of_lem : (day m : ℕ) → m - m / 60 * 60 ≡ (day * 1440 + m) % 60
minutes_of_lem day m = omega arith

hours_of_lem : (day m : ℕ) → m < 1440 → m / 60 ≡ (day * 1440 + m) / 60 % 24
hours_of_lem day m l = omega arith

-- the same on a day, at a second of it
pub placed_on :
    (day second w : ℕ) {k past s n h d m y : ℕ} → second < 86400 → InMonth day k → past ≡ day - month_start k
    → s ≡ bcd (second - second / 60 * 60) → n ≡ bcd (second / 60 - second / 3600 * 60) → h ≡ bcd (second / 3600)
    → d ≡ bcd (past + 1) → m ≡ bcd (k % 12 + 1) → y ≡ bcd (k / 12 % 100)
    → PlacedAt (day * 86400 + second) w (record { seconds = s; minutes = n; hours = h; day = w; date = d; month = m; year = y })
placed_on day second w {k} l t p es en eh ed em ey =
    let i = day * 86400 + second in
    let e : day_of_second i ≡ day = omega arith in
    let s : second - second / 60 * 60 ≡ i % 60 = omega arith in
    let b : second / 3600 ≡ second / 60 / 60 = omega arith in
    let g : day * 1440 + second / 60 ≡ i / 60 = omega arith in
    let n =
    ap (λ (x : ℕ). second / 60 - x * 60) b ∙ minutes_of_lem day (second / 60) ∙ ap (λ (x : ℕ). x % 60) g in
    let h = b ∙ hours_of_lem day (second / 60) (omega arith) ∙ ap (λ (x : ℕ). x / 60 % 24) g in
    placed_at i w (subst (λ (x : ℕ). InMonth x k) (sym e) t) refl (es ∙ ap bcd s) (en ∙ ap bcd n) (eh ∙ ap bcd h)
    (ed ∙ ap (λ (x : ℕ). bcd (x + 1)) (p ∙ ap (λ (x : ℕ). x - month_start k) (sym e))) em ey

module _ (i k w : ℕ) (m : InMonth (day_of_second i) k) where
  abbrev r : Calendar
  r = calendar_at i k w

  date_in : (month_start k + (value r.date - 1) ≡ day_of_second i) × (1 ≤ value r.date) × (value r.date ≤ length_of r)
  date_in =
      date_of_lem (day_of_second i) (month_start k) (month_start (k + 1)) (length_of r) (value r.date) m.from m.to
      (month_ends_at i k w) (date_at i k w)

  -- it stands at its second, a century's seconds being taken off in the next century
  pub at_instant : instant r + 3155760000 * (k / 1200) ≡ i
  at_instant =
      let x = ap month_start (index_at i k w m.known).0 in
      omega (arith, date_in, time_at i k w, month_start_wrap k m.known)

  pub at_valid : 1 ≤ w → w ≤ 7 → Valid r
  unfolding calendar_at
  at_valid w1 w7 =
      record {
        seconds = bcd_field 0 59 (i % 60) zero-le (omega arith);
        minutes = bcd_field 0 59 (i / 60 % 60) zero-le (omega arith);
        hours = bcd_field 0 23 (i / 60 / 60 % 24) zero-le (omega arith);
        day = plain_field w w1 w7;
        date = record { digit = bcd_digit (day_of_second i - month_start k + 1); least = date_in.1; most = date_in.2 };
        month = bcd_field 1 12 (k % 12 + 1) (omega arith) (omega arith);
        year = bcd_field 0 99 (k / 12 % 100) zero-le (omega arith);
      }

-- the day of the week after the midnights between two seconds
abbrev pub weekday_of : ℕ → ℕ → ℕ → ℕ
weekday_of w i j = (w + 6 + (j / 86400 - i / 86400)) % 7 + 1

same_day : (w a x y : ℕ) → 1 ≤ a → a ≤ 7 → x ≤ y → (a + x) % 7 ≡ (w + y) % 7 → (w + 6 + (y - x)) % 7 + 1 ≡ a
same_day w a x y h k l e = omega arith

same_second : (a b p q i : ℕ) → a < 3155760000 → b < 3155760000
    → a + 3155760000 * p ≡ i → b + 3155760000 * q ≡ i → a ≡ b
same_second a b p q i h k e f = omega arith

later_day : (i n : ℕ) → i / 86400 ≤ (i + n) / 86400
later_day i n = omega arith

weekday_limits : (w i j : ℕ) → (1 ≤ weekday_of w i j) × (weekday_of w i j ≤ 7)
weekday_limits w i j = omega arith

module _ (c : Calendar) (h : T (is_valid c)) (n k : ℕ) (m : InMonth (day_of_second (instant c + n)) k) where
  abbrev j : ℕ
  j = instant c + n

  abbrev w : ℕ
  w = weekday_of (value c.day) (instant c) j

  -- n ticks lead to the calendar at the second n later
  pub after_at_lem : after n c ≡ calendar_at j k w
  after_at_lem =
      let l = weekday_limits (value c.day) (instant c) j in
      let v = at_valid j k w m l.0 l.1 in
      let u = valid_facts (after n c) (after_valid n c h) in
      let d =
      same_day (value c.day) (value (after n c).day) (instant c / 86400) (j / 86400) u.day.least u.day.most
      (later_day (instant c) n) (after_day c h n) in
      let s =
      same_second (instant (after n c)) (instant (calendar_at j k w)) (crossings n c) (k / 1200) j
      (instant_below (after n c) u) (instant_below (calendar_at j k w) v) (after_instant n c h) (at_instant j k w m) in
      same_calendar (after n c) (calendar_at j k w) (same_time (after n c) (calendar_at j k w) u v s)
      (settled (after n c).day w u.day (plain_field w l.0 l.1) (sym d ∙ sym (day_is_value w (plain_field w l.0 l.1)))
      ∙ day_at j k w)

-- CF: the century's last second is passed once, where the second n later is past it
crossed : (a q i : ℕ) → a < 3155760000 → a + 3155760000 * q ≡ i → leb 3155760000 i ≡ ltb 0 q
crossed a q i h e = by_second (leb 3155760000 i) refl
  where
    by_second : (b : Bool) → leb 3155760000 i ≡ b → b ≡ ltb 0 q
    by_second true t = let l = leb-true 3155760000 i t in sym (lt-ltb 0 q (omega arith))
    by_second false t = let l = leb-false 3155760000 i t in sym (le-ltb 0 q (omega arith))

pub after_century :
    (c : Calendar) → T (is_valid c) → (n : ℕ) → leb 3155760000 (instant c + n) ≡ ltb 0 (crossings n c)
after_century c h n =
    let u = valid_facts (after n c) (after_valid n c h) in
    crossed (instant (after n c)) (crossings n c) (instant c + n) (instant_below (after n c) u) (after_instant n c h)

-- what the code returns, at the month that it finds, is what n ticks leave
pub after_placed :
    (c : Calendar) (h : T (is_valid c)) (n : ℕ) (r : Calendar)
    → PlacedAt (instant c + n) (weekday_of (value c.day) (instant c) (instant c + n)) r
    → record { calendar = r; century = leb 3155760000 (instant c + n) } ≡ after_of n c
unfolding after_of
after_placed c h n r p =
    let e = p.is ∙ sym (after_at_lem c h n p.index p.in_month) in
    λ i. record { calendar = e i; century = after_century c h n i }

-- the same by days and seconds of the day
later_century : (d s i : ℕ) → s < 86400 → d * 86400 + s ≡ i → leb 36525 d ≡ leb 3155760000 i
later_century d s i l e = by_day (leb 36525 d) refl
  where
    by_day : (b : Bool) → leb 36525 d ≡ b → b ≡ leb 3155760000 i
    by_day true t = let g = leb-true 36525 d t in sym (le-leb 3155760000 i (omega arith))
    by_day false t = let g = leb-false 36525 d t in sym (lt-leb 3155760000 i (omega arith))

pub after_reached :
    (c : Calendar) (h : T (is_valid c)) (n : ℕ) (r : Calendar)
    → PlacedAt ((day_number c + (time_of c + n) / 86400) * 86400 + (time_of c + n) % 86400)
    ((value c.day + 6 + (time_of c + n) / 86400) % 7 + 1) r
    → record { calendar = r; century = leb 36525 (day_number c + (time_of c + n) / 86400) } ≡ after_of n c
after_reached c h n r p =
    let d = day_number c + (time_of c + n) / 86400 in
    let s = (time_of c + n) % 86400 in
    let t = time_below c (valid_facts c h) in
    let e : d * 86400 + s ≡ instant c + n = omega arith in
    let m : (time_of c + n) / 86400 ≡ (instant c + n) / 86400 - instant c / 86400 = omega arith in
    let q =
    subst (λ (w : ℕ). PlacedAt (instant c + n) w r) (ap (λ (x : ℕ). (value c.day + 6 + x) % 7 + 1) m)
    (subst (λ (i : ℕ). PlacedAt i ((value c.day + 6 + (time_of c + n) / 86400) % 7 + 1) r) e p) in
    let b = later_century d s (instant c + n) (omega arith) e in
    (λ i. record { calendar = r; century = b i }) ∙ after_placed c h n r q

-- ticks leave an invalid calendar as it is
module _ (c : Calendar) (e : is_valid c ≡ false) where
  pub after_invalid : (n : ℕ) → after n c ≡ c
  unfolding after
  after_invalid zero = refl
  after_invalid (suc n) = ap (λ (x : Calendar). (next_of x).calendar) (after_invalid n) ∙ (next_of_invalid c e).0

  pub crossings_invalid : (n : ℕ) → crossings n c ≡ 0
  unfolding crossings
  crossings_invalid zero = refl
  crossings_invalid (suc n) =
      let s = ap (λ (x : Calendar). bit (next_of x).century) (after_invalid n) in
      let t = ap bit (next_of_invalid c e).1 in
      omega (arith, crossings_invalid n)

  pub after_of_invalid : (n : ℕ) → record { calendar = c; century = false } ≡ after_of n c
  unfolding after_of
  after_of_invalid n = λ i. record { calendar = sym (after_invalid n) i; century = sym (ap (ltb 0) (crossings_invalid n)) i }
