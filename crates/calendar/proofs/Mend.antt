-- SPDX-License-Identifier: Apache-2.0
-- What is put right is valid; a valid calendar is left as it is; so putting right twice is putting right once.
-- Each field by one law over its limits; then the date, whose month has at least 28 days.
use mathlib.Core.Path.{◌≡◌, refl, ap, ◌∙◌}
use mathlib.Core.Bool.{Bool, true, false}
use Prim.Native.Nat.{ℕ, ◌≤◌, ◌<◌}
use native.Mathlib.Omega.{arith}
use lib.Dec.{T, leb, lit<, lit≤}
use borrow.Author.Tests.{leb-true, le-leb}
use Rattle.calendar.specs.Field.{value, in_field}
use Rattle.calendar.specs.Next.{is_valid, length_of}
use Rattle.calendar.specs.Mend.{mended_field, ranged_of, clipped_date, mended_of}
use Rattle.calendar.specs.declared.Calendar.{Calendar}
use Rattle.calendar.proofs.Tests.{test_true, true_test}
use Rattle.calendar.proofs.Field.{InField, in_field_facts, in_field_test, bcd_digit, value_bcd}
use Rattle.calendar.proofs.Month.{month_length_limits}
use Rattle.calendar.proofs.Valid.{Valid, valid_facts, valid_test}

-- a field that was put right is within its limits
mended_in : (low top x : ℕ) → low < 10 → low ≤ top → InField low top (mended_field low top x)
mended_in low top x small wide = by_test (in_field low top x) refl
  where
    by_test : (t : Bool) → in_field low top x ≡ t → InField low top (mended_field low top x)
    by_test true e = rw e (in_field_facts low top x (true_test (in_field low top x) e))
    by_test false e = rw e (record { digit = omega arith; least = omega arith; most = omega arith })

-- a date that was clipped is within its month
clipped_in : (n x : ℕ) → 1 ≤ n → InField 1 31 x → InField 1 n (clipped_date n x)
clipped_in n x h f = by_test (leb (value x) n) refl
  where
    by_test : (t : Bool) → leb (value x) n ≡ t → InField 1 n (clipped_date n x)
    by_test true e = rw e (record { digit = f.digit; least = f.least; most = leb-true (value x) n e })
    by_test false e =
        let v = value_bcd n in
        rw e (record { digit = bcd_digit n; least = omega arith; most = omega arith })

module _ (c : Calendar) where
  month_in : InField 1 12 (ranged_of c).month
  unfolding ranged_of
  month_in = mended_in 1 12 c.month (lit< tt) (lit≤ tt)

  -- the length of the month that was put right
  ranged_length : (28 ≤ length_of (ranged_of c)) × (length_of (ranged_of c) ≤ 31)
  ranged_length =
      month_length_limits (value (ranged_of c).month) (value (ranged_of c).year) month_in.least month_in.most

  -- as a call returns it
  pub ranged_below : {r : Calendar} {n : ℕ} → r ≡ ranged_of c → n ≡ length_of r → n < 100
  ranged_below {r} {n} e h = let l : n ≡ length_of (ranged_of c) = h ∙ ap length_of e in omega (arith, ranged_length.1)

  date_in : InField 1 (length_of (ranged_of c)) (clipped_date (length_of (ranged_of c)) (ranged_of c).date)
  unfolding ranged_of
  date_in =
      clipped_in (length_of (ranged_of c)) (ranged_of c).date (omega (arith, ranged_length.0))
      (mended_in 1 31 c.date (lit< tt) (lit≤ tt))

  mended_fields : Valid (mended_of c)
  unfolding mended_of ranged_of
  mended_fields =
      record {
        seconds = mended_in 0 59 c.seconds (lit< tt) (lit≤ tt);
        minutes = mended_in 0 59 c.minutes (lit< tt) (lit≤ tt);
        hours = mended_in 0 23 c.hours (lit< tt) (lit≤ tt);
        day = mended_in 1 7 c.day (lit< tt) (lit≤ tt);
        date = date_in;
        month = month_in;
        year = mended_in 0 99 c.year (lit< tt) (lit≤ tt);
      }

  -- 02, number 14: "the output is always valid"
  pub mended_valid : T (is_valid (mended_of c))
  mended_valid = valid_test (mended_of c) mended_fields

kept : (low top x : ℕ) → InField low top x → in_field low top x ≡ true
kept low top x f = test_true (in_field low top x) (in_field_test low top x f)

-- a valid calendar is left as it is
pub mended_same : (c : Calendar) → T (is_valid c) → mended_of c ≡ c
unfolding mended_of ranged_of
mended_same c h =
    let v = valid_facts c h in
    let l = month_length_limits (value c.month) (value c.year) v.month.least v.month.most in
    let d : InField 1 31 c.date =
    record { digit = v.date.digit; least = v.date.least; most = omega (arith, v.date.most, l.1) } in
    rw (
      kept 0 59 c.seconds v.seconds,
      kept 0 59 c.minutes v.minutes,
      kept 0 23 c.hours v.hours,
      kept 1 7 c.day v.day,
      kept 1 12 c.month v.month,
      kept 0 99 c.year v.year,
      kept 1 31 c.date d,
      le-leb (value c.date) (length_of c) v.date.most,
    )

-- 02, number 14: "running it twice changes nothing more"
pub mended_twice : (c : Calendar) → mended_of (mended_of c) ≡ mended_of c
mended_twice c = mended_same (mended_of c) (mended_valid c)
