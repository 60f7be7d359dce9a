-- SPDX-License-Identifier: Apache-2.0
-- Each field put right: the test of its limits, by what it says of the byte.
use Prim.Native.Nat.{ℕ}
use mathlib.Core.Path.{◌≡◌, refl}
use mathlib.Core.Bool.{Bool, true, false}
use Rattle.calendar.specs.Field.{in_field}
use Rattle.calendar.specs.Mend.{mended_field, ranged_of, mended_of}
use Rattle.calendar.proofs.Tests.{test_true, true_test}
use Rattle.calendar.proofs.Field.{in_field_facts, in_field_test}
use Rattle.law_calendar.specs.Fields.{Digits, Mends, FieldsMended}

module _ (low top x : ℕ) where
  tested : Digits low top x → in_field low top x ≡ true
  tested d =
      test_true (in_field low top x)
      (in_field_test low top x (record { digit = d.digit; least = d.least; most = d.most }))

  told : in_field low top x ≡ true → Digits low top x
  told e =
      let f = in_field_facts low top x (true_test (in_field low top x) e) in
      record { digit = f.digit; least = f.least; most = f.most }

  mends : Mends low top x (mended_field low top x)
  mends = record { stays = λ d. rw (tested d); lowest = λ n. by_test (in_field low top x) refl n }
    where
      by_test : (t : Bool) → in_field low top x ≡ t → (Digits low top x → ⊥) → mended_field low top x ≡ low
      by_test true e n = absurd (n (told e))
      by_test false e n = rw e

pub fields_mended : FieldsMended
unfolding mended_of ranged_of
fields_mended c =
    record {
      seconds = mends 0 59 c.seconds;
      minutes = mends 0 59 c.minutes;
      hours = mends 0 23 c.hours;
      day = mends 1 7 c.day;
      month = mends 1 12 c.month;
      year = mends 0 99 c.year;
    }
