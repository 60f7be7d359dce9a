-- SPDX-License-Identifier: Apache-2.0
-- Where a valid calendar stands, by the start of its month.
use mathlib.Core.Path.{◌≡◌, ◌∙◌, ap}
use Prim.Native.Nat.{ℕ, ◌+◌, ◌*◌, ◌-◌}
use native.Mathlib.Omega.{arith}
use lib.Dec.{T}
use Rattle.calendar.specs.Field.{value}
use Rattle.calendar.specs.Next.{is_valid}
use Rattle.calendar.specs.Instant.{month_start, month_index, day_number, time_of}
use Rattle.calendar.specs.declared.Calendar.{Calendar}
use Rattle.calendar_days.specs.Code.Places.{moment_of, Standing}
use Rattle.calendar.proofs.Valid.{valid_facts}
use Rattle.law_century.proofs.Instants.{day_below, time_below}

-- the year, the month, the start and the date as they were read
pub stood : (c : Calendar) {y m s d t : ℕ} → y ≡ value c.year → m ≡ value c.month
    → s ≡ month_start (12 * y + (m - 1)) → d ≡ value c.date → t ≡ time_of c
    → record { month = 12 * y + (m - 1); day = s + (d - 1); second = t } ≡ moment_of c
stood c {y} {m} {s} {d} {t} ey em es ed et =
    let k : 12 * y + (m - 1) ≡ month_index c =
    ap (λ (n : ℕ). 12 * n + (m - 1)) ey ∙ ap (λ (n : ℕ). 12 * value c.year + (n - 1)) em in
    let day : s + (d - 1) ≡ day_number c =
    ap (λ (n : ℕ). n + (d - 1)) (es ∙ ap month_start k) ∙ ap (λ (n : ℕ). month_start (month_index c) + (n - 1)) ed in
    λ i. record { month = k i; day = day i; second = et i }

pub stands : (c : Calendar) → T (is_valid c) → Standing (moment_of c)
stands c h =
    let v = valid_facts c h in
    record { month = omega arith; day = day_below c v; second = time_below c v }
