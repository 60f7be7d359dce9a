-- SPDX-License-Identifier: Apache-2.0
-- The tick of any calendar: a valid one stays valid and moves on by one second of its century, an invalid one stays
-- as it is and gives no flag.
use mathlib.Core.Path.{◌≡◌, refl}
use mathlib.Core.Bool.{false}
use Prim.Native.Nat.{◌+◌, ◌*◌}
use lib.Dec.{T}
use Rattle.calendar.specs.Field.{bit}
use Rattle.calendar.specs.Next.{is_valid, tick_of, next_of}
use Rattle.calendar.specs.Instant.{instant}
use Rattle.calendar.specs.declared.Calendar.{Calendar}
use Rattle.calendar.proofs.Tests.{test_true}
use Rattle.calendar.proofs.Valid.{valid_facts, valid_test}
use Rattle.calendar.proofs.Tick.{tick_valid}
use Rattle.calendar.proofs.Instant.{tick_instant}

pub next_of_valid : (c : Calendar) → T (is_valid c) → next_of c ≡ tick_of c
unfolding next_of
next_of_valid c h = rw (test_true (is_valid c) h)

pub next_of_invalid : (c : Calendar) → is_valid c ≡ false → ((next_of c).calendar ≡ c) × ((next_of c).century ≡ false)
unfolding next_of
next_of_invalid c h = rw h (refl, refl)

pub next_valid : (c : Calendar) → T (is_valid c) → T (is_valid (next_of c).calendar)
next_valid c h = rw (next_of_valid c h) (valid_test (tick_of c).calendar (tick_valid c (valid_facts c h)))

pub next_instant :
    (c : Calendar) → T (is_valid c)
    → instant (next_of c).calendar + 3155760000 * bit (next_of c).century ≡ instant c + 1
next_instant c h = rw (next_of_valid c h) (tick_instant c (valid_facts c h))
