-- SPDX-License-Identifier: Apache-2.0
-- Several ticks of a valid calendar: it stays valid, and each tick adds a second, a century's seconds being taken off
-- at each crossing. By induction on the number of ticks.
use mathlib.Core.Path.{◌≡◌}
use Prim.Native.Nat.{ℕ, zero, suc, ◌+◌, ◌*◌}
use native.Mathlib.Omega.{arith}
use lib.Dec.{T}
use Rattle.calendar.specs.Next.{is_valid}
use Rattle.calendar.specs.Instant.{instant}
use Rattle.calendar.specs.After.{after, crossings}
use Rattle.calendar.specs.declared.Calendar.{Calendar}
use Rattle.calendar.proofs.Next.{next_valid, next_instant}

pub after_valid : (n : ℕ) (c : Calendar) → T (is_valid c) → T (is_valid (after n c))
unfolding after
after_valid zero c h = h
after_valid (suc n) c h = next_valid (after n c) (after_valid n c h)

pub after_instant :
    (n : ℕ) (c : Calendar) → T (is_valid c)
    → instant (after n c) + 3155760000 * crossings n c ≡ instant c + n
unfolding after crossings
after_instant zero c h = omega arith
after_instant (suc n) c h = omega (arith, after_instant n c h, next_instant (after n c) (after_valid n c h))
