-- SPDX-License-Identifier: Apache-2.0
-- `c_catch_up::search::rings_on` meets its contract. The invariant: `month` starts on `day` or before it, and no day before `day`
-- rings. The measure is the months left.
use Prim.Native.Nat.{ℕ, ◌-◌, ◌≤◌, ◌<◌}
use Rattle.calendar.specs.Instant.{month_start}
use Rattle.c_catch_up.specs.Code.Search.{DayRings}
use Rattle.c_catch_up.proofs.search.rings_on.Given as goal

abbrev pub invariant-loop-day : goal.invariant-loop-day
invariant-loop-day l =
    (month_start l.month ≤ l.day) × (l.initial.day ≤ l.day) × ((d : ℕ) → l.initial.day ≤ d → d < l.day → d < l.days.to → DayRings l.alarm d → ⊥)

abbrev pub decreases-loop-day : goal.decreases-loop-day
decreases-loop-day l = 2400 - l.month
