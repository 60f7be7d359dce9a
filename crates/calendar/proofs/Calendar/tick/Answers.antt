-- SPDX-License-Identifier: Apache-2.0
-- `calendar::Calendar::tick` meets its contract. The date's greatest number is the month's length, at most 31. What the steps
-- return is the definition's fields one by one.
use mathlib.Core.Path.{subst, sym}
use Prim.Native.Nat.{ℕ, ◌<◌}
use native.Mathlib.Omega.{arith}
use lib.Dec.{T}
use Rattle.calendar.specs.Field.{value, in_field}
use Rattle.calendar.proofs.Field.{in_field_test}
use Rattle.calendar.proofs.Month.{month_length_limits}
use Rattle.calendar.proofs.Valid.{valid_facts}
use Rattle.calendar.proofs.Tick.{tick_of_steps}
use Rattle.calendar.proofs.Calendar.tick.Goals as goal

pub step-date-requires : goal.step-date-requires
step-date-requires c =
    let v = valid_facts _ c.requires in
    let m = month_length_limits _ (value c.args.self.year) v.month.least v.month.most in
    subst (λ (n : ℕ). T (in_field 1 n c.args.self.date) × (n < 100)) (sym c.length-length.ensures)
    (in_field_test _ _ _ v.date, omega (arith, m.1))

pub returns : goal.returns
returns c =
    tick_of_steps c.args.self (valid_facts _ c.requires) c.length-length.ensures
    c.step-seconds.ensures
    c.step-minutes.ensures
    c.step-hours.ensures
    c.step-day.ensures
    c.step-date.ensures
    c.step-month.ensures
    c.step-year.ensures
    c.highest-rolled.ensures
