-- SPDX-License-Identifier: Apache-2.0
-- `c_catch_up::search::rings_on` meets its contract. The invariant: `month` starts on `day` or before it, and no day before `day`
-- rings. The measure is the months left.
use native.Mathlib.Omega.{arith}
use Prim.Native.Nat.{ℕ, ◌≤◌, ◌<◌}
use mathlib.Core.Path.{sym, ◌∙◌}
use Rattle.calendar.specs.Instant.{month_start}
use Rattle.calendar_days.proofs.Months.{month_start_near}
use Rattle.c_catch_up.proofs.Rings.{none_skipped, none_later, tells_first, tells_none, tells_some}
use Rattle.c_catch_up.proofs.search.rings_on.Goals as goal

early : (d k : ℕ) → month_start k ≤ d → d < 72000 → k < 2380
early d k m h = omega (arith, (month_start_near k).1)

pub returns-then-has-2 : goal.returns-then-has-2
returns-then-has-2 c =
    tells_first _ _ _ (sym c.has.ensures ∙ c.if-has.true) (sym c.has-then-has.ensures ∙ c.if-has-2.true) c.requires.1
    c.requires.2

pub loop-day-init : goal.loop-day-init
loop-day-init c = (c.requires.0, omega arith, λ d l h k. omega arith)

pub rings_in-requires : goal.rings_in-requires
rings_in-requires c =
    let l = c.loop-day in
    let t = c.loop-day-test.true in
    let e = early l.day l.month l.invariant.0 (omega (arith, t, c.requires.2)) in
    (omega arith, l.invariant.0, t)

pub returns-then-rings_in : goal.returns-then-rings_in
returns-then-rings_in c =
    let l = c.loop-day in
    tells_some _ _ l.day _ l.month l.invariant.1 (c.rings_in.ensures.yes c.if-rings_in.true)

pub next_month-month-requires : goal.next_month-month-requires
next_month-month-requires c =
    let l = c.loop-day in
    let e = early l.day l.month l.invariant.0 (omega (arith, c.loop-day-test.true, c.requires.2)) in
    omega arith

pub month_start-requires : goal.month_start-requires
month_start-requires c =
    let l = c.loop-day in
    let e = early l.day l.month l.invariant.0 (omega (arith, c.loop-day-test.true, c.requires.2)) in
    omega (arith, c.next_month-month.ensures.most)

pub loop-day-smaller : goal.loop-day-smaller
loop-day-smaller c =
    let l = c.loop-day in
    let e = early l.day l.month l.invariant.0 (omega (arith, c.loop-day-test.true, c.requires.2)) in
    omega (arith, c.next_month-month.ensures.after)

pub loop-day-preserved : goal.loop-day-preserved
loop-day-preserved c =
    let l = c.loop-day in
    rw (c.max-day.ensures, c.month_start.ensures.0) (
      omega arith,
      omega (arith, l.invariant.1),
      none_later _ _ l.day _ _ l.invariant.2
          (none_skipped _ _ l.day _ l.month c.next_month-month.result l.invariant.2
          (c.rings_in.ensures.no c.if-rings_in.false) c.next_month-month.ensures),
    )

pub returns : goal.returns
returns c =
    let l = c.loop-day in
    tells_none _ _ _ (λ d b h. l.invariant.2 d b (omega (arith, c.loop-day-test.false)) h)
