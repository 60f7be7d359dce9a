-- SPDX-License-Identifier: Apache-2.0
-- `c_catch_up::search::rings_within` meets its contract: what the search tells of the days it tells of the hours, the
-- minutes and the seconds, and so of the ticks. An empty stretch has none.
use native.Mathlib.Omega.{arith}
use Prim.Native.Nat.{ℕ, ◌/◌, ◌≤◌}
use mathlib.Core.Path.{◌≡◌, sym, ◌∙◌}
use borrow.Author.Tests.{leb-true, leb-false}
use Rattle.c_catch_up.specs.Code.Search.{DayRings}
use Rattle.c_catch_up.proofs.Rings.{Passing, tells_narrowed, tells_empty, narrowed_first, rung_by}
use Rattle.c_catch_up.proofs.search.rings_within.Goals as goal

pub returns-then-is_empty : goal.returns-then-is_empty
returns-then-is_empty c =
    let a = c.args.alarm in
    let P = Passing a.minutes 60 (Passing a.hours 24 (DayRings a)) in
    rung_by a c.args.from c.args.n _ c.requires.2
    (tells_narrowed a.seconds 60 _ _ P c.narrowed-minutes.ensures
    (tells_empty P _ _ (leb-true _ _ (sym c.is_empty.ensures ∙ c.if-is_empty.true))))

pub returns-then-is_empty-2 : goal.returns-then-is_empty-2
returns-then-is_empty-2 c =
    let a = c.args.alarm in
    let P = Passing a.hours 24 (DayRings a) in
    rung_by a c.args.from c.args.n _ c.requires.2
    (tells_narrowed a.seconds 60 _ _ (Passing a.minutes 60 P) c.narrowed-minutes.ensures
    (tells_narrowed a.minutes 60 _ _ P c.narrowed-hours.ensures
    (tells_empty P _ _ (leb-true _ _ (sym c.is_empty-2.ensures ∙ c.if-is_empty-2.true)))))

pub returns-then-is_empty-3 : goal.returns-then-is_empty-3
returns-then-is_empty-3 c =
    let a = c.args.alarm in
    let P = Passing a.hours 24 (DayRings a) in
    rung_by a c.args.from c.args.n _ c.requires.2
    (tells_narrowed a.seconds 60 _ _ (Passing a.minutes 60 P) c.narrowed-minutes.ensures
    (tells_narrowed a.minutes 60 _ _ P c.narrowed-hours.ensures
    (tells_narrowed a.hours 24 _ _ (DayRings a) c.narrowed-days.ensures
    (tells_empty (DayRings a) _ _ (leb-true _ _ (sym c.is_empty-3.ensures ∙ c.if-is_empty-3.true))))))

-- the first day that is left is not before the day of the first second
first-day : (x y z i h m d : ℕ) → i ≤ x → x / 60 ≡ m → m ≤ y → y / 60 ≡ h → h ≤ z → z / 24 ≡ d → i / 86400 ≤ d
first-day x y z i h m d a b e f g k = omega arith

pub rings_on-requires : goal.rings_on-requires
rings_on-requires c =
    let minutes = c.narrowed-minutes in
    let hours = c.narrowed-hours in
    let days = c.narrowed-days in
    let ld = leb-false _ _ (sym c.is_empty-3.ensures ∙ c.if-is_empty-3.false) in
    let lh = leb-false _ _ (sym c.is_empty-2.ensures ∙ c.if-is_empty-2.false) in
    let lm = leb-false _ _ (sym c.is_empty.ensures ∙ c.if-is_empty.false) in
    let x = narrowed_first _ 60 _ minutes.result minutes.ensures lm in
    let y = narrowed_first _ 60 _ hours.result hours.ensures lh in
    let z = narrowed_first _ 24 _ days.result days.ensures ld in
    let f =
    first-day x.at y.at z.at _ hours.result.from minutes.result.from days.result.from x.from x.holds y.from y.holds z.from
    z.holds in
    let m = minutes.ensures.most in
    let h = hours.ensures.most in (
      omega (arith, c.requires.0.month, c.requires.0.second),
      ld,
      omega (arith, days.ensures.most, c.requires.0.day, c.requires.0.second, c.requires.2),
    )

pub returns : goal.returns
returns c =
    let a = c.args.alarm in
    let P = Passing a.hours 24 (DayRings a) in
    rung_by a c.args.from c.args.n _ c.requires.2
    (tells_narrowed a.seconds 60 _ _ (Passing a.minutes 60 P) c.narrowed-minutes.ensures
    (tells_narrowed a.minutes 60 _ _ P c.narrowed-hours.ensures
    (tells_narrowed a.hours 24 _ _ (DayRings a) c.narrowed-days.ensures c.rings_on.ensures)))
