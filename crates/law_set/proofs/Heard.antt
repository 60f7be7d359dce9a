-- SPDX-License-Identifier: Apache-2.0
-- What an event byte is to each device of a set, by the tests that the definition makes of it.
use Prim.Native.Nat.{ℕ, ◌+◌, ◌*◌, ◌/◌, ◌≤◌, ◌<◌}
use mathlib.Core.Path.{◌≡◌, refl, ap, ◌∙◌}
use mathlib.Core.Bool.{Bool, true, false, ◌&&◌}
use native.Mathlib.Omega.{arith}
use lib.Dec.{eqb, ltb}
use borrow.Author.Tests.{eq-eqb, ne_eqb, lt-ltb, le-ltb, ltb-true, ltb-false, eqb-true, eqb-false}
use Rattle.wire.proofs.Tests.{by_test}
use Rattle.set_event.specs.Set.{Together, Place, first, second, third, fourth, number_of, at, hears, own_byte}
use Rattle.set_event.specs.Set.{done_in, after_own, after_at, line_at, after_event}
use Rattle.law_set.specs.Heard.{OnLine, HearsAll, HearsEdges, OthersLeft, AbsentLeft, LineHigh, LineLow}

pub at_after : (t : Together) (v : Place) (e : ℕ) → at v (after_event t e) ≡ after_at t.set.count (number_of v) (at v t) e
at_after t first e = refl
at_after t second e = refl
at_after t third e = refl
at_after t fourth e = refl

-- the tests
module _ (n v e : ℕ) where
  pub hears_all : v < n → e ≤ 7 → hears n v e ≡ true
  unfolding hears
  hears_all h l = rw (lt-ltb v n h, lt-ltb e 8 (omega arith))

  hears_edge : v < n → 8 ≤ e → e / 2 ≡ v + 4 → hears n v e ≡ true
  unfolding hears
  hears_edge h l q = rw (lt-ltb v n h, le-ltb e 8 l, eq-eqb (e / 2) (v + 4) q)

  hears_no_other : 8 ≤ e → (e / 2 ≡ v + 4 → ⊥) → hears n v e ≡ false
  unfolding hears
  hears_no_other l q = rw (le-ltb e 8 l, ne_eqb (e / 2) (v + 4) q) (no_more (ltb v n))
    where
      no_more : (t : Bool) → (t && false) ≡ false
      no_more true = refl
      no_more false = refl

  hears_none : n ≤ v → hears n v e ≡ false
  unfolding hears
  hears_none l = rw (le-ltb v n l)

own_low : (e : ℕ) → e ≤ 7 → own_byte e ≡ e
unfolding own_byte
own_low e l = rw (lt-ltb e 8 (omega arith))

own_edge : (e k : ℕ) → 8 ≤ e → e ≡ k + 2 * (e / 2) → k ≤ 1 → own_byte e ≡ 8 + k
unfolding own_byte
own_edge e k l q h = rw (le-ltb e 8 l) (omega (arith, q))

-- an event that a device hears as this byte, and one that it does not hear
heard : (t : Together) (v : Place) (e k : ℕ) → hears t.set.count (number_of v) e ≡ true → own_byte e ≡ k
    → at v (after_event t e) ≡ after_own (at v t) k
heard t v e k h o = at_after t v e ∙ rw h (ap (after_own (at v t)) o)

unheard : (t : Together) (v : Place) (e : ℕ) → hears t.set.count (number_of v) e ≡ false → at v (after_event t e) ≡ at v t
unheard t v e h = at_after t v e ∙ rw h refl

pub hears_all_events : HearsAll
hears_all_events t v e on l = heard t v e e (hears_all t.set.count (number_of v) e on l) (own_low e l)

pub hears_edges : HearsEdges
hears_edges =
    record {
      first =
          λ t v on. let e = 8 + 2 * number_of v in
          heard t v e 8 (hears_edge t.set.count (number_of v) e on (omega arith) (omega arith))
          (own_edge e 0 (omega arith) (omega arith) (omega arith));
      second =
          λ t v on. let e = 9 + 2 * number_of v in
          heard t v e 9 (hears_edge t.set.count (number_of v) e on (omega arith) (omega arith))
          (own_edge e 1 (omega arith) (omega arith) (omega arith));
    }

pub others_left : OthersLeft
others_left t v e l a b =
    unheard t v e (hears_no_other t.set.count (number_of v) e l (λ q. by_test (eqb (e / 2 * 2) e)
    (λ z. let w = eqb-true (e / 2 * 2) e z in a (omega (arith, q, w)))
    (λ z. let w = eqb-false (e / 2 * 2) e z in b (omega (arith, q)))))

pub absent_left : AbsentLeft
absent_left t v e l = unheard t v e (hears_none t.set.count (number_of v) e l)

-- the line at a place
line_high : (t : Together) (v : Place) (e : ℕ) → e ≤ 7 → (OnLine t v → (done_in (at v t) e).line ≡ true)
    → line_at t.set.count (number_of v) (at v t) e ≡ true
line_high t v e l h =
    by_test (ltb (number_of v) t.set.count)
    (λ z. let on = ltb-true (number_of v) t.set.count z in
    rw (hears_all t.set.count (number_of v) e on l, own_low e l) (h on))
    (λ z. rw (hears_none t.set.count (number_of v) e (ltb-false (number_of v) t.set.count z)) refl)

line_low : (t : Together) (v : Place) (e : ℕ) → e ≤ 7 → OnLine t v → (done_in (at v t) e).line ≡ false
    → line_at t.set.count (number_of v) (at v t) e ≡ false
line_low t v e l on h = rw (hears_all t.set.count (number_of v) e on l, own_low e l) h

pub line_is_high : LineHigh
line_is_high t e l h =
    rw (
      line_high t first e l (h first),
      line_high t second e l (h second),
      line_high t third e l (h third),
      line_high t fourth e l (h fourth),
    )

last_low : (x y : Bool) → y ≡ false → (x && y) ≡ false
last_low true y e = e
last_low false y e = refl

pub line_is_low : LineLow
line_is_low t e first l on h = rw (line_low t first e l on h)
line_is_low t e second l on h =
    last_low (line_at t.set.count 0 (at first t) e) _ (rw (line_low t second e l on h))
line_is_low t e third l on h =
    last_low (line_at t.set.count 0 (at first t) e) _
    (last_low (line_at t.set.count 1 (at second t) e) _ (rw (line_low t third e l on h)))
line_is_low t e fourth l on h =
    last_low (line_at t.set.count 0 (at first t) e) _
    (last_low (line_at t.set.count 1 (at second t) e) _
    (last_low (line_at t.set.count 2 (at third t) e) _ (line_low t fourth e l on h)))
