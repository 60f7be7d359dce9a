-- SPDX-License-Identifier: Apache-2.0
-- What the definitions of a whole transaction and of a merge say. No reader stands at a ninth clock of a slave byte, so
-- that what `Calls` and `onward` say there is said of none (`reader_early`, `early_place`). Of the eight clocks after a
-- Start it is asked that the party may name whom the byte that they make names, and no more (`eight_clocks_lem`); of seven,
-- nothing (`seven_clocks`); nor of any clocks past a slave byte (`moving_clocks`). Whole lists join (`whole_join`), and
-- open with a Start, if not with a tick (`whole_opens`).
use Prim.Native.Nat.{ℕ, ◌<◌}
use mathlib.Core.Path.{◌≡◌, refl, sym, subst}
use mathlib.Core.Logic.{◌↔◌}
use mathlib.Core.Bool.{Bool, true, false, cond}
use mathlib.Core.List.{List, [], ◌∷◌, ◌++◌}
use native.Mathlib.Omega.{arith}
use lib.Dec.{eqb, ltb}
use borrow.Author.Tests.{ltb-true, ltb-false, eqb-true, eqb-false}
use Rattle.wire.specs.Bits.{pushed, Place, first, within, last, ack, place_at}
use Rattle.wire.specs.Machine.{Parts, Line, start, stop, clock, line, tick}
use Rattle.law_merging.specs.Merge.{Reader, between, calling, moving, onward, next}
use Rattle.law_merging.specs.Party.{Party, MayName, BusEvent, WholeFrom, Whole}
use Rattle.law_merging.specs.Clocks.{clocks}

-- fewer than eight clocks of a slave byte were seen
abbrev pub Early : Reader → Type 0
Early between = Unit {0}
Early (calling k b) = k < 8
Early moving = Unit {0}

abbrev pub read_on : Reader → List Line → Reader
read_on q [] = q
read_on q (x ∷ xs) = read_on (next q x) xs

onward_early : (k b : ℕ) (d : Bool) (x y z : Bool) → eqb k 0 ≡ x → ltb k 7 ≡ y → eqb k 7 ≡ z
    → Early (onward (cond x first (cond y within (cond z last ack))) k b d)
onward_early k b d true y z p q r = omega (arith, eqb-true k 0 p)
onward_early k b d false true z p q r = omega (arith, ltb-true k 7 q)
onward_early k b d false false true p q r = tt
onward_early k b d false false false p q r = tt

next_early : (q : Reader) (x : Line) → Early q → Early (next q x)
unfolding place_at
next_early q start h = omega arith
next_early q stop h = tt
next_early between (clock d) h = tt
next_early (calling k b) (clock d) h = onward_early k b d (eqb k 0) (ltb k 7) (eqb k 7) refl refl refl
next_early moving (clock d) h = tt

pub reader_early : (q : Reader) (xs : List Line) → Early q → Early (read_on q xs)
reader_early q [] h = h
reader_early q (x ∷ xs) h = reader_early (next q x) xs (next_early q x h)

abbrev pub AtNinth : Place → Type 0
AtNinth first = ⊥
AtNinth within = ⊥
AtNinth last = ⊥
AtNinth ack = Unit {0}

early_tests : (k : ℕ) (x y z : Bool) → ltb k 7 ≡ y → eqb k 7 ≡ z → k < 8
    → AtNinth (cond x first (cond y within (cond z last ack))) → ⊥
early_tests k true y z q r h a = a
early_tests k false true z q r h a = a
early_tests k false false true q r h a = a
early_tests k false false false q r h a = eqb-false k 7 r (omega (arith, ltb-false k 7 q))

pub early_place : (k : ℕ) → k < 8 → AtNinth (place_at k) → ⊥
unfolding place_at
early_place k h a = early_tests k (eqb k 0) (ltb k 7) (eqb k 7) refl refl h a

module _ (P : Parts) (i : Party) where
  pub eight_clocks_lem : (a b c d e f g h : Bool) (es : List (BusEvent P))
      → WholeFrom P i (calling 0 0) (clocks (a ∷ b ∷ c ∷ d ∷ e ∷ f ∷ g ∷ h ∷ []) es)
      ↔ (MayName i (P.names (pushed (pushed (pushed (pushed (pushed (pushed (pushed (pushed 0 a) b) c) d) e) f) g) h))
      × WholeFrom P i moving es)
  unfolding place_at
  eight_clocks_lem a b c d e f g h es =
      (λ w. w.1.1.1.1.1.1.1, λ w. (tt, (tt, (tt, (tt, (tt, (tt, (tt, w))))))))

  pub seven_clocks : (a b c d e f g : Bool) (es : List (BusEvent P))
      → WholeFrom P i (calling 0 0) (clocks (a ∷ b ∷ c ∷ d ∷ e ∷ f ∷ g ∷ []) (line stop ∷ es)) ↔ Whole P i es
  unfolding place_at
  seven_clocks a b c d e f g es =
      (λ w. w.1.1.1.1.1.1.1.1, λ w. (tt, (tt, (tt, (tt, (tt, (tt, (tt, (tt, w)))))))))

  pub moving_clocks : (ds : List Bool) (es : List (BusEvent P)) → WholeFrom P i moving es
      → WholeFrom P i moving (clocks ds es)
  moving_clocks [] es w = w
  moving_clocks (d ∷ ds) es w = (tt, moving_clocks ds es w)

  pub whole_join : (q : Reader) (es fs : List (BusEvent P)) → WholeFrom P i q es → Whole P i fs
      → WholeFrom P i q (es ++ fs)
  whole_join q [] fs h w = subst (λ (z : Reader). WholeFrom P i z fs) (sym h) w
  whole_join q (line x ∷ es) fs h w = (h.0, whole_join (next q x) es fs h.1 w)
  whole_join q (tick t ∷ es) fs h w = (h.0, whole_join q es fs h.1 w)

  pub whole_opens : (x : Line) (es : List (BusEvent P)) → Whole P i (line x ∷ es) → x ≡ start
  whole_opens start es h = refl
  whole_opens stop es h = absurd h.0
  whole_opens (clock d) es h = absurd h.0
