-- SPDX-License-Identifier: Apache-2.0
-- Tests joined by `&&` from the left, as one list: the whole passes exactly if each of them does. By induction on the
-- list, with the tests already joined in front of it.
use mathlib.Core.Path.{◌≡◌, refl, subst, sym}
use mathlib.Core.Bool.{Bool, true, false, ◌&&◌}
use mathlib.Core.List.{List, [], ◌∷◌}
use lib.Dec.{T}

-- a test that passes is true, and the other way round
pub test_true : (b : Bool) → T b → b ≡ true
test_true true t = refl
test_true false t = absurd t

pub true_test : (b : Bool) → b ≡ true → T b
true_test b e = subst T (sym e) tt

pub and_left : (a b : Bool) → T (a && b) → T a
and_left true b t = tt
and_left false b t = t

pub and_right : (a b : Bool) → T (a && b) → T b
and_right true b t = t
and_right false b t = absurd t

pub and_both : (a b : Bool) → T a → T b → T (a && b)
and_both true b s t = t
and_both false b s t = s

-- a, and after it each test of the list
abbrev pub joined : Bool → List Bool → Bool
joined a [] = a
joined a (b ∷ bs) = joined (a && b) bs

-- each test of the list passes
infixr 67 ◌also◌
pub data Each : List Bool → Type 0 where
  none : Each []
  ◌also◌ : {b : Bool} {bs : List Bool} → T b → Each bs → Each (b ∷ bs)

joined_parts : (a : Bool) (bs : List Bool) → T (joined a bs) → T a × Each bs
joined_parts a [] t = (t, none)
joined_parts a (b ∷ bs) t =
    let r = joined_parts (a && b) bs t in
    (and_left a b r.0, and_right a b r.0 also r.1)

parts_joined : (a : Bool) (bs : List Bool) → T a → Each bs → T (joined a bs)
parts_joined a [] t none = t
parts_joined a (b ∷ bs) t (s also e) = parts_joined (a && b) bs (and_both a b t s) e

pub joined_each : (bs : List Bool) → T (joined true bs) → Each bs
joined_each bs t = (joined_parts true bs t).1

pub each_joined : (bs : List Bool) → Each bs → T (joined true bs)
each_joined bs e = parts_joined true bs tt e
