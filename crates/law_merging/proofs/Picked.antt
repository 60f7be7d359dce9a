-- SPDX-License-Identifier: Apache-2.0
-- What is picked of a list that was mapped is what was picked, mapped.
use mathlib.Core.Path.{◌≡◌, refl, ap}
use mathlib.Core.Bool.{Bool, true, false}
use mathlib.Core.List.{List, [], ◌∷◌, map}
use Rattle.law_merging.specs.Merge.{Said, by, keep_if, picked}

keep_map : {A B : Type 0} (f : A → B) (t : Bool) (a : A) (x : List B) (y : List A) → x ≡ map f y
    → keep_if t (f a) x ≡ map f (keep_if t a y)
keep_map {B = B} f true a x y e = ap (λ (z : List B). f a ∷ z) e
keep_map f false a x y e = e

pub picked_map : {I T A B : Type 0} (f : A → B) (mine : I → Bool) (l : List (Said I T)) (all : List A)
    → picked mine l (map f all) ≡ map f (picked mine l all)
picked_map f mine [] all = refl
picked_map f mine (by i e ∷ l) [] = refl
picked_map f mine (by i e ∷ l) (a ∷ all) =
    keep_map f (mine i) a (picked mine l (map f all)) (picked mine l all) (picked_map f mine l all)
