-- SPDX-License-Identifier: Apache-2.0
-- A look that sees what the one before it saw changes nothing of what the looks spell.
use Prim.Native.Nat.{ℕ}
use mathlib.Core.Path.{◌≡◌, refl, ap, ◌∙◌}
use mathlib.Core.Bool.{Bool, true, false, cond, ◌&&◌, beq, false≢true}
use mathlib.Core.List.{List, [], ◌∷◌, ◌++◌, append-nil}
use Rattle.pins_levels.specs.Wave.{steady, clock_of, end_of, happened, spelt, is_settled, Repeated}
use Rattle.pins_levels.specs.declared.Seen.{Seen}
use Rattle.pins_levels.specs.declared.Seen.TheVariants.{Low, Fell, High}

twice_and : (d e b : Bool) → (beq d e && (beq d e && b)) ≡ (beq d e && b)
twice_and true true b = refl
twice_and true false b = refl
twice_and false true b = refl
twice_and false false b = refl

steady_twice : (d : Bool) (xs w : List Seen) (v : Seen) → is_settled v ≡ true
    → steady d (xs ++ (v ∷ v ∷ w)) ≡ steady d (xs ++ (v ∷ w))
unfolding steady
steady_twice d [] w Low s = refl
steady_twice d [] w Fell s = absurd (false≢true s)
steady_twice d [] w (High e) s = twice_and d e (steady d w)
steady_twice d (Low ∷ xs) w v s = refl
steady_twice d (Fell ∷ xs) w v s = refl
steady_twice d (High e ∷ xs) w v s = ap (λ (b : Bool). beq d e && b) (steady_twice d xs w v s)

steady_own : (d : Bool) (w : List Seen) → steady d (High d ∷ w) ≡ steady d w
unfolding steady
steady_own true w = refl
steady_own false w = refl

end_own : (d : Bool) (w : List Seen) → end_of d (High d ∷ w) ≡ end_of d w
end_own d w = ap (λ (b : Bool). cond b (clock_of d ∷ []) []) (steady_own d w)

end_twice : (d : Bool) (xs w : List Seen) (v : Seen) → is_settled v ≡ true
    → end_of d (xs ++ (v ∷ v ∷ w)) ≡ end_of d (xs ++ (v ∷ w))
end_twice d xs w v s = ap (λ (b : Bool). cond b (clock_of d ∷ []) []) (steady_twice d xs w v s)

happened_twice : (xs w : List Seen) (v x : Seen) → is_settled v ≡ true
    → happened (xs ++ (v ∷ v ∷ w)) x ≡ happened (xs ++ (v ∷ w)) x
unfolding happened
happened_twice [] w Low x s = refl
happened_twice [] w Fell x s = refl
happened_twice [] w (High d) Low s = end_own d w
happened_twice [] w (High d) Fell s = end_own d w
happened_twice [] w (High d) (High e) s = refl
happened_twice (Low ∷ xs) w v x s = refl
happened_twice (Fell ∷ xs) w v x s = refl
happened_twice (High d ∷ xs) w v Low s = end_twice d xs w v s
happened_twice (High d ∷ xs) w v Fell s = end_twice d xs w v s
happened_twice (High d ∷ xs) w v (High e) s = refl

happened_own : (w : List Seen) (v : Seen) → is_settled v ≡ true → happened (v ∷ w) v ≡ []
unfolding happened
happened_own w Low s = refl
happened_own w Fell s = refl
happened_own w (High true) s = refl
happened_own w (High false) s = refl

pub repeated : Repeated
unfolding spelt
repeated [] w v s = ap (λ (l : List ℕ). spelt (v ∷ w) ++ l) (happened_own w v s) ∙ append-nil (spelt (v ∷ w))
repeated (x ∷ xs) w v s =
    ap (λ (l : List ℕ). l ++ happened (xs ++ (v ∷ v ∷ w)) x) (repeated xs w v s)
    ∙ ap (λ (l : List ℕ). spelt (xs ++ (v ∷ w)) ++ l) (happened_twice xs w v x s)
