-- SPDX-License-Identifier: Apache-2.0
-- A call's events: whether some is one of the bus, and whether they free it.
use Prim.Native.Nat.{ℕ, ◌≤◌, ◌<◌}
use mathlib.Core.Path.{◌≡◌, refl, sym, ◌∙◌}
use mathlib.Core.Bool.{Bool, true, ◌||◌, or_assoc, or-false}
use mathlib.Core.List.{List, [], ◌∷◌}
use native.Mathlib.Omega.{arith}
use lib.Dec.{leb, eqb}
use borrow.Author.Tests.{le-leb, lt-leb, eqb-true, eqb-false, ne_eqb}
use Rattle.std.specs.List.{list_any}
use Rattle.std.proofs.Common.{fold}
use Rattle.wire.proofs.Tests.{by_test}
use Rattle.fm3130.specs.Event.{happening}
use Rattle.masters_hold.specs.Bus.{is_bus, any_bus, freed_by, frees}

-- events 0 to 3 are those of the bus
pub bus_byte_lem : (e : ℕ) → is_bus (happening e) ≡ leb e 3
unfolding happening
bus_byte_lem e =
    by_test (eqb e 0) (λ a. let z = eqb-true e 0 a in rw (a, le-leb e 3 (omega arith)) refl)
    (λ a. by_test (eqb e 1) (λ b. let z = eqb-true e 1 b in rw (a, b, le-leb e 3 (omega arith)) refl)
    (λ b. by_test (eqb e 2) (λ c. let z = eqb-true e 2 c in rw (a, b, c, le-leb e 3 (omega arith)) refl)
    (λ c. by_test (eqb e 3) (λ d. let z = eqb-true e 3 d in rw (a, b, c, d, le-leb e 3 (omega arith)) refl)
    (λ d. rw (a, b, c, d, lt-leb e 3 (above e (eqb-false e 0 a) (eqb-false e 1 b) (eqb-false e 2 c) (eqb-false e 3 d)))
    (by_test (eqb e 4) (λ f. rw f refl)
    (λ f. by_test (eqb e 5) (λ g. rw (f, g) refl) (λ g. by_test (eqb e 6) (λ h. rw (f, g, h) refl)
    (λ h. by_test (eqb e 7) (λ i. rw (f, g, h, i) refl) (λ i. rw (f, g, h, i) refl)))))))))
  where
    above : (e : ℕ) → (e ≡ 0 → ⊥) → (e ≡ 1 → ⊥) → (e ≡ 2 → ⊥) → (e ≡ 3 → ⊥) → 3 < e
    above e p q r s = omega arith

pub any_listed : (es : List ℕ) → list_any (λ e. leb e 3) es ≡ any_bus es
any_listed [] = refl
any_listed (e ∷ es) = rw (bus_byte_lem e, any_listed es) refl

pub any_fold : (k : Bool) (es : List ℕ) → fold (λ k e. k || leb e 3) k es ≡ (k || any_bus es)
any_fold k [] = sym (or-false k)
any_fold k (e ∷ es) = any_fold (k || leb e 3) es ∙ rw (bus_byte_lem e) (or_assoc k (leb e 3) (any_bus es))

pub frees_fold : (f : Bool) (es : List ℕ) → fold (λ f e. freed_by f (happening e)) f es ≡ frees f es
frees_fold f [] = refl
frees_fold f (e ∷ es) = frees_fold (freed_by f (happening e)) es

-- events 5 and 6 free
pub freed_late : (f : Bool) (e : ℕ) → 5 ≤ e → e ≤ 6 → freed_by f (happening e) ≡ true
unfolding happening
freed_late f e a b =
    by_test (eqb e 5) (λ p. rw (eqb-true e 5 p))
    (λ p. let n = eqb-false e 5 p in let six : e ≡ 6 = omega arith in rw six)

-- an event that is neither a Start nor one that frees
pub freed_other : (f : Bool) (e : ℕ) → (e ≡ 0 → ⊥) → (e ≡ 1 → ⊥) → (e ≡ 5 → ⊥) → (e ≡ 6 → ⊥) → freed_by f (happening e) ≡ f
unfolding happening
freed_other f e p q r s =
    rw (ne_eqb e 0 p, ne_eqb e 1 q, ne_eqb e 5 r, ne_eqb e 6 s)
    (by_test (eqb e 2) (λ a. rw a refl) (λ a. by_test (eqb e 3) (λ b. rw (a, b) refl)
    (λ b. by_test (eqb e 4) (λ c. rw (a, b, c) refl) (λ c. by_test (eqb e 7) (λ d. rw (a, b, c, d) refl)
    (λ d. rw (a, b, c, d) refl)))))
