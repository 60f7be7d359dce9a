-- SPDX-License-Identifier: Apache-2.0
-- What the tests of the lent byte and of the master's number say.
use Prim.Native.Nat.{ℕ, ◌≤◌}
use mathlib.Core.Path.{◌≡◌, refl, sym, ap, ◌∙◌}
use mathlib.Core.Bool.{Bool, true, false, cond, ◌&&◌, false≢true}
use mathlib.Core.List.{List, [], ◌∷◌}
use native.Mathlib.Omega.{arith}
use lib.Dec.{eqb, leb}
use lib.ListN.{length, get_or, set}
use borrow.Author.Tests.{eq-eqb, ne_eqb, eqb-true, le-leb}
use Rattle.std.specs.Prelude.{Option, Some, None}
use Rattle.wire.proofs.Tests.{by_test, and_split}
use Rattle.masters_hold.specs.Bus.{Holder, holder_of, master_of, is_known, standing_of}
use Rattle.masters_hold.specs.declared.Master.{Master}
use Rattle.masters_hold.specs.declared.Standing.{Standing}

has : {A : Type 0} → Option A → Bool
has (Some x) = true
has None = false

some-ne : {A : Type 0} {x : A} → Some x ≡ None → ⊥
unfolding has
some-ne e = false≢true (sym (ap has e))

in_it : {A : Type 0} → A → Option A → A
in_it d (Some x) = x
in_it d None = d

Some-inj : {A : Type 0} {x y : A} → Some x ≡ Some y → x ≡ y
unfolding in_it
Some-inj {x = x} e = ap (in_it x) e

-- the tests of a byte, of a holder and of a master, and what they give
module _ (b : List ℕ) (x : ℕ) where
  abbrev said : Standing
  said = record { holder = holder_of (get_or b 0 0); master = master_of x }

  pub standing_long : (length b ≡ 1 → ⊥) → standing_of b x ≡ None
  unfolding standing_of
  standing_long h = rw (ne_eqb (length b) 1 h)

  module _ (one : length b ≡ 1) where
    one_standing : standing_of b x ≡ cond (leb (get_or b 0 0) 2 && (leb 1 x && leb x 2)) (Some said) None
    unfolding standing_of
    one_standing = rw (eq-eqb (length b) 1 one) refl

    no_holder : (p q : Bool) → cond p (Some (holder_of (get_or b 0 0))) None ≡ None → cond (p && q) (Some said) None ≡ None
    no_holder true q e = absurd (some-ne e)
    no_holder false q e = refl

    pub standing_holder : cond (leb (get_or b 0 0) 2) (Some (holder_of (get_or b 0 0))) None ≡ None → standing_of b x ≡ None
    standing_holder e = one_standing ∙ no_holder (leb (get_or b 0 0) 2) (leb 1 x && leb x 2) e

    no_master : (p q : Bool) → cond q (Some (master_of x)) None ≡ None → cond (p && q) (Some said) None ≡ None
    no_master true true e = absurd (some-ne e)
    no_master true false e = refl
    no_master false q e = refl

    pub standing_master : cond (leb 1 x && leb x 2) (Some (master_of x)) None ≡ None → standing_of b x ≡ None
    standing_master e = one_standing ∙ no_master (leb (get_or b 0 0) 2) (leb 1 x && leb x 2) e

    both : (p q : Bool) (g : Holder) (y : Master) → cond p (Some (holder_of (get_or b 0 0))) None ≡ Some g
        → cond q (Some (master_of x)) None ≡ Some y
        → cond (p && q) (Some said) None ≡ Some (record { holder = g; master = y })
    both true true g y e f = rw (Some-inj e, Some-inj f)
    both true false g y e f = absurd (some-ne (sym f))
    both false q g y e f = absurd (some-ne (sym e))

    pub standing_both : (g : Holder) (y : Master)
        → cond (leb (get_or b 0 0) 2) (Some (holder_of (get_or b 0 0))) None ≡ Some g
        → cond (leb 1 x && leb x 2) (Some (master_of x)) None ≡ Some y
        → standing_of b x ≡ Some (record { holder = g; master = y })
    standing_both g y e f = one_standing ∙ both (leb (get_or b 0 0) 2) (leb 1 x && leb x 2) g y e f

pub standing_known : (b : List ℕ) (x : ℕ) → length b ≡ 1 → get_or b 0 0 ≤ 2 → 1 ≤ x → x ≤ 2
    → standing_of b x ≡ Some (record { holder = holder_of (get_or b 0 0); master = master_of x })
unfolding standing_of
standing_known b x one byte some h =
    rw (eq-eqb (length b) 1 one, le-leb (get_or b 0 0) 2 byte, le-leb 1 x some, le-leb x 2 h)

-- where both exist, one byte is lent
pub one_byte : (b : List ℕ) (x : ℕ) (s : Standing) → standing_of b x ≡ Some s → length b ≡ 1
unfolding standing_of
one_byte b x s h =
    by_test (is_known b x) (λ k. eqb-true (length b) 1 (and_split (eqb (length b) 1) _ k).0)
    (λ k. let z : None ≡ Some s = rw k at h in absurd (some-ne (sym z)))

pub one_set : (b : List ℕ) (v : ℕ) → length b ≡ 1 → set b 0 v ≡ v ∷ []
one_set [] v h = absurd (omega arith)
one_set (y ∷ []) v h = refl
one_set (y ∷ z ∷ b) v h = absurd (omega arith)
