-- SPDX-License-Identifier: Apache-2.0
-- No second outcome satisfies an entry's contract. The checker's is by cases that exclude each other; the others say
-- that what comes out is one definition of what went in. And the verdict is `Accepted` exactly where the setting is to
-- be accepted.
use Prim.Native.Nat.{ℕ}
use mathlib.Core.Path.{◌≡◌, refl, sym, ap, subst, ◌∙◌}
use mathlib.Core.Bool.{Bool, true, false}
use mathlib.Core.Logic.{◌↔◌}
use native.Mathlib.Omega.{arith}
use lib.Dec.{T}
use lib.IntN.{ℤ}
use Rattle.std.specs.Prelude.{Option, Result, Ok, Err}
use Rattle.c_trim.specs.Residue.{in_range, Coded}
use Rattle.c_trim.specs.Verdict.{Nearest, Acceptable, CheckSettled}
use Rattle.c_trim.specs.Proposal.{ProposeSettled}
use Rattle.c_trim.specs.Entries.{setting_of, verdict_number, Told}
use Rattle.c_trim.specs.Entries.{CheckNumberSettled, ResidueSettled, ProposeNumberSettled}
use Rattle.c_trim.specs.declared.Setting.{Setting}
use Rattle.c_trim.specs.declared.Verdict.{Verdict}
use Rattle.c_trim.specs.declared.Verdict.TheVariants.{Accepted, NotNearest, ErrorOutOfRange, CodeAbove31}
use Rattle.c_trim.specs.declared.UnknownSign.{UnknownSign}

-- ---- the checker, one verdict after the other

-- no test is both passed and failed
pub clash : (b : Bool) → b ≡ true → b ≡ false → ⊥
clash b p q = subst T (sym p ∙ q) tt

pub accepted_only : (e : ℤ) (s : Setting) (v : Verdict) → Acceptable e s → CheckSettled e s v → v ≡ Accepted
accepted_only e s Accepted p q = refl
accepted_only e s NotNearest p q = absurd (q.2 p.nearest)
accepted_only e s ErrorOutOfRange p q = absurd (clash (in_range e) p.ranged q)
accepted_only e s CodeAbove31 p q = absurd (omega (arith, p.coded, q.1))

not_nearest_only : (e : ℤ) (s : Setting) (v : Verdict)
    → CheckSettled e s NotNearest → CheckSettled e s v → v ≡ NotNearest
not_nearest_only e s Accepted p q = absurd (p.2 q.nearest)
not_nearest_only e s NotNearest p q = refl
not_nearest_only e s ErrorOutOfRange p q = absurd (clash (in_range e) p.0 q)
not_nearest_only e s CodeAbove31 p q = absurd (omega (arith, p.1, q.1))

out_of_range_only : (e : ℤ) (s : Setting) (v : Verdict) → in_range e ≡ false → CheckSettled e s v → v ≡ ErrorOutOfRange
out_of_range_only e s Accepted p q = absurd (clash (in_range e) q.ranged p)
out_of_range_only e s NotNearest p q = absurd (clash (in_range e) q.0 p)
out_of_range_only e s ErrorOutOfRange p q = refl
out_of_range_only e s CodeAbove31 p q = absurd (clash (in_range e) q.0 p)

code_above_only : (e : ℤ) (s : Setting) (v : Verdict)
    → CheckSettled e s CodeAbove31 → CheckSettled e s v → v ≡ CodeAbove31
code_above_only e s Accepted p q = absurd (omega (arith, p.1, q.coded))
code_above_only e s NotNearest p q = absurd (omega (arith, p.1, q.1))
code_above_only e s ErrorOutOfRange p q = absurd (clash (in_range e) p.0 q)
code_above_only e s CodeAbove31 p q = refl

pub check_unique : (e : ℤ) (s : Setting) (v w : Verdict) → CheckSettled e s v → CheckSettled e s w → v ≡ w
check_unique e s Accepted w p q = sym (accepted_only e s w p q)
check_unique e s NotNearest w p q = sym (not_nearest_only e s w p q)
check_unique e s ErrorOutOfRange w p q = sym (out_of_range_only e s w p q)
check_unique e s CodeAbove31 w p q = sym (code_above_only e s w p q)

-- what the code has found out says the verdict
pub settled_accepted : (e : ℤ) (s : Setting) → in_range e ≡ true → Coded s → Nearest e s → CheckSettled e s Accepted
settled_accepted e s q h n = record { ranged = q; coded = h; nearest = n }

pub settled_not_nearest : (e : ℤ) (s : Setting) → in_range e ≡ true → Coded s → (Nearest e s → ⊥)
    → CheckSettled e s NotNearest
settled_not_nearest e s q h f = (q, h, f)

-- "accepts it exactly if"
pub accepted_exactly : (e : ℤ) (s : Setting) (v : Verdict) → CheckSettled e s v → (v ≡ Accepted) ↔ Acceptable e s
accepted_exactly e s v p = ((λ q. subst (CheckSettled e s) q p), (λ a. accepted_only e s v a p))

-- ---- the others

-- what equals one definition is one thing
unique : {A : Type 0} {x y d : A} → x ≡ d → y ≡ d → x ≡ y
unique p q = p ∙ sym q

pub propose_unique : (e : ℤ) (p p₂ : Option Setting) → ProposeSettled e p → ProposeSettled e p₂ → p ≡ p₂
propose_unique e p p₂ h k = unique h k

told_unique : (e : ℤ) (x : Result Setting UnknownSign) (n n₂ : ℕ) → Told e x n → Told e x n₂ → n ≡ n₂
told_unique e (Ok s) n n₂ p q =
    p.2 ∙ ap verdict_number (check_unique e s p.0 q.0 p.1 q.1) ∙ sym q.2
told_unique e (Err u) n n₂ p q = unique p q

pub check_number_unique : (e : ℤ) (g k n n₂ : ℕ) → CheckNumberSettled e g k n → CheckNumberSettled e g k n₂ → n ≡ n₂
check_number_unique e g k n n₂ p q = told_unique e (setting_of g k) n n₂ p q

pub residue_unique : (e : ℤ) (g k : ℕ) (z z₂ : ℤ) → ResidueSettled e g k z → ResidueSettled e g k z₂ → z ≡ z₂
residue_unique e g k z z₂ p q = unique p q

pub propose_number_unique : (e : ℤ) (n n₂ : ℕ) → ProposeNumberSettled e n → ProposeNumberSettled e n₂ → n ≡ n₂
propose_number_unique e n n₂ p q = unique p q
