-- SPDX-License-Identifier: Apache-2.0
-- The request's two examples hold, as one statement over the list. In each no setting leaves less than some distance;
-- the settings of the case leave it, and which others could is arithmetic on the code.
use Prim.Native.Nat.{ℕ, zero, suc, ◌≤◌}
use mathlib.Core.Path.{◌≡◌, refl, ap}
use mathlib.Core.Bool.{true}
use mathlib.Core.Logic.{◌↔◌, inl, inr}
use native.Mathlib.Omega.{arith}
use lib.IntN.{ℤ, pos, negsuc}
use Rattle.c_trim.specs.Residue.{in_range, Coded, residue_of, distance_left}
use Rattle.c_trim.specs.Verdict.{Acceptable}
use Rattle.c_trim.specs.Cases.{Case, plus, minus, tie, alone, cases, OneOf, AllHold}
use Rattle.c_trim.specs.declared.Sign.{Sign}
use Rattle.c_trim.specs.declared.Sign.TheVariants.{Plus, Minus}
use Rattle.c_trim.specs.declared.Setting.{Setting}
use Rattle.c_trim.proofs.Left.{gap_of, left_gap}

-- ---- any case, by the least distance d

-- the setting leaves d at most
abbrev Leaves : ℤ → ℕ → Setting → Type 0
Leaves e d s = Coded s × (distance_left e s ≤ d)

acceptable_of : (e : ℤ) (d : ℕ) (s : Setting) → in_range e ≡ true
    → ((t : Setting) → d ≤ distance_left e t) → Leaves e d s → Acceptable e s
acceptable_of e d s q least h =
    record { ranged = q; coded = h.0; nearest = λ t k l. omega (arith, least t, h.1) }

leaves_of_lem : (e : ℤ) (d : ℕ) (s t : Setting) → Leaves e d t → Acceptable e s → Leaves e d s
leaves_of_lem e d s t h a = (a.coded, omega (arith, a.nearest t h.0, h.1))

exactly_of : (c : Case) (d : ℕ) (t : Setting) → in_range c.error ≡ true
    → ((s : Setting) → d ≤ distance_left c.error s)
    → OneOf t c.accepted
    → ((s : Setting) → OneOf s c.accepted ↔ Leaves c.error d s)
    → (s : Setting) → Acceptable c.error s ↔ OneOf s c.accepted
exactly_of c d t q least o all s = (
  (λ a. (all s).1 (leaves_of_lem c.error d s t ((all t).0 o) a)),
  (λ m. acceptable_of c.error d s q least ((all s).0 m)),
)

-- ---- error 128: nothing leaves less than 128

tie_least : (g : Sign) (k : ℕ) → 128 ≤ gap_of (pos 128) g k
tie_least Plus k = omega arith
tie_least Minus k = omega arith

tie_listed : (s : Setting) → OneOf s tie.accepted → Leaves (pos 128) 128 s
tie_listed s (inl q) = rw q (omega (arith, left_gap (pos 128) (plus 0)))
tie_listed s (inr (inl q)) = rw q (omega (arith, left_gap (pos 128) (minus 0)))
tie_listed s (inr (inr (inl q))) = rw q (omega (arith, left_gap (pos 128) (minus 1)))
tie_listed s (inr (inr (inr b))) = absurd b

tie_only : (g : Sign) (k : ℕ) → gap_of (pos 128) g k ≤ 128 → OneOf (record { sign = g; code = k }) tie.accepted
tie_only Plus k h = inl (ap plus (omega arith))
tie_only Minus zero h = inr (inl refl)
tie_only Minus (suc k) h = inr (inr (inl (ap minus (omega arith))))

-- ---- error -600: nothing leaves less than 88

alone_least : (g : Sign) (k : ℕ) → 88 ≤ gap_of (negsuc 599) g k
alone_least Plus k = omega arith
alone_least Minus k = omega arith

alone_listed : (s : Setting) → OneOf s alone.accepted → Leaves (negsuc 599) 88 s
alone_listed s (inl q) = rw q (omega (arith, left_gap (negsuc 599) (plus 1)))
alone_listed s (inr b) = absurd b

alone_only : (g : Sign) (k : ℕ) → gap_of (negsuc 599) g k ≤ 88 → OneOf (record { sign = g; code = k }) alone.accepted
alone_only Plus k h = inl (ap plus (omega arith))
alone_only Minus k h = absurd (omega arith)

-- ---- both

tie_exactly : (s : Setting) → Acceptable (pos 128) s ↔ OneOf s tie.accepted
unfolding in_range
tie_exactly =
    exactly_of tie 128 (plus 0) refl (λ s. omega (arith, tie_least s.sign s.code, left_gap (pos 128) s))
    (inl refl)
    (λ s. (tie_listed s, (λ h. tie_only s.sign s.code (omega (arith, h.1, left_gap (pos 128) s)))))

alone_exactly : (s : Setting) → Acceptable (negsuc 599) s ↔ OneOf s alone.accepted
unfolding in_range
alone_exactly =
    exactly_of alone 88 (plus 1) refl (λ s. omega (arith, alone_least s.sign s.code, left_gap (negsuc 599) s))
    (inl refl)
    (λ s. (alone_listed s, (λ h. alone_only s.sign s.code (omega (arith, h.1, left_gap (negsuc 599) s)))))

pub cases_hold : AllHold cases
unfolding residue_of
cases_hold =
    (record { exactly = tie_exactly; leaving = refl }, (record { exactly = alone_exactly; leaving = refl }, tt))
