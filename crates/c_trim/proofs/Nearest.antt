-- SPDX-License-Identifier: Apache-2.0
-- A setting is nearest exactly if neither of its neighbours leaves less: each of them is a setting, and no setting beyond
-- one of them leaves less where that one does not.
use Prim.Native.Nat.{ℕ, zero, suc, ◌+◌, ◌-◌, ◌≤◌, ◌<◌}
use mathlib.Core.Path.{◌≡◌, refl, sym, subst, ◌∙◌}
use mathlib.Core.Bool.{true, ◌&&◌}
use mathlib.Core.Logic.{◌↔◌}
use native.Mathlib.Omega.{arith}
use native.Mathlib.Decide.{dec_lt}
use borrow.Author.Tests.{leb-true, lt-ltb, le-ltb, le-leb, eq-eqb, ne_eqb}
use lib.Dec.{leb}
use lib.IntN.{ℤ}
use mir.Syntax.{w32}
use mir.Val.{SFits, to_z, of_z}
use Rattle.c_trim.specs.Residue.{last_code, Coded, distance_left}
use Rattle.c_trim.specs.Verdict.{Nearest}
use Rattle.c_trim.specs.Code.Neighbours.{further_of, opposite_of, back_of}
use Rattle.c_trim.specs.declared.Sign.{Sign}
use Rattle.c_trim.specs.declared.Sign.TheVariants.{Plus, Minus}
use Rattle.c_trim.specs.declared.Setting.{Setting}
use Rattle.c_trim.proofs.Signed.{read_back}
use Rattle.c_trim.proofs.Left.{step_of, nearing, gap_of, gap_le, left_le, both}
use Rattle.c_trim.proofs.Least.{Beside, least_of_same, least_of_other}

-- ---- the neighbours

pub further_inside : (s : Setting) → s.code < last_code → further_of s ≡ record { sign = s.sign; code = s.code + 1 }
unfolding further_of
further_inside s h = rw (lt-ltb s.code last_code h)

pub further_last : (s : Setting) → last_code ≤ s.code → further_of s ≡ s
unfolding further_of
further_last s h = rw (le-ltb s.code last_code h)

pub back_some : (s : Setting) → (s.code ≡ 0 → ⊥) → back_of s ≡ record { sign = s.sign; code = s.code - 1 }
unfolding back_of
back_some s f = rw (ne_eqb s.code 0 f)

back_inside : (s : Setting) (p : ℕ) → s.code ≡ suc p → back_of s ≡ record { sign = s.sign; code = p }
back_inside s p q = let m : s.code - 1 ≡ p = omega arith in back_some s (λ z. omega arith) ∙ rw m

pub back_none : (s : Setting) → s.code ≡ 0 → back_of s ≡ record { sign = opposite_of s.sign; code = 1 }
unfolding back_of
back_none s q = rw (eq-eqb s.code 0 q)

further_coded_by : (s : Setting) → Coded s → Dec (s.code < last_code) → Coded (further_of s)
further_coded_by s h (yes l) = rw (further_inside s l) (omega arith)
further_coded_by s h (no f) = rw (further_last s (omega arith)) h

pub further_coded : (s : Setting) → Coded s → Coded (further_of s)
further_coded s h = further_coded_by s h (dec_lt s.code last_code)

back_coded_by : (s : Setting) (k : ℕ) → s.code ≡ k → Coded s → Coded (back_of s)
back_coded_by s zero q h = rw (back_none s q) (omega arith)
back_coded_by s (suc p) q h = rw (back_inside s p q) (omega arith)

pub back_coded : (s : Setting) → Coded s → Coded (back_of s)
back_coded s h = back_coded_by s s.code refl h

-- ---- neither neighbour leaves less

abbrev pub NoNearer : ℤ → Setting → Type 0
NoNearer e s = (distance_left e s ≤ distance_left e (further_of s)) × (distance_left e s ≤ distance_left e (back_of s))

-- what that says of the codes beside the setting's own, and of the first step of the other sign
beside : (e : ℤ) (s : Setting) → NoNearer e s
    → Beside (step_of s.sign) (nearing (opposite_of s.sign) e) (nearing s.sign e) s.code
beside e s n = (
  (λ h. gap_le e s (record { sign = s.sign; code = s.code + 1 }) (rw (further_inside s h) at n.0)),
  (λ p q. gap_le e s (record { sign = s.sign; code = p }) (rw (back_inside s p q) at n.1)),
)

first_other : (e : ℤ) (s : Setting) → NoNearer e s → s.code ≡ 0
    → gap_of e s.sign s.code ≤ gap_of e (opposite_of s.sign) 1
first_other e s n q = gap_le e s (record { sign = opposite_of s.sign; code = 1 }) (rw (back_none s q) at n.1)

-- and so of all settings
pub gap_least : (e : ℤ) (g x : Sign) (k j : ℕ) → Beside (step_of g) (nearing (opposite_of g) e) (nearing g e) k
    → (k ≡ 0 → gap_of e g k ≤ gap_of e (opposite_of g) 1) → j ≤ last_code → gap_of e g k ≤ gap_of e x j
gap_least e Plus Plus k j n f h = least_of_same 512 (nearing Minus e) (nearing Plus e) k j (omega arith) h n
gap_least e Plus Minus k j n f h =
    least_of_other 512 256 (nearing Minus e) (nearing Plus e) k j (omega arith) (omega arith) n f
gap_least e Minus Minus k j n f h = least_of_same 256 (nearing Plus e) (nearing Minus e) k j (omega arith) h n
gap_least e Minus Plus k j n f h =
    least_of_other 256 512 (nearing Plus e) (nearing Minus e) k j (omega arith) (omega arith) n f

left_least : (e : ℤ) (s t : Setting) → NoNearer e s → Coded t → distance_left e s ≤ distance_left e t
left_least e s t n h =
    left_le e s t (gap_least e s.sign t.sign s.code t.code (beside e s n) (first_other e s n) h)

pub nearest_by_neighbours : (e : ℤ) (s : Setting) → Coded s → NoNearer e s ↔ Nearest e s
nearest_by_neighbours e s h = (
  (λ n t k l. omega (arith, left_least e s t n k)),
  (λ n. (omega (arith, n (further_of s) (further_coded s h)), omega (arith, n (back_of s) (back_coded s h)))),
)

-- ---- the code's side

-- the test
pub neighbours_tested : (e : ℤ) (s : Setting) (a b d : ℕ) → Coded s → a ≡ distance_left e s
    → b ≡ distance_left e (further_of s) → d ≡ distance_left e (back_of s) → (leb a b && leb a d ≡ true) ↔ Nearest e s
neighbours_tested e s a b d h p q r =
    let m = nearest_by_neighbours e s h in (
      (λ t. let u = both (leb a b) (leb a d) t in
          m.0 (omega (arith, leb-true a b u.0), omega (arith, leb-true a d u.1))),
      (λ n. let u = m.1 n in rw (le-leb a b (omega (arith, u.0)), le-leb a d (omega (arith, u.1)))),
    )

-- an error read back from its bits
pub nearest_read : {e : ℤ} (s : Setting) → SFits w32 e → Nearest (to_z w32 (of_z w32 e)) s ↔ Nearest e s
nearest_read s f =
    (subst (λ (z : ℤ). Nearest z s) (read_back f), subst (λ (z : ℤ). Nearest z s) (sym (read_back f)))
