-- SPDX-License-Identifier: Apache-2.0
-- The numbers for C: two verdicts have two numbers; a setting's number, taken apart, names the setting again; so our
-- proposal's number, taken apart, is accepted; and it is the refusal's exactly where the error is out of range.
use Prim.Native.Nat.{ℕ, zero, suc, ◌+◌, ◌*◌, ◌/◌, ◌%◌, ◌^◌, ◌≤◌, ◌<◌}
use mathlib.Core.Path.{◌≡◌, refl, sym, ap, subst, ◌∙◌}
use mathlib.Core.Bool.{Bool, true, false, cond, ◌&&◌}
use mathlib.Core.Logic.{◌↔◌}
use native.Mathlib.Omega.{arith}
use borrow.Author.Tests.{leb-true, lt-leb, le-leb, ne_eqb}
use lib.Dec.{leb}
use lib.IntN.{ℤ, pos}
use mir.Syntax.{w32}
use mir.Val.{SFits, to_z, of_z}
use Rattle.std.specs.Prelude.{Result, Ok, Err}
use Rattle.c_trim.specs.Residue.{in_range, last_code, Coded, residue_of, distance_of}
use Rattle.c_trim.specs.Verdict.{CheckSettled}
use Rattle.c_trim.specs.Proposal.{setting_for, proposal_of}
use Rattle.c_trim.specs.Entries.{sign_number, setting_of, verdict_number, unknown_sign, Told}
use Rattle.c_trim.specs.Entries.{residue_shown, named_residue, setting_number, proposal_number}
use Rattle.c_trim.specs.Entries.{ProposeNumberSettled, AcceptedInNumbers}
use Rattle.c_trim.specs.declared.Sign.{Sign}
use Rattle.c_trim.specs.declared.Sign.TheVariants.{Plus, Minus}
use Rattle.c_trim.specs.declared.Setting.{Setting}
use Rattle.c_trim.specs.declared.Verdict.{Verdict}
use Rattle.c_trim.specs.declared.Verdict.TheVariants.{Accepted, NotNearest, ErrorOutOfRange, CodeAbove31}
use Rattle.c_trim.specs.declared.UnknownSign.{UnknownSign}
use Rattle.c_trim.proofs.Signed.{read_back, read_result}
use Rattle.c_trim.proofs.Left.{left_small}
use Rattle.c_trim.proofs.Proposals.{setting_coded, setting_acceptable, proposal_in_range, proposal_out_of_range}
use Rattle.c_trim.proofs.Unique.{clash}

abbrev verdict_at : ℕ → Verdict
verdict_at zero = Accepted
verdict_at (suc zero) = NotNearest
verdict_at (suc (suc zero)) = ErrorOutOfRange
verdict_at (suc (suc (suc zero))) = ErrorOutOfRange
verdict_at (suc (suc (suc (suc n)))) = CodeAbove31

verdict_at_number : (v : Verdict) → verdict_at (verdict_number v) ≡ v
verdict_at_number Accepted = refl
verdict_at_number NotNearest = refl
verdict_at_number ErrorOutOfRange = refl
verdict_at_number CodeAbove31 = refl

pub verdict_number_inj : (v w : Verdict) → verdict_number v ≡ verdict_number w → v ≡ w
verdict_number_inj v w q = sym (verdict_at_number v) ∙ ap verdict_at q ∙ verdict_at_number w

-- the number of a verdict on what was named
pub told_known : {e : ℤ} (x : Result Setting UnknownSign) {s : Setting} (v : Verdict) {n : ℕ} → SFits w32 e → x ≡ Ok s
    → CheckSettled (to_z w32 (of_z w32 e)) s v → n ≡ verdict_number v → Told e x n
told_known {e} x {s} v {n} f q p m =
    subst (λ (y : Result Setting UnknownSign). Told e y n) (sym q) (v, subst (λ (z : ℤ). CheckSettled z s v) (read_back f) p, m)

pub told_unknown : (e : ℤ) (x : Result Setting UnknownSign) (u : UnknownSign) → x ≡ Err u → Told e x unknown_sign
told_unknown e x u q = rw q

-- ---- a setting's number

pub named_by : (g : Sign) (k x y : ℕ) → x ≡ sign_number g → y ≡ k → setting_of x y ≡ Ok (record { sign = g; code = k })
unfolding setting_of
named_by Plus k x y p q = rw (p, q)
named_by Minus k x y p q = rw (p, q)

pub named_unknown : (x y : ℕ) → (x ≡ sign_number Plus → ⊥) → (x ≡ sign_number Minus → ⊥) → setting_of x y ≡ Err (record {})
unfolding setting_of
named_unknown x y p q = rw (ne_eqb x 1 p, ne_eqb x 0 q)

number_sign : (g : Sign) (k : ℕ) → k ≤ last_code → (32 * sign_number g + k) / 32 ≡ sign_number g
number_sign Plus k h = omega arith
number_sign Minus k h = omega arith

number_code : (g : Sign) (k : ℕ) → k ≤ last_code → (32 * sign_number g + k) % 32 ≡ k
number_code Plus k h = omega arith
number_code Minus k h = omega arith

pub setting_number_named : (s : Setting) → Coded s → setting_of (setting_number s / 32) (setting_number s % 32) ≡ Ok s
setting_number_named s h =
    named_by s.sign s.code (setting_number s / 32) (setting_number s % 32) (number_sign s.sign s.code h)
    (number_code s.sign s.code h)

-- ---- what a setting leaves, or 0

pub shown : (e : ℤ) (s : Setting) → in_range e ≡ true → Coded s → residue_shown e s ≡ residue_of e s
unfolding residue_shown
shown e s q h = rw (q, le-leb s.code last_code h)

pub shown_out_of_range : (e : ℤ) (s : Setting) → in_range e ≡ false → residue_shown e s ≡ pos 0
unfolding residue_shown
shown_out_of_range e s q = rw q

and_false : (a : Bool) → a && false ≡ false
and_false true = refl
and_false false = refl

pub shown_above : (e : ℤ) (s : Setting) → last_code < s.code → residue_shown e s ≡ pos 0
unfolding residue_shown
shown_above e s h = rw (lt-leb s.code last_code h, and_false (in_range e))

shown_small_by : (e : ℤ) (s : Setting) (a b : Bool) → in_range e ≡ a → leb s.code last_code ≡ b
    → distance_of (cond (a && b) (residue_of e s) (pos 0)) < 2 ^ 31
shown_small_by e s true true q h = left_small e s q (leb-true s.code last_code h)
shown_small_by e s true false q h = omega arith
shown_small_by e s false b q h = omega arith

pub shown_small : (e : ℤ) (s : Setting) → distance_of (residue_shown e s) < 2 ^ 31
unfolding residue_shown
shown_small e s = shown_small_by e s (in_range e) (leb s.code last_code) refl refl

pub residue_named : {e : ℤ} (x : Result Setting UnknownSign) {s : Setting} (z : ℤ) → SFits w32 e → x ≡ Ok s
    → z ≡ residue_shown (to_z w32 (of_z w32 e)) s → to_z w32 (of_z w32 z) ≡ named_residue e x
residue_named {e} x {s} z f q p =
    read_result z (p ∙ ap (λ (y : ℤ). residue_shown y s) (read_back f)) (shown_small e s) ∙ sym (ap (named_residue e) q)

-- ---- our proposal's number

setting_number_small : (g : Sign) (k : ℕ) → k ≤ last_code → 32 * sign_number g + k < 64
setting_number_small Plus k h = omega arith
setting_number_small Minus k h = omega arith

refused_by_lem : (e : ℤ) (b : Bool) → in_range e ≡ b → (proposal_number (proposal_of e) ≡ 64) ↔ (b ≡ false)
refused_by_lem e true q =
    let h = setting_number_small (setting_for e).sign (setting_for e).code (setting_coded e) in
    let r = ap proposal_number (proposal_in_range e q) in
    ((λ p. absurd (omega arith)), (λ p. absurd (clash true refl p)))
refused_by_lem e false q = ((λ p. refl), (λ p. ap proposal_number (proposal_out_of_range e q)))

pub refused_exactly : (e : ℤ) (n : ℕ) → ProposeNumberSettled e n → (n ≡ 64) ↔ (in_range e ≡ false)
refused_exactly e n p = rw p (refused_by_lem e (in_range e) refl)

pub proposed_number_accepted : AcceptedInNumbers
proposed_number_accepted e n q p =
    let m : n ≡ setting_number (setting_for e) = p ∙ ap proposal_number (proposal_in_range e q) in
    rw (m, setting_number_named (setting_for e) (setting_coded e)) (Accepted, setting_acceptable e q, refl)
