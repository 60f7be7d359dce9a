-- SPDX-License-Identifier: Apache-2.0
-- 00h written of its parts: AF, CF and the rest can be read off it; written of its own parts it is itself.
use Prim.Native.Nat.{ℕ, ◌+◌, ◌*◌, ◌/◌, ◌%◌}
use mathlib.Core.Path.{◌≡◌, refl, ap, ◌∙◌}
use mathlib.Core.Bool.{Bool, true, false, cond}
use native.Mathlib.Omega.{arith}
use borrow.Author.Tests.{eq-eqb, ne_eqb, eqb-true, eqb-false}
use Rattle.fm3130_registers.specs.Control.{flagged}
use Rattle.law_alarm.specs.Second.{bit}

-- 00h written of its parts: each can be read off
pub flagged_af : (k : ℕ) (a b : Bool) → bit 64 (flagged k a b) ≡ a
flagged_af k true true = eq-eqb (flagged k true true / 64 % 2) 1 (omega arith)
flagged_af k true false = eq-eqb (flagged k true false / 64 % 2) 1 (omega arith)
flagged_af k false true = ne_eqb (flagged k false true / 64 % 2) 1 (λ e. omega arith)
flagged_af k false false = ne_eqb (flagged k false false / 64 % 2) 1 (λ e. omega arith)

pub flagged_cf : (k : ℕ) (a b : Bool) → bit 32 (flagged k a b) ≡ b
flagged_cf k true true = eq-eqb (flagged k true true / 32 % 2) 1 (omega arith)
flagged_cf k true false = ne_eqb (flagged k true false / 32 % 2) 1 (λ e. omega arith)
flagged_cf k false true = eq-eqb (flagged k false true / 32 % 2) 1 (omega arith)
flagged_cf k false false = ne_eqb (flagged k false false / 32 % 2) 1 (λ e. omega arith)

pub flagged_rest : (k : ℕ) (a b : Bool) → (flagged k a b / 128 ≡ k / 128) × (flagged k a b % 32 ≡ k % 32)
flagged_rest k true true = omega arith
flagged_rest k true false = omega arith
flagged_rest k false true = omega arith
flagged_rest k false false = omega arith

-- a byte as the sum of its parts; with its own AF and CF it is itself
in_parts : (k : ℕ) → k / 128 * 128 + k / 64 % 2 * 64 + k / 32 % 2 * 32 + k % 32 ≡ k
in_parts k =
    let a : k / 64 ≡ k / 128 * 2 + k / 64 % 2 = omega arith in
    let b : k / 32 ≡ k / 64 * 2 + k / 32 % 2 = omega arith in
    let c : k ≡ k / 32 * 32 + k % 32 = omega arith in
    omega (arith, a, b, c)

af_weight : (k : ℕ) (t : Bool) → bit 64 k ≡ t → cond t 64 0 ≡ k / 64 % 2 * 64
af_weight k true h = let p = eqb-true (k / 64 % 2) 1 h in omega arith
af_weight k false h = let p = eqb-false (k / 64 % 2) 1 h in omega arith

cf_weight : (k : ℕ) (t : Bool) → bit 32 k ≡ t → cond t 32 0 ≡ k / 32 % 2 * 32
cf_weight k true h = let p = eqb-true (k / 32 % 2) 1 h in omega arith
cf_weight k false h = let p = eqb-false (k / 32 % 2) 1 h in omega arith

pub flagged_self : (k : ℕ) → flagged k (bit 64 k) (bit 32 k) ≡ k
flagged_self k =
    ap (λ (x : ℕ). k / 128 * 128 + x + cond (bit 32 k) 32 0 + k % 32) (af_weight k (bit 64 k) refl)
    ∙ (ap (λ (x : ℕ). k / 128 * 128 + k / 64 % 2 * 64 + x + k % 32) (cf_weight k (bit 32 k) refl) ∙ in_parts k)
