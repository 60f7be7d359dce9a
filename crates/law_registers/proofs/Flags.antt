-- SPDX-License-Identifier: Apache-2.0
-- The bits of 00h with AF and CF as said.
use Prim.Native.Nat.{ℕ, ◌/◌, ◌%◌}
use mathlib.Core.Path.{◌≡◌}
use mathlib.Core.Bool.{Bool, true, false}
use native.Mathlib.Omega.{arith}
use borrow.Author.Tests.{eq-eqb, ne_eqb}
use Rattle.bits.specs.Weight.{has}
use Rattle.fm3130_registers.specs.Control.{flagged}

module _ (k : ℕ) where
  pub flagged_af : (af cf : Bool) → has (flagged k af cf) 0x40 ≡ af
  flagged_af true true = eq-eqb (flagged k true true / 0x40 % 2) 1 (omega arith)
  flagged_af true false = eq-eqb (flagged k true false / 0x40 % 2) 1 (omega arith)
  flagged_af false true = ne_eqb (flagged k false true / 0x40 % 2) 1 (λ e. omega arith)
  flagged_af false false = ne_eqb (flagged k false false / 0x40 % 2) 1 (λ e. omega arith)

  pub flagged_cf : (af cf : Bool) → has (flagged k af cf) 0x20 ≡ cf
  flagged_cf true true = eq-eqb (flagged k true true / 0x20 % 2) 1 (omega arith)
  flagged_cf false true = eq-eqb (flagged k false true / 0x20 % 2) 1 (omega arith)
  flagged_cf true false = ne_eqb (flagged k true false / 0x20 % 2) 1 (λ e. omega arith)
  flagged_cf false false = ne_eqb (flagged k false false / 0x20 % 2) 1 (λ e. omega arith)

  pub flagged_above : (af cf : Bool) → flagged k af cf / 0x80 ≡ k / 0x80
  flagged_above true true = omega arith
  flagged_above true false = omega arith
  flagged_above false true = omega arith
  flagged_above false false = omega arith

  pub flagged_below : (af cf : Bool) → flagged k af cf % 0x20 ≡ k % 0x20
  flagged_below true true = omega arith
  flagged_below true false = omega arith
  flagged_below false true = omega arith
  flagged_below false false = omega arith
