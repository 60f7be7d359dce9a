-- SPDX-License-Identifier: Apache-2.0
-- `c_trim::residue::cycles` meets its contract: the product is far below 2 ^ 31, so its bits read as signed are the product.
use native.Mathlib.Omega.{arith}
use native.Mathlib.Nat.{mul-le-mul}
use mir.Syntax.{w32}
use mir.ValLaws.{to_z_pos}
use Rattle.c_trim.proofs.residue.cycles.Goals as goal

pub overflow_mul-result : goal.overflow_mul-result
overflow_mul-result c = record { fits = omega (arith, mul-le-mul c.requires.1 c.requires.0) }

pub overflow_cast-result : goal.overflow_cast-result
overflow_cast-result c = record { sfits = omega (arith, mul-le-mul c.requires.1 c.requires.0) }

pub returns : goal.returns
returns c = to_z_pos w32 _ (omega (arith, mul-le-mul c.requires.1 c.requires.0))
