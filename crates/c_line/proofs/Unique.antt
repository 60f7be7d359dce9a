-- SPDX-License-Identifier: Apache-2.0
-- No second number satisfies the contract of the query.
use Prim.Native.Nat.{ℕ}
use mathlib.Core.Path.{◌≡◌}
use mathlib.Core.List.{List}
use Rattle.fm3130_image.proofs.Unique.{unique}
use Rattle.c_line.specs.Line.{LineSettled}

pub line_unique : (i m : List ℕ) (n n₂ : ℕ) → LineSettled i m n → LineSettled i m n₂ → n ≡ n₂
line_unique i m n n₂ p q = unique p q
