-- SPDX-License-Identifier: Apache-2.0
-- The entries passed are of other kinds.
use Prim.Native.Nat.{ℕ, ◌<◌}
use mathlib.Core.Path.{◌≡◌}
use Rattle.capture_table.specs.Table.{entry_at}
use Rattle.capture_table.proofs.sections.entry_of.Given as goal

abbrev pub invariant-loop-n : goal.invariant-loop-n
invariant-loop-n l = (j : ℕ) → j < l.n → (entry_at l.file j).kind ≡ l.kind → ⊥
