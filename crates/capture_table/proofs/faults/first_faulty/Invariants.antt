-- SPDX-License-Identifier: Apache-2.0
-- The entries passed are sound.
use Prim.Native.Nat.{ℕ, ◌<◌}
use mathlib.Core.Path.{◌≡◌}
use mathlib.Core.Bool.{true}
use Rattle.capture_table.specs.Table.{is_sound}
use Rattle.capture_table.proofs.faults.first_faulty.Given as goal

abbrev pub invariant-loop-n : goal.invariant-loop-n
invariant-loop-n l = (j : ℕ) → j < l.n → is_sound l.file j ≡ true
