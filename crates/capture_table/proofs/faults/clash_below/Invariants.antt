-- SPDX-License-Identifier: Apache-2.0
-- None of the entries passed clashes.
use mathlib.Core.Path.{◌≡◌}
use mathlib.Core.Bool.{false}
use Rattle.capture_table.specs.Table.{clashes_below}
use Rattle.capture_table.proofs.faults.clash_below.Given as goal

abbrev pub invariant-loop-i : goal.invariant-loop-i
invariant-loop-i l = clashes_below l.file l.entry l.i ≡ false
