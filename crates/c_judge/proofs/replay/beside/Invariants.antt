-- SPDX-License-Identifier: Apache-2.0
-- What is left of the two, compared from here, gives the whole verdict.
use Prim.Native.Nat.{◌+◌}
use mathlib.Core.Path.{◌≡◌}
use lib.ListN.{drop}
use Rattle.c_judge.specs.Verdict.{compared}
use Rattle.c_judge.proofs.replay.beside.Given as goal

abbrev pub invariant-loop-i : goal.invariant-loop-i
invariant-loop-i l = compared (l.from + l.i) (drop l.i l.right) (drop l.i l.recorded) ≡ compared l.from l.right l.recorded
