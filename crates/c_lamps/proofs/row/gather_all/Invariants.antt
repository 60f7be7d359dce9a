-- SPDX-License-Identifier: Apache-2.0
-- The loop's invariant: what is left of the answers, gathered from here, gives what all give.
use Prim.Native.Nat.{◌+◌}
use mathlib.Core.Path.{◌≡◌}
use lib.ListN.{drop}
use Rattle.c_lamps.specs.Row.{gathered_over}
use Rattle.c_lamps.proofs.row.gather_all.Given as goal

abbrev pub invariant-loop-i : goal.invariant-loop-i
invariant-loop-i l =
    gathered_over (l.clocks + l.i) l.gathered l.address (drop l.i l.answers) ≡ gathered_over l.clocks l.initial.gathered l.address l.answers
