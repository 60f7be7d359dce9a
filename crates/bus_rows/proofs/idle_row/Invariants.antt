-- SPDX-License-Identifier: Apache-2.0
-- The answers are those to so many events, all of them Clocks.
use Prim.Native.Nat.{◌-◌}
use mathlib.Core.Path.{◌≡◌}
use lib.ListN.{length}
use Rattle.bus_rows.specs.Row.{heard_after}
use Rattle.bus_rows.proofs.Rows.{Clocks}
use Rattle.bus_rows.proofs.idle_row.Given as goal

abbrev pub invariant-loop-i : goal.invariant-loop-i
invariant-loop-i l = record {
  room : length l.answers ≡ length l.initial.answers;
  heard : l.answers ≡ heard_after l.events l.from l.pin l.initial.answers (l.i - l.from);
  clocks : Clocks l.events l.from l.i;
}
