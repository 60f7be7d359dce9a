-- SPDX-License-Identifier: Apache-2.0
-- The image is as it was; clocks, bits and answers are those after so many events, all of them Clocks.
use Prim.Native.Nat.{◌+◌, ◌-◌}
use mathlib.Core.Path.{◌≡◌}
use lib.ListN.{length, get_or}
use Rattle.bus_rows.specs.Row.{bits_after, heard_after}
use Rattle.bus_rows.proofs.Rows.{Clocks}
use Rattle.bus_rows.proofs.receive_row.Given as goal

abbrev pub invariant-loop-i : goal.invariant-loop-i
invariant-loop-i l = record {
  image : l.image ≡ l.initial.image;
  room : length l.answers ≡ length l.initial.answers;
  done : l.clocks ≡ get_or l.initial.image 27 0 + (l.i - l.from);
  bits : l.byte ≡ bits_after l.events l.from (get_or l.initial.image 28 0) (l.i - l.from);
  heard : l.answers ≡ heard_after l.events l.from l.pin l.initial.answers (l.i - l.from);
  clocks : Clocks l.events l.from l.i;
}
