-- SPDX-License-Identifier: Apache-2.0
-- The image is as it was; clocks and answers are those after so many events, all of them Clocks.
use Prim.Native.Nat.{◌+◌, ◌-◌}
use mathlib.Core.Path.{◌≡◌}
use lib.ListN.{length, get_or}
use Rattle.bus_rows.specs.Row.{sent_after}
use Rattle.bus_rows.proofs.Rows.{Clocks}
use Rattle.bus_rows.proofs.send_row.Given as goal

abbrev pub invariant-loop-i : goal.invariant-loop-i
invariant-loop-i l = record {
  image : l.image ≡ l.initial.image;
  room : length l.answers ≡ length l.initial.answers;
  done : l.clocks ≡ get_or l.initial.image 27 0 + (l.i - l.from);
  sent : l.answers
      ≡ sent_after l.events l.from l.pin l.initial.answers (get_or l.initial.image 27 0) (get_or l.initial.image 28 0) (l.i - l.from);
  clocks : Clocks l.events l.from l.i;
}
