-- SPDX-License-Identifier: Apache-2.0
-- `c_master::told::put_flags` meets its contract: the flags so far stand at the front of the buffer.
use mathlib.Core.Path.{◌≡◌}
use lib.ListN.{length}
use lib.Seq.{sets}
use Rattle.wire_clocks.specs.Clocks.{lines_of}
use Rattle.c_master.specs.Told.{list_of, flag_at}
use Rattle.c_master.proofs.told.put_flags.Given as goal

abbrev pub invariant-loop-i : goal.invariant-loop-i
invariant-loop-i l = (length l.flags ≡ length l.initial.flags) × (l.flags ≡ sets l.initial.flags 0 (list_of (flag_at (lines_of l.answers)) l.i))
