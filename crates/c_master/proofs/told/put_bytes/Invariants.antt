-- SPDX-License-Identifier: Apache-2.0
-- `c_master::told::put_bytes` meets its contract: the bytes so far stand at the front of the buffer.
use mathlib.Core.Path.{◌≡◌}
use lib.ListN.{length}
use lib.Seq.{sets}
use Rattle.wire_clocks.specs.Clocks.{lines_of}
use Rattle.c_master.specs.Told.{list_of, byte_at}
use Rattle.c_master.proofs.told.put_bytes.Given as goal

abbrev pub invariant-loop-i : goal.invariant-loop-i
invariant-loop-i l = (length l.bytes ≡ length l.initial.bytes) × (l.bytes ≡ sets l.initial.bytes 0 (list_of (byte_at (lines_of l.answers)) l.i))
