-- SPDX-License-Identifier: Apache-2.0
-- `wire_clocks::lay::lay` meets its contract: byte after byte: what was laid so far is the front of the list.
use mathlib.Core.Path.{◌≡◌}
use lib.ListN.{take}
use lib.Seq.{sets}
use Rattle.wire_clocks.proofs.lay.lay.Given as goal

abbrev pub invariant-loop-i : goal.invariant-loop-i
invariant-loop-i l = l.events ≡ sets l.initial.events l.at (take l.i l.from)
