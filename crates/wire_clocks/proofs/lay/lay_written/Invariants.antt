-- SPDX-License-Identifier: Apache-2.0
-- `wire_clocks::lay::lay_written` meets its contract: each byte is one piece more.
use Prim.Native.Nat.{◌+◌, ◌*◌}
use mathlib.Core.Path.{◌≡◌}
use lib.ListN.{length, take}
use Rattle.wire_clocks.specs.Events.{all_written}
use Rattle.wire_clocks.specs.Code.Laid.{Laid}
use Rattle.wire_clocks.proofs.lay.lay_written.Given as goal

abbrev pub invariant-loop-byte : goal.invariant-loop-byte
invariant-loop-byte l =
    (l.place ≡ l.at + 9 * l.byte-index) × (length l.events ≡ length l.initial.events)
    × Laid l.initial.events l.at (all_written (take l.byte-index l.bytes)) l.place l.events
