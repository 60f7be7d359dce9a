-- SPDX-License-Identifier: Apache-2.0
-- `wire_clocks::lay::lay_asked` meets its contract: each byte is one piece more.
use Prim.Native.Nat.{◌+◌, ◌*◌}
use mathlib.Core.Path.{◌≡◌}
use lib.ListN.{length}
use Rattle.wire_clocks.specs.Events.{asked_on}
use Rattle.wire_clocks.specs.Code.Laid.{Laid}
use Rattle.wire_clocks.proofs.lay.lay_asked.Given as goal

abbrev pub invariant-loop-i : goal.invariant-loop-i
invariant-loop-i l =
    (l.place ≡ l.at + 9 * l._i) × (length l.events ≡ length l.initial.events)
    × Laid l.initial.events l.at (asked_on l._i) l.place l.events
