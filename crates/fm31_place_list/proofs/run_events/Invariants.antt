-- SPDX-License-Identifier: Apache-2.0
-- The loop's invariant: the image is accepted, and the events so far lead from the first place to this one. The measure is
-- what is left.
use Prim.Native.Nat.{◌-◌}
use mathlib.Core.Path.{◌≡◌}
use mathlib.Core.Bool.{true}
use lib.ListN.{length}
use Rattle.bus.specs.Select.{lone}
use Rattle.fm31_image.specs.Image.{candidate}
use Rattle.fm31_image.specs.Accepting.{is_image}
use Rattle.fm31_place_list.specs.Rowed.{Led}
use Rattle.fm31_place_list.proofs.run_events.Given as goal

abbrev pub invariant-loop-i : goal.invariant-loop-i
invariant-loop-i l =
    (is_image l.size lone l.image ≡ true) × Led l.size l.events (candidate l.initial.image) l.initial.memory l.initial.answers 0 (candidate l.image) l.memory l.answers l.i

abbrev pub decreases-loop-i : goal.decreases-loop-i
decreases-loop-i l = length l.events - l.i
