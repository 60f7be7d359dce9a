-- SPDX-License-Identifier: Apache-2.0
-- The loop's invariant: the image is accepted, and the events so far lead from the first place to this one. The measure is
-- what is left.
use Prim.Native.Nat.{◌-◌}
use mathlib.Core.Path.{◌≡◌}
use mathlib.Core.Bool.{true}
use lib.ListN.{length}
use Rattle.fm3130_image.specs.Image.{candidate}
use Rattle.fm3130_image.specs.Code.Accepting.{is_image}
use Rattle.place_rows.specs.Code.Led.{Led}
use Rattle.c_run.proofs.run.run_events.Given as goal

abbrev pub invariant-loop-i : goal.invariant-loop-i
invariant-loop-i l =
    (is_image l.image ≡ true) × Led l.events (candidate l.initial.image) l.initial.memory l.initial.answers 0 (candidate l.image) l.memory l.answers l.i

abbrev pub decreases-loop-i : goal.decreases-loop-i
decreases-loop-i l = length l.events - l.i
