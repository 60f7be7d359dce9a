-- SPDX-License-Identifier: Apache-2.0
-- The loop's invariant: so many events are done, on an accepted image. The measure is what is left.
use Prim.Native.Nat.{◌-◌}
use lib.ListN.{length}
use Rattle.fm3130_image.specs.Image.{candidate}
use Rattle.c_lamps.proofs.Parts.{Upto}
use Rattle.c_lamps.proofs.run.follow_in_parts.Given as goal

abbrev pub invariant-loop-i : goal.invariant-loop-i
invariant-loop-i l =
    Upto l.events l.initial.answers (candidate l.initial.image) l.initial.kept l.initial.memory l.i l.image l.memory l.answers l.kept

abbrev pub decreases-loop-i : goal.decreases-loop-i
decreases-loop-i l = length l.events - l.i
