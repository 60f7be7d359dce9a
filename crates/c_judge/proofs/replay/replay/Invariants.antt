-- SPDX-License-Identifier: Apache-2.0
-- The loop's invariant: the rest is what is left of the answers, image and memory are accepted, and what is left of the events,
-- compared from here, gives the whole verdict. The measure is the rest.
use Prim.Native.Nat.{◌+◌}
use mathlib.Core.Path.{◌≡◌}
use lib.ListN.{length, drop}
use Rattle.fm3130_image.specs.Image.{candidate}
use Rattle.place_clock.specs.Code.Clocking.{Accepted}
use Rattle.c_judge.proofs.Replays.{section, left}
use Rattle.c_judge.proofs.replay.replay.Given as goal

abbrev pub invariant-loop-rest : goal.invariant-loop-rest
invariant-loop-rest l =
    (l.i + length l.rest ≡ length l.answers) × (l.rest ≡ drop l.i l.answers) × Accepted l.image l.memory
    × (left (candidate l.image) l.memory (section l.file l.events (length l.answers)) l.answers l.i
    ≡ left (candidate l.initial.image) l.initial.memory (section l.file l.events (length l.answers)) l.answers 0)

abbrev pub decreases-loop-rest : goal.decreases-loop-rest
decreases-loop-rest l = length l.rest
