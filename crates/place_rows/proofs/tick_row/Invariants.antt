-- SPDX-License-Identifier: Apache-2.0
-- The core still moves, and the ticks so far lead from the first place to this one.
use mathlib.Core.Path.{◌≡◌}
use lib.ListN.{length}
use mathlib.Core.Bool.{true}
use Rattle.fm3130_image.specs.Image.{image_of, candidate}
use Rattle.place_tick.specs.Code.Tick.{is_ticking}
use Rattle.place_rows.proofs.Rowing.{TicksLed}
use Rattle.place_rows.proofs.tick_row.Given as goal

abbrev pub invariant-loop-i : goal.invariant-loop-i
invariant-loop-i l = record {
  written : l.image ≡ image_of (candidate l.image);
  ticking : is_ticking (candidate l.image) ≡ true;
  room : length l.answers ≡ length l.initial.answers;
  led : TicksLed l.events l.initial.image l.initial.answers l.from l.image l.answers l.i;
}
