-- SPDX-License-Identifier: Apache-2.0
-- Any Clock in a transfer.
use mathlib.Core.Path.{ap, ◌∙◌}
use native.Mathlib.Omega.{arith}
use lib.ListN.{length}
use Rattle.fm3130_image.proofs.Images.{image_length}
use Rattle.place_rows.proofs.Rowing.{shown_both}
use Rattle.place_list.proofs.Striding.{row_clock}
use Rattle.place_list.proofs.one_clock.Goals as goal

pub bounds-events-from : goal.bounds-events-from
bounds-events-from c = c.requires.from_in_bounds.0

pub clock-line-requires : goal.clock-line-requires
clock-line-requires c = c.requires.accepted

pub shown-requires : goal.shown-requires
shown-requires c = ap length c.clock-line.ensures.image ∙ image_length _

pub lined-requires : goal.lined-requires
lined-requires c =
    (shown_both c.shown.ensures _ c.clock-line.ensures.image).1

pub bounds-answers-from : goal.bounds-answers-from
bounds-answers-from c =
    omega (arith, c.requires.from_in_bounds.0, c.requires.from_in_bounds.1)

pub returns : goal.returns
returns c =
    let h = c.requires.from_in_bounds in
    let k = c.clock-line.ensures in
    row_clock _ _ _ _ _ c.requires.accepted h.0 h.1 h.2 c.requires.bound _ _ _ _ _ k (shown_both c.shown.ensures _ k.image).0
    c.lined.ensures
