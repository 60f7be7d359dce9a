-- SPDX-License-Identifier: Apache-2.0
-- The row of every part, with what the pin shows.
use mathlib.Core.Path.{sym}
use Rattle.fm3130_image.proofs.Accepts.{image_written}
use Rattle.place_rows.proofs.Rowing.{shown_both}
use Rattle.place_rows.proofs.Rows.{idle_clocked}
use Rattle.place_rows.proofs.idle_row.Goals as goal

pub returns : goal.returns
returns c =
    let p = shown_both c.shown.ensures _ (sym (image_written _ c.requires.image_value.0)) in
    idle_clocked _ _ _ _ c.requires.image_value.0 c.requires.from_in_bounds.1 _ p.0 c.requires.image_value.1 _ _ c.idle_row.ensures
