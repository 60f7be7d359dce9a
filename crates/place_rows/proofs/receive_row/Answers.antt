-- SPDX-License-Identifier: Apache-2.0
-- The row of every part, with what the pin shows.
use mathlib.Core.Path.{sym}
use Rattle.fm3130_image.proofs.Accepts.{image_written}
use Rattle.place_rows.proofs.Rowing.{shown_both}
use Rattle.place_rows.proofs.Rows.{received_clocked}
use Rattle.place_rows.proofs.receive_row.Goals as goal

pub returns : goal.returns
returns c =
    let p = shown_both c.shown-pin.ensures _ (sym (image_written _ c.requires.image_value)) in
    received_clocked _ _ _ _ c.requires.image_value c.requires.from_in_bounds.1 _ p.0 c.requires.bound.0 c.requires.bound.1 _ _ _
    c.receive_row.ensures
