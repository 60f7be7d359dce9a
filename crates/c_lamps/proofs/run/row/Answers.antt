-- SPDX-License-Identifier: Apache-2.0
-- The byte under way after a row is told by the numbers that lie in the image before it and after it.
use mathlib.Core.Path.{ap, ◌∙◌}
use native.Mathlib.Omega.{arith}
use lib.ListN.{length}
use Rattle.fm3130_image.proofs.Accepts.{image_long}
use Rattle.fm3130_image.proofs.Images.{image_length}
use Rattle.c_lamps.proofs.Rows.{clocks_lain, answers_long, row_done}
use Rattle.c_lamps.proofs.run.row.Goals as goal

pub bounds-image-26 : goal.bounds-image-26
bounds-image-26 c = omega (arith, image_long _ c.requires.accepted.image)

pub bounds-image-27 : goal.bounds-image-27
bounds-image-27 c = omega (arith, image_long _ c.requires.accepted.image)

pub bounds-image-23 : goal.bounds-image-23
bounds-image-23 c = omega (arith, image_long _ c.requires.accepted.image)

pub bounds-image-24 : goal.bounds-image-24
bounds-image-24 c = omega (arith, image_long _ c.requires.accepted.image)

pub run_events-requires : goal.run_events-requires
run_events-requires c =
    let s = c in
    record { accepted = s.requires.accepted; events_value = (s.requires.events_value.0, omega (arith, s.requires.events_value.1)) }

pub bounds-image-26-2 : goal.bounds-image-26-2
bounds-image-26-2 c =
    let d = c.run_events.ensures in
    let n = ap length d.image ∙ image_length _ in
    omega (arith, n)

pub after_row-requires : goal.after_row-requires
after_row-requires c =
    let s = c in
    let n = answers_long _ _ _ _ _ _ _ s.requires.events_value.1 c.run_events.ensures in
    omega (arith, n, clocks_lain _ s.requires.accepted.image, s.requires.row.few)

pub returns : goal.returns
returns c =
    let s = c in
    row_done _ _ _ _ _ _ _ s.args.follower _ s.requires.accepted.image s.requires.events_value.1 c.run_events.ensures s.requires.row
    (rw (c.pair-address.ensures, c.is_refused-refused.ensures, c.from.ensures) at c.after_row.ensures)
