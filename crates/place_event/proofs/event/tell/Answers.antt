-- SPDX-License-Identifier: Apache-2.0
-- A tick tells its field; any other event none.
use mathlib.Core.Path.{sym, ap, ◌∙◌}
use lib.ListN.{length}
use borrow.Author.Tests.{ne_eqb}
use Rattle.fm3130.specs.Event.{second}
use Rattle.fm3130.proofs.Cases.{no_tick}
use Rattle.fm3130_image.proofs.Images.{image_length}
use Rattle.fm3130_image.proofs.Accepts.{image_written, image_long}
use Rattle.place_event.proofs.Quiets.{quiet_left, answered_quiet, happening_second, told_second}
use Rattle.place_event.proofs.event.tell.Goals as goal

pub second-rolled-requires : goal.second-rolled-requires
second-rolled-requires c = image_long _ c.requires.accepted.image

pub shown-requires : goal.shown-requires
shown-requires c =
    let h = c.requires.accepted.image in
    ap length (c.second-rolled.ensures.1 _ (sym (image_written _ h))) ∙ image_length _

pub returns-then-event-eq4 : goal.returns-then-event-eq4
returns-then-event-eq4 c =
    let e = c.if-event-eq4.true in
    let h = c.requires.accepted.image in
    let k = sym (image_written _ h) in (
      answered_quiet _ _ _ _ _ (quiet_left _ _ _ second _ (happening_second _ e) tt (c.second-rolled.ensures.1 _ k))
          c.shown.ensures.0 c.lined.ensures,
      told_second _ _ _ e (c.second-rolled.ensures.0 _ k),
    )

pub returns : goal.returns
returns c =
    (c.happen.ensures, sym (no_tick _ _ (ne_eqb _ 4 c.if-event-eq4.false)))
