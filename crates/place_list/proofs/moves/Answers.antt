-- SPDX-License-Identifier: Apache-2.0
-- A tick, and one that moves the core.
use mathlib.Core.Path.{sym}
use borrow.Author.Tests.{eq-eqb, ne_eqb}
use Rattle.fm3130_image.proofs.Accepts.{image_long, image_written}
use Rattle.place_list.proofs.moves.Goals as goal

pub is_ticking-requires : goal.is_ticking-requires
is_ticking-requires c = image_long _ c.requires

pub returns-then-event-eq4 : goal.returns-then-event-eq4
returns-then-event-eq4 c =
    rw (eq-eqb _ _ c.if-event-eq4.true) (c.is_ticking.ensures _ (sym (image_written _ c.requires)))

pub returns : goal.returns
returns c = rw (ne_eqb _ _ c.if-event-eq4.false)
