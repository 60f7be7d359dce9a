-- SPDX-License-Identifier: Apache-2.0
-- The first event chooses the way.
use mathlib.Core.Path.{sym, ◌∙◌}
use native.Mathlib.Omega.{arith}
use lib.ListN.{get_or}
use Rattle.fm3130_image.specs.Image.{candidate}
use Rattle.place_list.proofs.Striding.{row_done, moves_facts}
use Rattle.place_list.proofs.stride.Goals as goal

pub bounds-events-from : goal.bounds-events-from
bounds-events-from c = c.requires.events_value.1

pub clocks-requires : goal.clocks-requires
clocks-requires c =
    record { accepted = c.requires.accepted; from_in_bounds = (c.requires.events_value.1, c.requires.events_value.2, c.if-event-eq1.true) }

pub returns-then-event-eq1 : goal.returns-then-event-eq1
returns-then-event-eq1 c = c.clocks.ensures

pub moves-requires : goal.moves-requires
moves-requires c = c.requires.accepted.image

pub tick_row-requires : goal.tick_row-requires
tick_row-requires c =
    let f = moves_facts (candidate c.args.image.now) (get_or c.args.events.now c.args.from 0)
    (sym c.moves.ensures ∙ c.if-moves.true) in
    record { image_value = (c.requires.accepted.image, f.1); from_in_bounds = (omega (arith, c.requires.events_value.1), c.requires.events_value.2) }

pub returns-then-moves : goal.returns-then-moves
returns-then-moves c =
    let f = moves_facts (candidate c.args.image.now) (get_or c.args.events.now c.args.from 0)
    (sym c.moves.ensures ∙ c.if-moves.true) in
    let e = c.tick_row.ensures in
    row_done _ _ _ _ _ c.requires.accepted c.requires.events_value.1 _ _ _ e.0 (e.1 c.requires.events_value.1 f.0)

pub single-requires : goal.single-requires
single-requires c =
    record { accepted = c.requires.accepted; events_value = c.requires.events_value }

pub returns : goal.returns
returns c = c.single.ensures
