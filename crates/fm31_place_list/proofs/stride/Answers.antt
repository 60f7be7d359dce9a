-- SPDX-License-Identifier: Apache-2.0
-- The first event chooses the way.
use Rattle.fm31_place_list.proofs.stride.Goals as goal

pub bounds-events-from : goal.bounds-events-from
bounds-events-from c = c.requires.events_value.1

pub clocks-requires : goal.clocks-requires
clocks-requires c =
    let s = c in
    record { accepted = s.requires.accepted; events_value = (s.requires.events_value.0, s.requires.events_value.1, s.requires.events_value.2, c.if-event-eq1.true) }

pub returns-then-event-eq1 : goal.returns-then-event-eq1
returns-then-event-eq1 c = c.clocks.ensures

pub single-requires : goal.single-requires
single-requires c =
    let s = c in record { accepted = s.requires.accepted; events_value = s.requires.events_value }

pub returns : goal.returns
returns c = c.single.ensures
