-- SPDX-License-Identifier: Apache-2.0
-- One event: its answer goes to its place.
use Rattle.bus_list.proofs.Runs.{known_at}
use Rattle.fm31.specs.Chip.{last_event}
use Rattle.fm31_place_list.proofs.Striding.{rowed_one}
use Rattle.fm31_place_list.proofs.single.Goals as goal

pub happen-answer-requires : goal.happen-answer-requires
happen-answer-requires c =
    let s = c in
    record { accepted = s.requires.accepted.0; event_le_last_event = known_at last_event s.args.events.now s.requires.events_value.0 s.args.from s.requires.events_value.1 }

pub returns : goal.returns
returns c =
    let s = c in
    rowed_one _ s.requires.accepted.1 _ _ _ _ _ s.requires.accepted.0 _ _ _ s.requires.events_value.1 s.requires.events_value.2 c.happen-answer.ensures
