-- SPDX-License-Identifier: Apache-2.0
-- One event: its answer goes to its place.
use Rattle.fm3130_list.proofs.Runs.{known_at}
use Rattle.place_list.proofs.Striding.{rowed_one}
use Rattle.place_list.proofs.single.Goals as goal

pub happen-answer-requires : goal.happen-answer-requires
happen-answer-requires c =
    record { accepted = c.requires.accepted; event_bound = known_at c.args.events.now c.requires.events_value.0 c.args.from c.requires.events_value.1 }

pub returns : goal.returns
returns c =
    rowed_one _ _ _ _ _ _ _ _ c.requires.accepted c.requires.events_value.1 c.requires.events_value.2 c.happen-answer.ensures
