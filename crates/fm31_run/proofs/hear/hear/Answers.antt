-- SPDX-License-Identifier: Apache-2.0
-- `fm31_run::hear::hear` meets its contract.
use Rattle.fm31_run.proofs.Seats.{own_small}
use Rattle.fm31_run.proofs.hear.hear.Goals as goal

pub advance-answered-requires-clause-event_le_last_event :
    goal.advance-answered-requires-clause-event_le_last_event
advance-answered-requires-clause-event_le_last_event c = rw c.own_byte.ensures (own_small c.args.event)
