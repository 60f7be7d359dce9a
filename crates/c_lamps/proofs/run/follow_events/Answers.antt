-- SPDX-License-Identifier: Apache-2.0
-- `c_lamps::run::follow_events` meets its contract.
use Rattle.place_rows.proofs.Ledger.{image_accepted}
use Rattle.c_lamps.proofs.Parts.{ran_with}
use Rattle.c_lamps.proofs.run.follow_events.Goals as goal

pub follow_in_parts-proving-requires-clause-accepted : goal.follow_in_parts-proving-requires-clause-accepted
follow_in_parts-proving-requires-clause-accepted c =
    record {
      image = image_accepted _ c.args.state c.image_of-image.ensures c.requires.state_value.0;
      memory = c.requires.state_value.1;
    }

pub returns : goal.returns
returns c =
    let a = c.args in
    ran_with a.state _ a.proving _ a.memory.now a.events.now a.answers.now _ _ _
    (rw c.image_of-image.ensures at c.follow_in_parts-proving.ensures) c.state_at-state.ensures
