-- SPDX-License-Identifier: Apache-2.0
use Rattle.c_pins.proofs.Ran.{ran_accepted, ran_none, ran_more}
use Rattle.c_pins.proofs.happen_all.Goals as goal

pub loop-event-init : goal.loop-event-init
loop-event-init c = ran_none _ _ c.requires

pub once-requires : goal.once-requires
once-requires c = ran_accepted _ _ _ _ _ c.requires c.loop-event.invariant

pub loop-event-preserved : goal.loop-event-preserved
loop-event-preserved c = ran_more _ _ _ _ _ _ _ _ c.loop-event-test.true c.loop-event.invariant c.once.ensures
