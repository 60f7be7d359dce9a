-- SPDX-License-Identifier: Apache-2.0
-- The loop's invariant: the events so far are done.
use lib.ListN.{take}
use Rattle.c_pins.specs.Chip.{RanOn}
use Rattle.c_pins.proofs.Ran.{knowns}
use Rattle.c_pins.proofs.happen_all.Given as goal

abbrev pub invariant-loop-event : goal.invariant-loop-event
invariant-loop-event l =
    RanOn l.initial.image l.initial.memory (knowns (take l.event-index l.event-items)) l.image l.memory
