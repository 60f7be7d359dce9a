-- SPDX-License-Identifier: Apache-2.0
-- `run_at` meets its contract: all that the proof knows of `hear_in_place` is that it meets its own.
use Rattle.std.proofs.Common.{arith}
use Rattle.fm31.proofs.Entry.{ready}
use Rattle.fm31_run.proofs.Turns.{Turn, turned_known, ended}
use Rattle.fm31_run.proofs.list.run_at.Goals as goal

pub hear_in_place-requires-clause-ready : goal.hear_in_place-requires-clause-ready
hear_in_place-requires-clause-ready c = ready _ _ _ _ c.loop-i.invariant.sized c.loop-i.invariant.well

pub loop-i-preserved : goal.loop-i-preserved
loop-i-preserved c =
    let a = c.args in
    let l = c.loop-i in
    let turn : Turn a.seat a.state a.memory.now a.events.now a.answers.now =
    record { state = l.at; memory = l.memory; answers = l.answers; at = l.i; known = l.invariant } in
    let new = c.hear_in_place.new in
    turned_known a.seat a.state a.memory.now a.events.now a.answers.now turn new.state new.memory
    c.hear_in_place.result c.requires.state_value.2 c.loop-i-test.true c.requires.place_bound.1
    c.hear_in_place.ensures (omega arith)

pub returns : goal.returns
returns c =
    let a = c.args in
    let l = c.loop-i in
    ended a.seat a.state a.memory.now a.events.now a.answers.now
    (record { state = l.at; memory = l.memory; answers = l.answers; at = l.i; known = l.invariant }) c.loop-i-test.false
