-- SPDX-License-Identifier: Apache-2.0
-- The loop's invariant: so many events are done, on an accepted image. The measure is what is left.
use Prim.Native.Nat.{◌+◌, ◌-◌}
use mathlib.Core.Path.{sym, ◌∙◌}
use native.Mathlib.Omega.{arith}
use Rattle.c_lamps.proofs.Parts.{part_length, part_known, part_inside, upto_all, upto_next}
use Rattle.c_lamps.proofs.run.follow_in_parts.Goals as goal

pub part-kept-requires-clause-events_value : goal.part-kept-requires-clause-events_value
part-kept-requires-clause-events_value c =
    let l = c.loop-i in
    let es = c.args.events.now in
    let e = c.part_length.ensures in
    let k = c.part_length.result in
    let h = part_inside es l.i k c.loop-i-test.true e.1 in
    let x = part_length es l.i (l.i + k - l.i) (omega arith) in
    let y = part_length l.answers l.i (l.i + k - l.i) (omega (arith, h, c.requires.events_value.1, l.invariant.room)) in
    (part_known l.i (l.i + k - l.i) es c.requires.events_value.0, y ∙ sym x, omega (arith, x, e.0))

pub loop-i-preserved : goal.loop-i-preserved
loop-i-preserved c =
    let l = c.loop-i in
    let k = c.part_length.result in
    let h = part_inside c.args.events.now l.i k c.loop-i-test.true c.part_length.ensures.1 in
    upto_next _ _ _ _ _ _ _ _ _ _ l.invariant (l.i + k - l.i) (omega arith) c.requires.events_value.1 _ _ _ _ c.part-kept.ensures k (omega arith)

pub returns : goal.returns
returns c = upto_all _ _ _ _ _ _ _ _ _ _ c.loop-i-test.false c.loop-i.invariant
