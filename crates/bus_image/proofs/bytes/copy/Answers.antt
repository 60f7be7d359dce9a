-- SPDX-License-Identifier: Apache-2.0
-- The loop's invariant: the bytes passed are copied.
use native.Mathlib.Omega.{arith}
use Rattle.bus_image.proofs.Lists.{copy_more, copy_done}
use Rattle.bus_image.proofs.bytes.copy.Goals as goal

pub loop-i-preserved : goal.loop-i-preserved
loop-i-preserved c =
    let l = c.loop-i in
    copy_more c.args.from.now l.to l.i (omega arith) (omega arith) l.invariant

pub returns : goal.returns
returns c = copy_done _ _ _ c.loop-i-test.false (omega arith) c.loop-i.invariant
