-- SPDX-License-Identifier: Apache-2.0
-- `wire_clocks::lay::lay_written` meets its contract: each byte is one piece more.
use mathlib.Core.Path.{◌∙◌}
use native.Mathlib.Omega.{arith}
use lib.Seq.{take_all}
use Rattle.wire_clocks.proofs.Laying.{laid_none, laid_then, laid_length, written_more}
use borrow.Author.Rules.{rules}
use Rattle.wire_clocks.proofs.lay.lay_written.Goals as goal

pub loop-byte-init : goal.loop-byte-init
loop-byte-init c = (search rules, search rules, laid_none _ _)

pub loop-byte-preserved : goal.loop-byte-preserved
loop-byte-preserved c =
    let l = c.loop-byte in
    let v = c.lay_byte-place.ensures in
    let q = laid_length v in
    (v.place ∙ omega arith, q ∙ l.invariant.1, rw (written_more c.args.bytes.now l.byte-index (search rules)) at (laid_then l.invariant.2 v))

pub returns : goal.returns
returns c = rw (take_all c.loop-byte.byte-index c.args.bytes.now c.loop-byte-test.false) at c.loop-byte.invariant.2
