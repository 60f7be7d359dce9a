-- SPDX-License-Identifier: Apache-2.0
-- `c_master::told::put_bytes` meets its contract: the bytes so far stand at the front of the buffer.
use native.Mathlib.Omega.{arith}
use mathlib.Core.Path.{◌≡◌}
use Rattle.wire_clocks.specs.Clocks.{lines_of}
use Rattle.c_master.specs.Told.{byte_at}
use Rattle.c_master.proofs.Listing.{listed_more}
use borrow.Author.Rules.{rules}
use Rattle.c_master.proofs.told.put_bytes.Goals as goal

pub loop-i-preserved : goal.loop-i-preserved
loop-i-preserved c =
    let l = c.loop-i in
    let s = c in
    (search rules, rw (c.byte_from.ensures, l.invariant.1) (listed_more s.args.bytes.now (byte_at (lines_of s.args.answers.now)) l.i))

pub returns : goal.returns
returns c =
    let q : c.loop-i.i ≡ c.args.count = omega arith in rw q at c.loop-i.invariant.1
