-- SPDX-License-Identifier: Apache-2.0
-- `c_master::told::put_flags` meets its contract: the flags so far stand at the front of the buffer.
use mathlib.Core.Path.{◌≡◌}
use native.Mathlib.Omega.{arith}
use Rattle.wire_clocks.specs.Clocks.{lines_of}
use Rattle.c_master.specs.Told.{flag_at}
use Rattle.c_master.proofs.Listing.{listed_more}
use borrow.Author.Rules.{rules}
use Rattle.c_master.proofs.told.put_flags.Goals as goal

pub flag-requires : goal.flag-requires
flag-requires c = (c.is_open-ready.ensures, search rules)

pub loop-i-preserved : goal.loop-i-preserved
loop-i-preserved c =
    let l = c.loop-i in
    let s = c in
    (search rules, rw (c.flag.ensures, l.invariant.1) (listed_more s.args.flags.now (flag_at (lines_of s.args.answers.now)) l.i))

pub returns : goal.returns
returns c =
    let q : c.loop-i.i ≡ c.args.count = omega arith in rw q at c.loop-i.invariant.1
