-- SPDX-License-Identifier: Apache-2.0
-- What was looked at is Clocks up to there, so a list begins with them.
use native.Mathlib.Omega.{arith}
use lib.ListN.{take, length-take}
use Rattle.c_lamps.proofs.Rows.{front_within, front_clocks}
use Rattle.c_lamps.proofs.row.leading_clocks.Goals as goal

pub returns : goal.returns
returns c =
    let es = c.args.events.now in
    let n = front_within (take c.min.result es) in
    let m = length-take c.min.result es in
    rw c.clocks_before.ensures (omega (arith, m, n), omega (arith, m, n), front_clocks c.min.result es)
