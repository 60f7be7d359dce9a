-- SPDX-License-Identifier: Apache-2.0
-- `wire_clocks::lay::lay_opening` meets its contract: four pieces, one after another.
use Prim.Native.Nat.{◌/◌, ◌%◌}
use mathlib.Core.Path.{◌≡◌}
use native.Mathlib.Omega.{arith}
use Rattle.wire_clocks.proofs.Laying.{laid_then}
use Rattle.wire_clocks.proofs.lay.lay_opening.Goals as goal

pub returns : goal.returns
returns c =
    let high : c.args.address / 256 ≡ c.args.address / 256 % 256 = omega (arith, c.ranges.address.fits) in
    rw high
    (laid_then c.lay_event-started.ensures
    (laid_then c.lay_byte-named.ensures
    (laid_then (rw c.to_be_bytes.ensures at c.lay_byte-half.ensures) (rw c.to_be_bytes.ensures at c.lay_byte.ensures))))
