-- SPDX-License-Identifier: Apache-2.0
-- `push` gives the pushed byte, by the bit.
use mathlib.Core.Path.{◌≡◌, refl}
use mathlib.Core.Bool.{Bool, true, false}
use Prim.Native.Nat.{ℕ, ◌+◌, ◌*◌, ◌%◌}
use native.Mathlib.Omega.{arith}
use Rattle.std.specs.Int.{from_bool}
use Rattle.wire.specs.Bits.{pushed}
use Rattle.wire.proofs.bits.push.Goals as goal

by_bit : (b : ℕ) (d : Bool) → b % 128 * 2 + from_bool d ≡ pushed b d
unfolding pushed
by_bit b true = refl
by_bit b false = omega arith

pub returns : goal.returns
returns c = rw c.from.ensures (by_bit c.args.byte c.args.high)
