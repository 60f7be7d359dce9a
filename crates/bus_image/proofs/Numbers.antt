-- SPDX-License-Identifier: Apache-2.0
-- What the number of a phase says: none is above 8, and those above 6 are of a byte that goes out.
use Prim.Native.Nat.{ℕ, ◌≤◌, ◌<◌}
use mathlib.Core.Path.{◌≡◌}
use native.Mathlib.Omega.{arith}
use lib.Dec.{eqb}
use borrow.Author.Tests.{eqb-true, eqb-false}
use Rattle.wire.specs.declared.Side.TheVariants.{Memory, Companion}
use Rattle.wire.specs.declared.Phase.{Phase}
use Rattle.wire.specs.declared.Phase.TheVariants.{Idle, Slave, AddressHigh, AddressLow, Pointer, Write, Read}
use Rattle.wire.proofs.Tests.{by_test}
use Rattle.bus_image.specs.Layout.{transfer_of, phase_of}
use Rattle.bus_image.specs.Code.Layout.{side_of}

pub number_below : (p : Phase) → (transfer_of p).phase ≤ 8
number_below Idle = omega arith
number_below (Slave k b) = omega arith
number_below (AddressHigh k b) = omega arith
number_below (AddressLow h k b) = omega arith
number_below (Pointer k b) = omega arith
number_below (Write Memory k b) = omega arith
number_below (Write Companion k b) = omega arith
number_below (Read Memory k b) = omega arith
number_below (Read Companion k b) = omega arith

pub read_phase : (n k b f : ℕ) → 6 < n → n ≤ 8 → phase_of n k b f ≡ Read (side_of n) k b
unfolding phase_of
read_phase n k b f g l = by_test (eqb n 7)
    (λ t. rw (eqb-true n 7 t))
    (λ t. let z = eqb-false n 7 t in let e : n ≡ 8 = omega arith in rw e)
