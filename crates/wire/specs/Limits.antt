-- SPDX-License-Identifier: Apache-2.0
-- The limits on what a phase holds (01, Entries: "clocks within a byte 0 to 8"; "limits on what else a phase holds stand in
-- docs/ and shut out no state that events reach from one between transfers"). Over whom a slave byte names, and which
-- companion addresses are legal.
--   bits_fit   a byte's bits are those of the clocks done        phase_within   the limits of each phase
use Rattle.std.specs.Prelude.{ℕ, ◌^◌, Bool, true, cond, ◌&&◌, leb, ltb, eqb}
use Rattle.wire.specs.Slave.{answers}
use Rattle.wire.specs.declared.Named.{Named}
use Rattle.wire.specs.declared.Phase.{Phase}
use Rattle.wire.specs.declared.Phase.TheVariants.{Idle, Slave, AddressHigh, AddressLow, Pointer, Write, Read}

-- Of a byte that comes in, after k clocks only the low k bits can be set.
unfoldable pub bits_fit : ℕ → ℕ → Bool
bits_fit k b = leb k 8 && ltb b (2 ^ k)

-- A slave byte or a companion address that waits for its acknowledge is one that is acknowledged; a byte that goes out is 0
-- before its first clock.
unfoldable pub phase_within : (ℕ → Named) → (ℕ → Bool) → Phase → Bool
phase_within names legal Idle = true
phase_within names legal (Slave k b) = bits_fit k b && cond (eqb k 8) (answers (names b)) true
phase_within names legal (AddressHigh k b) = bits_fit k b
phase_within names legal (AddressLow h k b) = bits_fit k b
phase_within names legal (Pointer k b) = bits_fit k b && cond (eqb k 8) (legal b) true
phase_within names legal (Write s k b) = bits_fit k b
phase_within names legal (Read s k b) = leb k 8 && cond (eqb k 0) (eqb b 0) true
