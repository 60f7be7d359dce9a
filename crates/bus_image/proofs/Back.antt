-- SPDX-License-Identifier: Apache-2.0
-- The supplies, the phase and an address are what their numbers in an image give back.
use Prim.Native.Nat.{ℕ, ◌+◌, ◌*◌, ◌/◌, ◌%◌}
use mathlib.Core.Path.{◌≡◌, refl}
use native.Mathlib.Omega.{arith}
use Rattle.wire.specs.declared.Side.TheVariants.{Memory, Companion}
use Rattle.wire.specs.declared.Phase.{Phase}
use Rattle.wire.specs.declared.Phase.TheVariants.{Idle, Slave, AddressHigh, AddressLow, Pointer, Write, Read}
use Rattle.bus.specs.declared.Power.{Power}
use Rattle.bus.specs.declared.Power.TheVariants.{On, Backup, Off}
use Rattle.bus_image.specs.Layout.{power_number, power_of, transfer_of, phase_of}

pub power_of_number : (p : Power) → power_of (power_number p) ≡ p
unfolding power_of
power_of_number On = refl
power_of_number Backup = refl
power_of_number Off = refl

pub phase_of_transfer : (p : Phase)
    → phase_of (transfer_of p).phase (transfer_of p).clocks (transfer_of p).byte (transfer_of p).first ≡ p
unfolding phase_of
phase_of_transfer Idle = refl
phase_of_transfer (Slave k b) = refl
phase_of_transfer (AddressHigh k b) = refl
phase_of_transfer (AddressLow h k b) = refl
phase_of_transfer (Pointer k b) = refl
phase_of_transfer (Write Memory k b) = refl
phase_of_transfer (Write Companion k b) = refl
phase_of_transfer (Read Memory k b) = refl
phase_of_transfer (Read Companion k b) = refl

pub address_of_bytes : (a : ℕ) → a / 256 * 256 + a % 256 ≡ a
address_of_bytes a = omega arith
