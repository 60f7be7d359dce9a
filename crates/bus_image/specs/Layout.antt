-- SPDX-License-Identifier: Apache-2.0
-- The supplies and the phase as the numbers of an image, and back (docs/IMAGE.md, bytes 25 to 29).
--   power_number, power_of   the supplies as byte 25, and back
--   transfer_of, phase_of    the phase as bytes 26 to 29, and back
--   transfer_at              these bytes, as they lie
--   bus_bytes, bus_at        a bus as bytes 23 to 29, and back: the memory address, the supplies and the phase
use Rattle.std.specs.Prelude.{ℕ, ◌+◌, ◌*◌, ◌/◌, ◌%◌, cond, List, [], ◌∷◌, eqb, get_or}
use Rattle.wire.specs.declared.Side.TheVariants.{Memory, Companion}
use Rattle.wire.specs.declared.Phase.{Phase}
use Rattle.wire.specs.declared.Phase.TheVariants.{Idle, Slave, AddressHigh, AddressLow, Pointer, Write, Read}
use Rattle.bus.specs.declared.Bus.{Bus}
use Rattle.bus.specs.declared.Power.{Power}
use Rattle.bus.specs.declared.Power.TheVariants.{On, Backup, Off}
use Rattle.bus_image.specs.Places.{IDLE, SLAVE, ADDRESS_HIGH, ADDRESS_LOW, POINTER, WRITE_MEMORY, WRITE_COMPANION}
use Rattle.bus_image.specs.Places.{READ_MEMORY, READ_COMPANION}
use Rattle.bus_image.specs.Places.{ADDRESS_HIGH_AT, ADDRESS_LOW_AT, SUPPLIES_AT, PHASE_AT, CLOCKS_AT, BYTE_AT, FIRST_AT}
use Rattle.bus_image.specs.declared.Transfer.{Transfer}

-- Byte 25.
abbrev pub power_number : Power → ℕ
power_number On = 0
power_number Backup = 1
power_number Off = 2

-- Auxiliary: a number that stands for nothing reads as the last case; written again it is another number.
unfoldable pub power_of : ℕ → Power
power_of n = cond (eqb n 0) On (cond (eqb n 1) Backup Off)

-- Auxiliary: the phase's number, the clocks done, the byte, the first address byte.
abbrev pub transfer : ℕ → ℕ → ℕ → ℕ → Transfer
transfer n k b f = record { phase = n; clocks = k; byte = b; first = f }

-- Bytes 26 to 29; a phase that moves data has a number for each of the two devices.
abbrev pub transfer_of : Phase → Transfer
transfer_of Idle = transfer IDLE 0 0 0
transfer_of (Slave k b) = transfer SLAVE k b 0
transfer_of (AddressHigh k b) = transfer ADDRESS_HIGH k b 0
transfer_of (AddressLow h k b) = transfer ADDRESS_LOW k b h
transfer_of (Pointer k b) = transfer POINTER k b 0
transfer_of (Write Memory k b) = transfer WRITE_MEMORY k b 0
transfer_of (Write Companion k b) = transfer WRITE_COMPANION k b 0
transfer_of (Read Memory k b) = transfer READ_MEMORY k b 0
transfer_of (Read Companion k b) = transfer READ_COMPANION k b 0

-- Auxiliary: back again, with any other number as no transfer.
unfoldable pub phase_of : ℕ → ℕ → ℕ → ℕ → Phase
phase_of n k b f =
    cond (eqb n SLAVE) (Slave k b)
    (cond (eqb n ADDRESS_HIGH) (AddressHigh k b)
    (cond (eqb n ADDRESS_LOW) (AddressLow f k b)
    (cond (eqb n POINTER) (Pointer k b)
    (cond (eqb n WRITE_MEMORY) (Write Memory k b)
    (cond (eqb n WRITE_COMPANION) (Write Companion k b)
    (cond (eqb n READ_MEMORY) (Read Memory k b)
    (cond (eqb n READ_COMPANION) (Read Companion k b) Idle)))))))

-- Auxiliary: bytes 26 to 29 as they lie.
abbrev pub transfer_at : List ℕ → Transfer
transfer_at i = transfer (get_or i PHASE_AT 0) (get_or i CLOCKS_AT 0) (get_or i BYTE_AT 0) (get_or i FIRST_AT 0)

-- Bytes 23 to 29.
abbrev pub bus_bytes : Bus → List ℕ
bus_bytes u =
    u.address / 256 ∷ u.address % 256 ∷ power_number u.power
    ∷ (transfer_of u.phase).phase ∷ (transfer_of u.phase).clocks
    ∷ (transfer_of u.phase).byte ∷ (transfer_of u.phase).first ∷ []

-- Auxiliary: back again, each by its place.
abbrev pub bus_at : List ℕ → Bus
bus_at i =
    record {
      power = power_of (get_or i SUPPLIES_AT 0);
      phase = phase_of (get_or i PHASE_AT 0) (get_or i CLOCKS_AT 0) (get_or i BYTE_AT 0) (get_or i FIRST_AT 0);
      address = get_or i ADDRESS_HIGH_AT 0 * 256 + get_or i ADDRESS_LOW_AT 0;
    }
