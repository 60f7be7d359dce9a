-- SPDX-License-Identifier: Apache-2.0
-- The kinds of byte in a transfer, each over the functions of the one device that it serves (01, Transfers).
--   slave_byte, high_byte               touch no device
--   low_byte, memory_byte, memory_read   serve the memory
--   pointer_byte, companion_byte, companion_read   serve the companion
use Rattle.std.specs.Prelude.{ℕ, true}
use Rattle.wire.specs.Slave.{answers, opened}
use Rattle.wire.specs.Clock.{Taken, Receiver, Sender}
use Rattle.wire.specs.declared.Side.TheVariants.{Memory, Companion}
use Rattle.wire.specs.declared.Named.{Named}
use Rattle.wire.specs.declared.Phase.TheVariants.{Slave, AddressHigh, AddressLow, Pointer, Write, Read}

-- Auxiliary: a byte that is taken whatever it is.
abbrev pub taken : {A : Type 0} → A → Taken A
taken a = record { next = a; good = true }

-- "Any other (ruling) is not acknowledged, and the device waits for a Start."
abbrev pub slave_byte : (ℕ → Named) → Receiver (Unit {0})
slave_byte names =
    record { here = Slave; take = λ u b. record { next = u; good = answers (names b) }; after = λ b. opened (names b) }

-- "Memory write: two address bytes, acknowledged .. The address is taken at the eighth clock of the second byte."
abbrev pub high_byte : Receiver (Unit {0})
high_byte = record { here = AddressHigh; take = λ u b. taken u; after = λ b. AddressLow b 0 0 }

abbrev pub low_byte : {M : Type 0} → (M → ℕ → ℕ → M) → ℕ → Receiver M
low_byte point h = record { here = AddressLow h; take = λ m b. taken (point m h b); after = λ b. Write Memory 0 0 }

-- "A data byte is stored at its eighth clock."
abbrev pub memory_byte : {M : Type 0} → (M → ℕ → Taken M) → Receiver M
memory_byte put = record { here = Write Memory; take = put; after = λ b. Write Memory 0 0 }

-- "A read uses the current address. The byte is fixed at its first clock; the address steps on at the eighth."
abbrev pub memory_read : {M : Type 0} → (M → ℕ) → (M → M) → Sender M
memory_read fetch step_on = record { here = Read Memory; fetch = fetch; done = λ m b. step_on m }

-- "Companion write: one address byte, taken at its eighth clock."
abbrev pub pointer_byte : {C : Type 0} → (C → ℕ → Taken C) → Receiver C
pointer_byte aim = record { here = Pointer; take = aim; after = λ b. Write Companion 0 0 }

abbrev pub companion_byte : {C : Type 0} → (C → ℕ → Taken C) → Receiver C
companion_byte store = record { here = Write Companion; take = store; after = λ b. Write Companion 0 0 }

abbrev pub companion_read : {C : Type 0} → (C → ℕ) → (C → ℕ → C) → Sender C
companion_read load loaded = record { here = Read Companion; fetch = load; done = loaded }
