-- SPDX-License-Identifier: Apache-2.0
-- What the code reads of an image by itself, the serial number; and what it writes into one, a companion.
use Rattle.std.specs.Prelude.{ℕ, List, [], ◌∷◌}
use Rattle.std.proofs.lemmas.List.Edits.{sets}
use Rattle.bus_image.specs.Places.{COMPANION_ADDRESS_AT}
use Rattle.fm31_counters.specs.Registers.{register_bytes, registers_of}
use Rattle.fm31_counters.specs.declared.Counters.{Counters}
use Rattle.fm31_counters.specs.declared.Serial.{Serial}
use Rattle.fm31_image.specs.Image.{counts_bytes}

-- Auxiliary: bytes 8 to 15, as the serial number.
abbrev pub serial_at : List ℕ → Serial
serial_at i = (registers_of i).serial

-- Auxiliary: the registers over bytes 0 to 15, the snapshot over 16 to 19, the companion's address over 22.
abbrev pub with_counters : List ℕ → Counters → List ℕ
with_counters i c =
    sets (sets (sets i 0 (register_bytes c.registers)) 16 (counts_bytes c.snapshot)) COMPANION_ADDRESS_AT (c.address ∷ [])
