-- SPDX-License-Identifier: Apache-2.0
-- The image of a state (02, number 5: "the image begins with these 16 registers"; 01, Entries: "the rest is the team's
-- layout, in docs/. Image and state go both ways without loss."). docs/FAMILY.md has the table.
--   image_size, mark, image_of          the 64 bytes that a state writes
--   candidate, decode_of               the state that an image holds, if a well-formed state writes it
use Rattle.std.specs.Prelude.{ℕ, ◌+◌, cond, ◌&&◌, List, [], ◌∷◌, ◌++◌, get_or, replicate, Option, Some, None}
use Rattle.fm31_counters.specs.Registers.{register_bytes, registers_of}
use Rattle.fm31_counters.specs.declared.Counts.{Counts}
use Rattle.fm31_counters.specs.declared.Counters.{Counters}
use Rattle.fm31.specs.Limits.{well_formed}
use Rattle.fm31.specs.declared.State.{State}
use Rattle.bus_image.specs.Bytes.{same_bytes}
use Rattle.bus_image.specs.Layout as layout
use Rattle.bus_image.specs.Places.{COMPANION_ADDRESS_AT}
pub use Rattle.bus_image.specs.Layout.{bus_at}

-- "State image (64 bytes)."
abbrev pub image_size : ℕ
image_size = 64

-- Bytes 61 to 63: the mark `31CC`, and the layout's number. A buffer of zeros is no image, nor is one of an FM3130.
abbrev pub mark : List ℕ
mark = 0x31 ∷ 0xCC ∷ 0x01 ∷ []

-- Auxiliary: both counters' four bytes.
abbrev pub counts_bytes : Counts → List ℕ
counts_bytes n = n.one.low ∷ n.one.high ∷ n.two.low ∷ n.two.high ∷ []

-- Bytes 22 to 29, as in the FM3130's image: the two addresses, the supplies, and where a transfer stands.
abbrev pub bus_bytes : State → List ℕ
bus_bytes s = s.counters.address ∷ layout.bus_bytes s.bus

-- "The image begins with these 16 registers"; then the snapshot, two zeros, bytes 22 to 29, zeros, and the mark.
unfoldable pub image_of : State → List ℕ
image_of s =
    register_bytes s.counters.registers ++ counts_bytes s.counters.snapshot ++ (0 ∷ 0 ∷ [])
    ++ bus_bytes s ++ replicate 31 0 ++ mark

-- Auxiliary: four bytes from a place on, as the two counters.
unfoldable pub counts_at : List ℕ → ℕ → Counts
counts_at i n =
    record {
      one = record { low = get_or i n 0; high = get_or i (n + 1) 0 };
      two = record { low = get_or i (n + 2) 0; high = get_or i (n + 3) 0 };
    }

-- Auxiliary: the first 23 bytes, as a companion.
abbrev pub counters_at : List ℕ → Counters
counters_at i = record { registers = registers_of i; snapshot = counts_at i 16; address = get_or i COMPANION_ADDRESS_AT 0 }

-- Auxiliary: all fields by their places, so the one state that could write an image.
unfoldable pub candidate : List ℕ → State
candidate i = record { bus = bus_at i; counters = counters_at i }

-- The state that an image holds: the candidate, if it is well-formed for size and select and writes this very image.
unfoldable pub decode_of : ℕ → ℕ → List ℕ → Option State
decode_of size select i = cond (well_formed size select (candidate i) && same_bytes (image_of (candidate i)) i) (Some
    (candidate i)) None
