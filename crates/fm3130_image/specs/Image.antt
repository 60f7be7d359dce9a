-- SPDX-License-Identifier: Apache-2.0
-- The image of a state (01, Entries: "state image (64 bytes) .. The image's first 15 bytes are registers 00h to 0Eh;
-- the rest is the team's layout, in docs/. Image and state go both ways without loss."). docs/IMAGE.md has the table.
--   image_size, mark, image_of          the 64 bytes that a state writes
--   candidate, decode_of               the state that an image holds, if a well-formed state writes it
use Rattle.std.specs.Prelude.{ℕ, ◌+◌, ◌*◌, ◌/◌, ◌%◌, cond, ◌&&◌, List, [], ◌∷◌, ◌++◌, get_or, replicate, Option, Some, None}
use Rattle.calendar.specs.declared.Calendar.{Calendar}
use Rattle.fm3130_companion.specs.Registers.{register_bytes, registers_of}
use Rattle.fm3130_companion.specs.declared.Companion.{Companion}
use Rattle.fm3130.specs.Limits.{well_formed}
use Rattle.fm3130.specs.declared.State.{State}
use Rattle.bus_image.specs.Bytes.{same_bytes}
use Rattle.bus_image.specs.Layout.{power_number, power_of, transfer_of, phase_of}
use Rattle.bus_image.specs.Places.{COMPANION_ADDRESS_AT, ADDRESS_HIGH_AT, ADDRESS_LOW_AT, SUPPLIES_AT}
use Rattle.bus_image.specs.Places.{PHASE_AT, CLOCKS_AT, BYTE_AT, FIRST_AT}
use Rattle.fm3130_image.specs.Places.{CORE_SECONDS_AT}

-- "State image (64 bytes)."
abbrev pub image_size : ℕ
image_size = 64

-- Bytes 61 to 63: the mark `3130`, and the layout's number. A buffer of zeros is no image.
abbrev pub mark : List ℕ
mark = 0x31 ∷ 0x30 ∷ 0x01 ∷ []

-- Auxiliary: a calendar's seven bytes.
abbrev pub calendar_bytes : Calendar → List ℕ
calendar_bytes c = c.seconds ∷ c.minutes ∷ c.hours ∷ c.day ∷ c.date ∷ c.month ∷ c.year ∷ []

-- Bytes 22 to 29: the two addresses, the supplies, and where a transfer stands.
abbrev pub bus_bytes : State → List ℕ
bus_bytes s =
    s.companion.address ∷ s.address / 256 ∷ s.address % 256 ∷ power_number s.power
    ∷ (transfer_of s.phase).phase ∷ (transfer_of s.phase).clocks
    ∷ (transfer_of s.phase).byte ∷ (transfer_of s.phase).first ∷ []

-- "The image's first 15 bytes are registers 00h to 0Eh"; then the core, bytes 22 to 29, zeros, and the mark.
unfoldable pub image_of : State → List ℕ
image_of s =
    register_bytes s.companion.registers ++ calendar_bytes s.companion.core
    ++ bus_bytes s ++ replicate 31 0 ++ mark

-- Auxiliary: seven bytes from a place on, as a calendar.
unfoldable pub calendar_at : List ℕ → ℕ → Calendar
calendar_at i n =
    record {
      seconds = get_or i n 0;
      minutes = get_or i (n + 1) 0;
      hours = get_or i (n + 2) 0;
      day = get_or i (n + 3) 0;
      date = get_or i (n + 4) 0;
      month = get_or i (n + 5) 0;
      year = get_or i (n + 6) 0;
    }

-- Auxiliary: the first 23 bytes, as a companion.
abbrev pub companion_at : List ℕ → Companion
companion_at i = record { registers = registers_of i; core = calendar_at i CORE_SECONDS_AT; address = get_or i COMPANION_ADDRESS_AT 0 }

-- Auxiliary: all fields by their places, so the one state that could write an image.
unfoldable pub candidate : List ℕ → State
candidate i =
    record {
      power = power_of (get_or i SUPPLIES_AT 0);
      phase = phase_of (get_or i PHASE_AT 0) (get_or i CLOCKS_AT 0) (get_or i BYTE_AT 0) (get_or i FIRST_AT 0);
      address = get_or i ADDRESS_HIGH_AT 0 * 256 + get_or i ADDRESS_LOW_AT 0;
      companion = companion_at i;
    }

-- The state that an image holds: the candidate, if it is well-formed and writes this very image.
unfoldable pub decode_of : List ℕ → Option State
decode_of i = cond (well_formed (candidate i) && same_bytes (image_of (candidate i)) i) (Some (candidate i)) None
