-- SPDX-License-Identifier: Apache-2.0
-- A written memory byte in the words of the wire (demand 2: an acknowledged memory byte is stored at its address):
-- Start, A0h, two address bytes, a data byte.
--   write_events, address_of   the events, and the address that they name
--   Written                  what they leave
--   WrittenOnTheWire         the statement
use Rattle.std.specs.Prelude.{ℕ, ◌+◌, ◌*◌, ◌%◌, ◌<◌, ◌≡◌, Bool, true, false, List, ◌++◌, length, get_or, set}
use Rattle.wire.specs.Memory.{is_protected}
use Rattle.bus.specs.declared.Power.TheVariants.{On}
use Rattle.fm3130_companion.specs.Part.{guard_of}
use Rattle.fm3130.specs.Chip.{memory_size}
use Rattle.fm3130.specs.declared.State.{State}
use Rattle.fm3130_list.specs.Run.{Ended, run_of}
use Rattle.wire_clocks.specs.Clocks.{nine_clocks, write_to, lines_of, last_line}

-- The data byte's ninth clock has the master's line at d.
abbrev pub write_events : ℕ → ℕ → ℕ → Bool → List ℕ
write_events high low byte d = write_to high low ++ nine_clocks byte d

-- "Two address bytes .. the upper three bits ignored."
abbrev pub address_of : ℕ → ℕ → ℕ
address_of high low = (high * 256 + low) % 8192

-- Stored at its address, all else in memory as it was, and the ninth line pulled low whatever the master does there; or the
-- address is protected, memory is as it was, and the ninth line is the master's. Either way the address has stepped on, "from
-- 1FFFh to 0000h" (02, number 3).
pub data Written (s : State) (m : List ℕ) (a byte : ℕ) (d : Bool) (r : Ended) : Type 0 where
  stored : is_protected memory_size (guard_of s.companion) a ≡ false
      → r.memory ≡ set m a byte → get_or r.memory a 0 ≡ byte → last_line (lines_of r.answers) ≡ false
      → r.state.address ≡ (a + 1) % 8192 → Written s m a byte d r
  refused : is_protected memory_size (guard_of s.companion) a ≡ true
      → r.memory ≡ m → last_line (lines_of r.answers) ≡ d
      → r.state.address ≡ (a + 1) % 8192 → Written s m a byte d r

-- Of every state on main power, whatever its phase, every protection, address and byte.
abbrev pub WrittenOnTheWire : Type 0
WrittenOnTheWire =
    (s : State) (m : List ℕ) (high low byte : ℕ) (d : Bool)
    → s.power ≡ On → length m ≡ memory_size → high < 256 → low < 256 → byte < 256
    → Written s m (address_of high low) byte d (run_of s m (write_events high low byte d))
