-- SPDX-License-Identifier: Apache-2.0
-- The fifteen registers as bytes by address (01, Registers). The list of bytes is also the first 15 bytes of a state's
-- image.
--   register_bytes, registers_of   the registers as a list, and back
--   register_at, put_at            the byte at an address; the registers with another byte there
use Rattle.std.specs.Prelude.{ℕ, List, [], ◌∷◌, get_or, set}
use Rattle.fm3130_companion.specs.declared.Registers.{Registers}

-- 01, Entries and refusal numbers: "The image's first 15 bytes are registers 00h to 0Eh".
abbrev pub register_bytes : Registers → List ℕ
register_bytes r =
    r.control ∷ r.trim
    ∷ r.time.seconds ∷ r.time.minutes ∷ r.time.hours
    ∷ r.time.day ∷ r.time.date ∷ r.time.month ∷ r.time.year
    ∷ r.alarm.seconds ∷ r.alarm.minutes ∷ r.alarm.hours ∷ r.alarm.date ∷ r.alarm.month
    ∷ r.setup ∷ []

-- Auxiliary: the registers of such a list.
abbrev pub registers_of : List ℕ → Registers
registers_of l =
    record {
      control = get_or l 0 0;
      trim = get_or l 1 0;
      time =
          record {
            seconds = get_or l 2 0;
            minutes = get_or l 3 0;
            hours = get_or l 4 0;
            day = get_or l 5 0;
            date = get_or l 6 0;
            month = get_or l 7 0;
            year = get_or l 8 0;
          };
      alarm =
          record {
            seconds = get_or l 9 0;
            minutes = get_or l 10 0;
            hours = get_or l 11 0;
            date = get_or l 12 0;
            month = get_or l 13 0;
          };
      setup = get_or l 14 0;
    }

-- Auxiliary: the byte at the address a.
abbrev pub register_at : Registers → ℕ → ℕ
register_at r a = get_or (register_bytes r) a 0

-- Auxiliary: the registers with the byte b at the address a.
abbrev pub put_at : Registers → ℕ → ℕ → Registers
put_at r a b = registers_of (set (register_bytes r) a b)
