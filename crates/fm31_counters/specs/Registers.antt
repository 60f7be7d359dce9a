-- SPDX-License-Identifier: Apache-2.0
-- The sixteen registers as bytes by address (02, number 5: "the image begins with these 16 registers").
--   register_bytes, registers_of   the registers as a list, and back
--   register_at, put_at            the byte at an address; the registers with another byte there
use Rattle.std.specs.Prelude.{ℕ, ◌-◌, List, [], ◌∷◌, slice_index, slice_set}
use Rattle.fm31_counters.specs.declared.Registers.{Registers}
use Rattle.fm31_counters.specs.Map.{FIRST}

-- 003, Register Map: 09h, 0Ah, 0Bh, 0Ch; 0Dh to 10h, the counters, "low byte first (our ruling)"; 11h to 18h.
abbrev pub register_bytes : Registers → List ℕ
register_bytes r =
    r.flags ∷ r.watchdog ∷ r.control ∷ r.counting
    ∷ r.counts.one.low ∷ r.counts.one.high ∷ r.counts.two.low ∷ r.counts.two.high
    ∷ r.serial.sn0 ∷ r.serial.sn1 ∷ r.serial.sn2 ∷ r.serial.sn3
    ∷ r.serial.sn4 ∷ r.serial.sn5 ∷ r.serial.sn6 ∷ r.serial.sn7 ∷ []

-- Auxiliary: the registers of such a list.
abbrev pub registers_of : List ℕ → Registers
registers_of l =
    record {
      flags = slice_index l 0;
      watchdog = slice_index l 1;
      control = slice_index l 2;
      counting = slice_index l 3;
      counts =
          record {
            one = record { low = slice_index l 4; high = slice_index l 5 };
            two = record { low = slice_index l 6; high = slice_index l 7 };
          };
      serial =
          record {
            sn0 = slice_index l 8;
            sn1 = slice_index l 9;
            sn2 = slice_index l 10;
            sn3 = slice_index l 11;
            sn4 = slice_index l 12;
            sn5 = slice_index l 13;
            sn6 = slice_index l 14;
            sn7 = slice_index l 15;
          };
    }

-- Auxiliary: the byte at the address a.
abbrev pub register_at : Registers → ℕ → ℕ
register_at r a = slice_index (register_bytes r) (a - FIRST)

-- Auxiliary: the registers with the byte b at the address a.
abbrev pub put_at : Registers → ℕ → ℕ → Registers
put_at r a b = registers_of (slice_set (register_bytes r) (a - FIRST) b)
