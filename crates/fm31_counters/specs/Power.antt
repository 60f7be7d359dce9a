-- SPDX-License-Identifier: Apache-2.0
-- The companion when power goes and comes (02, number 5; 01, Ticks, alarm, power).
--   no_counts, lost_registers     what both supplies' loss leaves of the counters and of the registers
--   backed_of, lost_of            main power lost with backup; both supplies gone
--   por_set, returned_of          09h, and the companion, when main power returns after backup
--   zeros, blank_of              registers that are all 0; the fresh companion
use Rattle.std.specs.Prelude.{ℕ, ◌+◌, ◌*◌, ◌/◌, ◌%◌}
use Rattle.fm31_counters.specs.declared.Counts.{Counts}
use Rattle.fm31_counters.specs.declared.Registers.{Registers}
use Rattle.fm31_counters.specs.declared.Counters.{Counters}
use Rattle.fm31_counters.specs.Map.{FIRST, POR, LB}
use Rattle.fm31_counters.specs.Change.{with_registers, with_address}

-- Auxiliary: both counters at 0.
abbrev pub no_counts : Counts
no_counts = record { one = record { low = 0; high = 0 }; two = record { low = 0; high = 0 } }

-- "The companion address starts at 09h, also after power loss"; with backup the rest is kept.
abbrev pub backed_of : Counters → Counters
backed_of c = with_address c FIRST

-- "That loss clears 0Ch to 10h and leaves 09h with POR and LB alone (our ruling)"; 0Ah, 0Bh and 11h to 18h are
-- "nonvolatile" (003).
abbrev pub lost_registers : Registers → Registers
lost_registers r =
    record {
      flags = POR + LB;
      watchdog = r.watchdog;
      control = r.control;
      counting = 0;
      counts = no_counts;
      serial = r.serial;
    }

-- The snapshot goes with the counters.
unfoldable pub lost_of : Counters → Counters
lost_of c = record { registers = lost_registers c.registers; snapshot = no_counts; address = FIRST }

-- 003: "the POR bit will be set to 1"; 01: event 7 "after backup .. sets POR".
abbrev pub por_set : ℕ → ℕ
por_set flags = flags / 128 * 128 + POR + flags % 64

-- Auxiliary: 09h replaced.
abbrev pub with_flags : Registers → ℕ → Registers
with_flags r f =
    record {
      flags = f;
      watchdog = r.watchdog;
      control = r.control;
      counting = r.counting;
      counts = r.counts;
      serial = r.serial;
    }

-- The same of the companion.
unfoldable pub returned_of : Counters → Counters
returned_of c = with_registers c (with_flags c.registers (por_set c.registers.flags))

-- Auxiliary: registers that are all 0.
abbrev pub zeros : Registers
zeros =
    record {
      flags = 0;
      watchdog = 0;
      control = 0;
      counting = 0;
      counts = no_counts;
      serial = record { sn0 = 0; sn1 = 0; sn2 = 0; sn3 = 0; sn4 = 0; sn5 = 0; sn6 = 0; sn7 = 0 };
    }

-- "A fresh device has 0 elsewhere": 09h with POR and LB, all else 0.
unfoldable pub blank_of : Counters
unfolding lost_of
blank_of = lost_of (record { registers = zeros; snapshot = no_counts; address = FIRST })
