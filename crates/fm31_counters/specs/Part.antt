-- SPDX-License-Identifier: Apache-2.0
-- The companion as a device uses it: what a byte of a transfer does to it (01, Transfers; 02, number 5, for the
-- addresses), and, passed on from the other files, edges, the loss of power, and the limits.
--   Taken                     what taking a byte leaves
--   next_address, stepped_of   the address after one; the companion there
--   aim_of, store_of           an address byte; a data byte at its eighth clock
--   shown, load_of            the registers as a read shows them; the byte that a read sends
--   released, loaded_of       RC cleared; what the end of a read leaves
--   guard_of                  WP1 WP0, as a number
use Rattle.std.specs.Prelude.{ℕ, ◌+◌, ◌/◌, ◌%◌, true, false, cond, ◌==◌}
use Rattle.bits.specs.Weight.{has}
use Rattle.fm31_counters.specs.declared.Registers.{Registers}
use Rattle.fm31_counters.specs.declared.Counters.{Counters}
use Rattle.bus_deeds.specs.declared.serve.Taken as serve
use Rattle.fm31_counters.specs.Map.{FIRST, TOP, LAST, WP0, RC}
use Rattle.fm31_counters.specs.Registers.{register_at}
use Rattle.fm31_counters.specs.Change.{with_counts, with_registers, with_address}
use Rattle.fm31_counters.specs.Write.{written_of}
use Rattle.fm31_counters.specs.Limits.{is_register}
unfoldable pub use Rattle.fm31_counters.specs.Edge.{edge_of}
unfoldable pub use Rattle.fm31_counters.specs.Power.{backed_of, lost_of, returned_of, blank_of}
unfoldable pub use Rattle.fm31_counters.specs.Limits.{is_within}

-- Auxiliary: what taking a byte leaves.
abbrev pub Taken : Type 0
Taken = serve.Taken Counters

-- "Rolls from 18h to 09h (our ruling)."
abbrev pub next_address : ℕ → ℕ
next_address a = cond (a == LAST) FIRST (a + 1)

-- Auxiliary: the companion at that address.
abbrev pub stepped_of : Counters → Counters
stepped_of c = with_address c (next_address c.address)

-- "An address byte outside them is not acknowledged"; 01: the "old address stands".
unfoldable pub aim_of : Counters → ℕ → Taken
aim_of c b =
    cond (is_register b) (record { companion = with_address c b; acknowledged = true })
    (record { companion = c; acknowledged = false })

-- 01, Transfers: "A data byte is stored at its eighth clock, and then the address steps on".
unfoldable pub store_of : Counters → ℕ → Taken
store_of c b = record { companion = stepped_of (written_of c b); acknowledged = true }

-- 003: the snapshot allows "a stable value even if a count occurs during the read": while RC is 1, 0Dh to 10h show it.
abbrev pub shown : Counters → Registers
shown c = cond (has c.registers.counting RC) (with_counts c.registers c.snapshot) c.registers

-- 01, Transfers: "A read uses the current address".
unfoldable pub load_of : Counters → ℕ
load_of c = register_at (shown c) c.address

-- Auxiliary: 0Ch replaced.
abbrev pub with_counting : Registers → ℕ → Registers
with_counting r n =
    record {
      flags = r.flags;
      watchdog = r.watchdog;
      control = r.control;
      counting = n;
      counts = r.counts;
      serial = r.serial;
    }

-- Auxiliary: RC, bit 3 of 0Ch, cleared.
abbrev pub released : Counters → Counters
released c = with_registers c (with_counting c.registers (c.registers.counting % 8))

-- 003: "The RC bit will be automatically cleared": once the last of the four bytes, 10h, was read (D137). 01,
-- Transfers: "The byte is fixed at its first clock; the address steps on at the eighth".
unfoldable pub loaded_of : Counters → ℕ → Counters
loaded_of c b = stepped_of (cond (c.address == TOP) (released c) c)

-- 003: "WP0, WP1 in register 0Bh".
abbrev pub guard_of : Counters → ℕ
guard_of c = c.registers.control / WP0 % 4
