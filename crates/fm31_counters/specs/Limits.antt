-- SPDX-License-Identifier: Apache-2.0
-- The limits of the companion (02, number 5: "a companion address in 09h to 18h"; 01, Entries: "bits that the register
-- map fixes at 0 are 0").
--   is_register, registers_within, is_within   an address; the registers; the companion
use Rattle.std.specs.Prelude.{ℕ, ◌/◌, ◌%◌, Bool, ◌&&◌, ◌==◌, nat_le, nat_lt}
use Rattle.fm31_counters.specs.declared.Registers.{Registers}
use Rattle.fm31_counters.specs.declared.Counters.{Counters}
use Rattle.fm31_counters.specs.Map.{FIRST, LAST}

-- "Its registers are 09h to 18h."
abbrev pub is_register : ℕ → Bool
is_register a = nat_le FIRST a && nat_le a LAST

-- 003 has a dash at bit 4 of 09h, at bits 6 and 5 of 0Ah and of 0Bh, and at bits 7 to 4 of 0Ch.
unfoldable pub registers_within : Registers → Bool
registers_within r =
    (r.flags / 16 % 2 == 0) && nat_lt (r.watchdog % 128) 32 && nat_lt (r.control % 128) 32 && nat_lt r.counting 16

-- The snapshot has no limit: any four bytes.
unfoldable pub is_within : Counters → Bool
is_within c = is_register c.address && registers_within c.registers
