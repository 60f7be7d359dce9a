-- SPDX-License-Identifier: Apache-2.0
-- What a data byte does to the register at the companion's address (document 003, Register Description).
--   flags_after, watchdog_after, control_after, counting_after   09h; 0Ah; 0Bh; 0Ch
--   kept_at, is_locked, registers_after                         what a register keeps of a byte; SNL; the registers
--   snapshot_after                                            the snapshot
--   written_of                                                a write at the address
use Rattle.std.specs.Prelude.{ℕ, ◌+◌, ◌-◌, ◌*◌, ◌/◌, ◌%◌, Bool, cond, ◌&&◌, ◌||◌, [], ◌∷◌, ◌==◌, nat_le, slice_index_or}
use Rattle.bits.specs.Weight.{has, only}
use Rattle.fm31_counters.specs.declared.Counts.{Counts}
use Rattle.fm31_counters.specs.declared.Registers.{Registers}
use Rattle.fm31_counters.specs.declared.Counters.{Counters}
use Rattle.fm31_counters.specs.Map.{FIRST, COUNTING, SERIAL, WTR, POR, LB, SNL, RC}
use Rattle.fm31_counters.specs.Registers.{put_at}

-- 003, WTR, POR, LB: "internally set, user can only clear this bit"; bit 4 is 0; WR3 to WR0 are kept (D139).
abbrev pub flags_after : ℕ → ℕ → ℕ
flags_after old b =
    only (has old WTR && has b WTR) WTR + only (has old POR && has b POR) POR + only (has old LB && has b LB) LB
    + b % 16

-- 003: "0Ah WDE - - WDT4 WDT3 WDT2 WDT1 WDT0", all "read/write".
abbrev pub watchdog_after : ℕ → ℕ
watchdog_after b = b / 128 * 128 + b % 32

-- 003: "the SNL bit cannot be cleared"; the other bits of 0Bh are "read/write" (its places by 003: D134).
abbrev pub control_after : ℕ → ℕ → ℕ
control_after old b = only (has old SNL || has b SNL) SNL + b % 32

-- 003: "0Ch - - - - RC CC C2P C1P".
abbrev pub counting_after : ℕ → ℕ
counting_after b = b % 16

-- What the register at an address keeps of a byte.
abbrev pub kept_at : Registers → ℕ → ℕ → ℕ
kept_at r a b =
    slice_index_or
    (flags_after r.flags b ∷ watchdog_after b ∷ control_after r.control b ∷ counting_after b
    ∷ b ∷ b ∷ b ∷ b
    ∷ b ∷ b ∷ b ∷ b ∷ b ∷ b ∷ b ∷ b ∷ [])
    (a - FIRST) 0

-- 003: "Setting to a 1 makes registers 11h to 18h and SNL permanently read-only".
abbrev pub is_locked : Registers → Bool
is_locked r = has r.control SNL

-- 02, number 5: "Once SNL is 1 .. writes there are acknowledged and not stored".
abbrev pub registers_after : Registers → ℕ → ℕ → Registers
registers_after r a b = cond (is_locked r && nat_le SERIAL a) r (put_at r a (kept_at r a b))

-- 003: "Setting this bit to 1 takes a snapshot of the four counter bytes", also while it is 1 (D138).
abbrev pub snapshot_after : Counters → ℕ → Counts
snapshot_after c b = cond (c.address == COUNTING && has b RC) c.registers.counts c.snapshot

-- All of a write at the address.
unfoldable pub written_of : Counters → ℕ → Counters
written_of c b =
    record {
      registers = registers_after c.registers c.address b;
      snapshot = snapshot_after c b;
      address = c.address;
    }
