-- SPDX-License-Identifier: Apache-2.0
-- What each register from 01h on keeps of a byte (01, Registers).
--   top_and_below span b   bit 7 of a byte, and its bits below a span
--   stored_at a b         what the register at an address from 02h on keeps of a byte
--   trim_after            01h after a write
use Rattle.std.specs.Prelude.{ℕ, ◌+◌, ◌-◌, ◌*◌, ◌/◌, ◌%◌, cond, [], ◌∷◌, get_or}
use Rattle.bits.specs.Weight.{has}
use Rattle.fm3130_registers.specs.Map.{CAL}

-- Auxiliary: bit 7 of a byte, and its bits below the weight `span`; those between are 0.
abbrev pub top_and_below : ℕ → ℕ → ℕ
top_and_below span b = b / 128 * 128 + b % span

-- 01, Registers: "02h to 08h: .. Stored bits: 7Fh, 7Fh, 3Fh, 07h, 3Fh, 1Fh, FFh"; "09h to 0Dh: .. bit 7 is Match, the
-- rest as the calendar byte"; 01, Transfers (ruling): "All eight bits of 0Eh are stored". (A write of 00h or 01h has
-- rules of its own.)
abbrev pub stored_at : ℕ → ℕ → ℕ
stored_at a b =
    get_or
    (b % 128 ∷ b % 128 ∷ b % 64 ∷ b % 8 ∷ b % 64 ∷ b % 32 ∷ b
    ∷ top_and_below 128 b ∷ top_and_below 128 b ∷ top_and_below 64 b ∷ top_and_below 64 b ∷ top_and_below 32 b
    ∷ b ∷ [])
    (a - 2) 0

-- 01, Registers: "OSCEN, 0, CALS, five CAL bits. The last six are stored only if CAL was 1 before the write".
abbrev pub trim_after : ℕ → ℕ → ℕ → ℕ
trim_after control old b = b / 128 * 128 + cond (has control CAL) (b % 64) (old % 64)
