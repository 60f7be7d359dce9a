-- SPDX-License-Identifier: Apache-2.0
-- Each of the fifteen registers written and read back over the wire, in one statement (01, Registers).
--   kept_at      what a register shows after a byte was written to it
--   ReadBack    the statement
use Rattle.std.specs.Prelude.{ℕ, ◌≤◌, ◌<◌, ◌≡◌, true, false, cond, not, ◌&&◌, List, [], ◌∷◌, ◌++◌, eqb, leb, get_or}
use Rattle.bits.specs.Weight.{has}
use Rattle.wire.specs.HighFirst.{sent_bits}
use Rattle.wire.specs.Whole.{eight}
use Rattle.bus.specs.declared.Power.TheVariants.{On}
use Rattle.calendar.specs.Next.{is_valid}
use Rattle.fm3130_companion.specs.Registers.{register_bytes}
use Rattle.fm3130_companion.specs.declared.Registers.{Registers}
use Rattle.fm3130.specs.declared.State.{State}
use Rattle.fm3130_list.specs.Run.{run_of}
use Rattle.wire_clocks.specs.Clocks.{clocks_of, lines_of}
use Rattle.law_registers.specs.Written.{masked, mask_at, control_bits, trim_bits}
use Rattle.law_registers.specs.ReadOut.{open_read}
use Rattle.law_registers.specs.Setting.{write_registers}

-- 00h: LB and POR cleared or left, never set, AF and CF left, the other four set. 01h: OSCEN, and the last six bits where CAL was
-- 1. 02h to 08h: where W, bit 02h of 00h, was 0 the old byte. Else the stored bits of the byte.
abbrev pub kept_at : Registers → ℕ → ℕ → ℕ
kept_at r a b =
    cond (eqb a 0) (control_bits r.control b)
    (cond (eqb a 1) (trim_bits r.control r.trim b)
    (cond (leb a 8 && not (has r.control 0x02)) (get_or (register_bytes r) a 0) (masked (mask_at a) b)))

-- Start, D0h, the address, the byte, Stop; Start, D0h, the address, Start, D1h: the eight Clocks after it. Whatever was under way;
-- unless the byte makes W fall over 02h to 08h that are not a valid calendar (02, number 6).
abbrev pub ReadBack : Type 0
ReadBack =
    (s : State) (m : List ℕ) (a b : ℕ) → s.power ≡ On → a ≤ 14 → b < 256
    → (a ≡ 0 → has s.companion.registers.control 0x02 ≡ true → has b 0x02 ≡ false
    → is_valid s.companion.registers.time ≡ true)
    → lines_of (run_of (run_of s m (write_registers a (b ∷ []) ++ open_read a)).state m
    (clocks_of (eight true true true true true true true true))).answers
    ≡ sent_bits (kept_at s.companion.registers a b)
