-- SPDX-License-Identifier: Apache-2.0
-- Each of the sixteen registers written and read back over the wire, from every state on main power, whatever was under way, at any
-- size and any select bits (02, number 5; document 003, Register Map).
--   kept_list, kept_of   what each register keeps of a byte, by the register
--   write_one           a byte written: Start, slave byte, address, byte, Stop
--   ReadBack           the eight Clocks of a read after it send what was kept, high bit first
use Rattle.std.specs.Prelude.{ℕ, ◌-◌, ◌≤◌, ◌<◌, ◌≡◌, true, false, cond, List, [], ◌∷◌, ◌++◌, get_or}
use Rattle.bits.specs.Weight.{has}
use Rattle.wire.specs.HighFirst.{sent_bits}
use Rattle.wire.specs.Whole.{eight}
use Rattle.bus.specs.declared.Power.TheVariants.{On}
use Rattle.fm31_counters.specs.declared.Registers.{Registers}
use Rattle.fm31.specs.Run.{run_of}
use Rattle.fm31.specs.declared.State.{State}
use Rattle.wire_clocks.specs.Clocks.{clocks_of, nine_clocks, lines_of}
use Rattle.law_family.specs.Written.{flags_bits, watchdog_bits, control_bits, counting_bits}
use Rattle.law_family.specs.Named.{open_write, open_read}

-- 11h to 18h: "Read/write when SNL=0, read-only when SNL=1" (003). SNL is bit 80h of 0Bh.
abbrev pub serial_kept : Registers → ℕ → ℕ → ℕ
serial_kept r old b = cond (has r.control 0x80) old b

abbrev pub kept_list : Registers → ℕ → List ℕ
kept_list r b =
    flags_bits r.flags b ∷ watchdog_bits b ∷ control_bits r.control b ∷ counting_bits b
    ∷ b ∷ b ∷ b ∷ b
    ∷ serial_kept r r.serial.sn0 b ∷ serial_kept r r.serial.sn1 b ∷ serial_kept r r.serial.sn2 b
    ∷ serial_kept r r.serial.sn3 b ∷ serial_kept r r.serial.sn4 b ∷ serial_kept r r.serial.sn5 b
    ∷ serial_kept r r.serial.sn6 b ∷ serial_kept r r.serial.sn7 b ∷ []

abbrev pub kept_of : Registers → ℕ → ℕ → ℕ
kept_of r a b = get_or (kept_list r b) (a - 0x09) 0

abbrev pub write_one : ℕ → ℕ → ℕ → List ℕ
write_one select a b = open_write select a ++ (nine_clocks b true ++ (1 ∷ []))

-- RC, bit 3 of 0Ch, was 0: else 0Dh to 10h would be read as it found them.
abbrev pub ReadBack : Type 0
ReadBack =
    (size select : ℕ) (s : State) (m : List ℕ) (a b : ℕ) → s.bus.power ≡ On → select ≤ 3 → 0x09 ≤ a → a ≤ 0x18 → b < 256
    → has s.counters.registers.counting 0x08 ≡ false
    → let opened = run_of size select s m (write_one select a b ++ open_read select a) in
    lines_of (run_of size select opened.state opened.memory (clocks_of (eight true true true true true true true true))).answers
    ≡ sent_bits (kept_of s.counters.registers a b)
