-- SPDX-License-Identifier: Apache-2.0
-- The clock read with R (01, Registers and Ticks): a transaction writes 00h with R rising; another reads 02h to 08h, with ticks before
-- any of its events and every clock of its seven bytes. What is read is a calendar that was, never parts of two.
--   among, shown_among     a byte's nine Clocks, each after its ticks; its lines
--   seven_bytes, seven_shown   seven bytes of one read
--   Untorn                the statement
use Rattle.std.specs.Prelude.{ℕ, ◌<◌, ◌≡◌, Bool, true, false, List, [], ◌∷◌, ◌++◌, replicate}
use Rattle.bits.specs.Weight.{has}
use Rattle.wire.specs.HighFirst.{sent_bits}
use Rattle.wire.specs.Whole.{eight}
use Rattle.bus.specs.declared.Power.TheVariants.{On}
use Rattle.calendar.specs.Next.{is_valid}
use Rattle.calendar.specs.declared.Calendar.{Calendar}
use Rattle.fm3130.specs.declared.State.{State}
use Rattle.fm3130_list.specs.Run.{run_of}
use Rattle.wire_clocks.specs.Clocks.{lines_of}
use Rattle.law_registers.specs.Ticks.{spaced}
use Rattle.law_registers.specs.ReadOut.{open_read}
use Rattle.law_registers.specs.Setting.{write_registers}
use Rattle.law_registers.specs.Later.{whole_read}

-- Auxiliary: how many ticks come before each of the first eight Clocks of a byte.
abbrev pub counts_in : (ℕ → ℕ) → List ℕ
counts_in n = n 0 ∷ n 1 ∷ n 2 ∷ n 3 ∷ n 4 ∷ n 5 ∷ n 6 ∷ n 7 ∷ []

-- n k ticks before Clock k of the byte; at its ninth clock the master's line is d, before it high.
abbrev pub among : (ℕ → ℕ) → Bool → List ℕ
among n d = whole_read (counts_in n) (eight true true true true true true true true) (n 8) d 0

-- The line is high at a tick; at a Clock it is the byte's bit, and at the ninth the master's.
abbrev pub shown_among : (ℕ → ℕ) → ℕ → Bool → List Bool
shown_among n byte d = spaced true (counts_in n) (sent_bits byte) ++ (replicate (n 8) true ++ (d ∷ []))

-- n j k ticks before Clock k of byte j. "The master's low ninth bit continues, high ends."
abbrev pub seven_bytes : (ℕ → ℕ → ℕ) → List ℕ
seven_bytes n =
    among (n 0) false ++ (among (n 1) false ++ (among (n 2) false ++ (among (n 3) false
    ++ (among (n 4) false ++ (among (n 5) false ++ among (n 6) true)))))

abbrev pub seven_shown : (ℕ → ℕ → ℕ) → Calendar → List Bool
seven_shown n t =
    shown_among (n 0) t.seconds false ++ (shown_among (n 1) t.minutes false ++ (shown_among (n 2) t.hours false
    ++ (shown_among (n 3) t.day false ++ (shown_among (n 4) t.date false
    ++ (shown_among (n 5) t.month false ++ shown_among (n 6) t.year true)))))

-- R is bit 01h of 00h, W bit 02h. What is read is the core as the write of 00h left it, however many ticks come: ks has how many
-- before each event of the read's opening, n those inside its bytes. Unless that write makes W fall over no valid calendar (02, number 6).
abbrev pub Untorn : Type 0
Untorn =
    (s : State) (m : List ℕ) (up : ℕ) (ks : List ℕ) (n : ℕ → ℕ → ℕ)
    → s.power ≡ On → up < 256 → has s.companion.registers.control 0x01 ≡ false → has up 0x01 ≡ true
    → (has s.companion.registers.control 0x02 ≡ true → has up 0x02 ≡ false
    → is_valid s.companion.registers.time ≡ true)
    → lines_of (run_of (run_of s m (write_registers 0 (up ∷ []) ++ spaced 4 ks (open_read 2))).state m (seven_bytes n)).answers
    ≡ seven_shown n (run_of s m (write_registers 0 (up ∷ []))).state.companion.core
