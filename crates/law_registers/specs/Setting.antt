-- SPDX-License-Identifier: Apache-2.0
-- The clock set (01, Registers; 02, number 6): a transaction writes 00h with W at 1, another writes 02h to 08h, a third writes
-- 00h with W at 0; any number of ticks between them. With ticks before each event of all three: SetAmong.
--   write_registers   Start, slave byte D0h, an address, data bytes, Stop
--   calendar_bytes    02h to 08h in their order
--   setting_events    the three transactions, with ticks between
--   ClockSet          the statement
use Rattle.std.specs.Prelude.{ℕ, ◌<◌, ◌≡◌, true, false, List, [], ◌∷◌, ◌++◌}
use Rattle.bits.specs.Weight.{has}
use Rattle.bus.specs.declared.Power.TheVariants.{On}
use Rattle.calendar.specs.Next.{is_valid}
use Rattle.calendar.specs.declared.Calendar.{Calendar}
use Rattle.fm3130.specs.declared.State.{State}
use Rattle.fm3130_list.specs.Run.{run_of}
use Rattle.wire_clocks.specs.Clocks.{nine_clocks}
use Rattle.wire_clocks.specs.Events.{all_written}
use Rattle.law_registers.specs.Ticks.{ticks}

abbrev pub write_registers : ℕ → List ℕ → List ℕ
write_registers a bs = 0 ∷ (nine_clocks 0xD0 true ++ (nine_clocks a true ++ (all_written bs ++ (1 ∷ []))))

-- 01, Registers: "02h to 08h: seconds, minutes, hours, day, date, month, year".
abbrev pub calendar_bytes : Calendar → List ℕ
calendar_bytes t = t.seconds ∷ t.minutes ∷ t.hours ∷ t.day ∷ t.date ∷ t.month ∷ t.year ∷ []

-- n ticks after the first transaction, and k after the second.
abbrev pub setting_events : ℕ → ℕ → Calendar → ℕ → ℕ → List ℕ
setting_events up n t k down =
    write_registers 0 (up ∷ []) ++ (ticks n ++ (write_registers 2 (calendar_bytes t) ++ (ticks k ++ write_registers 0 (down ∷ []))))

-- Core and registers are then that calendar, whatever they were, whatever transfer was under way.
pub record SetTo (s : State) (m es : List ℕ) (t : Calendar) : Type 0 where
  pub core : (run_of s m es).state.companion.core ≡ t
  pub shown : (run_of s m es).state.companion.registers.time ≡ t

-- W is bit 02h of 00h: 1 in the first byte, 0 in the last.
abbrev pub ClockSet : Type 0
ClockSet =
    (s : State) (m : List ℕ) (up down n k : ℕ) (t : Calendar)
    → s.power ≡ On → up < 256 → down < 256 → has up 0x02 ≡ true → has down 0x02 ≡ false → is_valid t ≡ true
    → SetTo s m (setting_events up n t k down) t
