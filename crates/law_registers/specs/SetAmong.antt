-- SPDX-License-Identifier: Apache-2.0
-- The clock set with any number of ticks before each event of the three transactions (01, Registers; 02, number 6).
--   set_events, closing    the three transactions, to the eighth clock of the last byte; what is left of the third
--   ClockSetAmong          the statement
use Rattle.std.specs.Prelude.{ℕ, ◌+◌, ◌<◌, ◌≡◌, Bool, true, false, List, [], ◌∷◌, ◌++◌}
use Rattle.bits.specs.Weight.{has}
use Rattle.bus.specs.declared.Power.TheVariants.{On}
use Rattle.calendar.specs.Next.{is_valid}
use Rattle.calendar.specs.declared.Calendar.{Calendar}
use Rattle.fm3130.specs.declared.State.{State}
use Rattle.fm3130_list.specs.Run.{run_of}
use Rattle.wire_clocks.specs.Clocks.{clock_event, eight_clocks, nine_clocks}
use Rattle.law_registers.specs.Ticks.{ticks, spaced, after_ticks}
use Rattle.law_registers.specs.Setting.{write_registers, calendar_bytes}

-- W rises with the byte `up`, and falls at the last of these events, the eighth clock of the byte `down`.
abbrev pub set_events : ℕ → Calendar → ℕ → List ℕ
set_events up t down =
    write_registers 0 (up ∷ []) ++ (write_registers 2 (calendar_bytes t)
    ++ (0 ∷ (nine_clocks 0xD0 true ++ (nine_clocks 0 true ++ eight_clocks down))))

-- Its ninth clock, where the master's line is d, and Stop, with ticks before and after them.
abbrev pub closing : ℕ → Bool → ℕ → ℕ → List ℕ
closing k d n j = ticks k ++ (clock_event d ∷ (ticks n ++ (1 ∷ ticks j)))

-- Core and registers are then that calendar, whatever they were, whatever transfer was under way; and go on from it by the ticks that
-- come later, and by nothing else.
pub record SetToAmong (s : State) (m es : List ℕ) (t : Calendar) : Type 0 where
  pub core : (run_of s m es).state.companion.core ≡ t
  pub shown : (run_of s m es).state.companion.registers.time ≡ t
  pub later : (k : ℕ) (d : Bool) (n j : ℕ)
      → (run_of s m (es ++ closing k d n j)).state.companion ≡ after_ticks (run_of s m es).state m (k + n + j)

-- W is bit 02h of 00h: 1 in the first byte, 0 in the last. `ns` has how many ticks come before each event.
abbrev pub ClockSetAmong : Type 0
ClockSetAmong =
    (s : State) (m : List ℕ) (up down : ℕ) (t : Calendar) (ns : List ℕ)
    → s.power ≡ On → up < 256 → down < 256 → has up 0x02 ≡ true → has down 0x02 ≡ false → is_valid t ≡ true
    → SetToAmong s m (spaced 4 ns (set_events up t down)) t
