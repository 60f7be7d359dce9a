-- SPDX-License-Identifier: Apache-2.0
-- Ticks after a read's eighth clock: before its ninth, and after it (01, Registers: "Reading 00h clears, at the eighth clock,
-- those of AF and CF that the byte sent showed as 1").
--   whole_read      the eight Clocks, ticks, the ninth Clock, ticks
--   LeavesTicks    the ninth clock and its ticks leave what those ticks alone would
--   FlagsLeft      AF and CF at the end of a read of 00h: those that were not shown, and those that rose later
use Rattle.std.specs.Prelude.{ℕ, ◌+◌, ◌≡◌, Bool, false, not, ◌&&◌, ◌||◌, List, ◌∷◌, ◌++◌}
use Rattle.bits.specs.Weight.{has}
use Rattle.wire.specs.declared.Side.TheVariants.{Companion}
use Rattle.bus.specs.declared.Power.TheVariants.{On}
use Rattle.fm3130.specs.declared.State.{State}
use Rattle.fm3130_list.specs.Run.{run_of}
use Rattle.wire_clocks.specs.Clocks.{clock_event}
use Rattle.law_registers.specs.Ticks.{ticks, total, after_ticks}
use Rattle.law_registers.specs.Fixed.{read_events, OfReads}

-- So many ticks before the ninth Clock, at which the master's line is d, and so many after it.
abbrev pub whole_read : List ℕ → List Bool → ℕ → Bool → ℕ → List ℕ
whole_read ns ds before d after = read_events ns ds ++ (ticks before ++ (clock_event d ∷ ticks after))

-- Auxiliary: the state that the eighth clock leaves.
abbrev pub at_eighth : State → List ℕ → List ℕ → List Bool → State
at_eighth s m ns ds = (run_of s m (read_events ns ds)).state

-- Of a register at any address.
abbrev pub TicksLeft : State → List ℕ → ℕ → List ℕ → List Bool → Type 0
TicksLeft s m first ns ds =
    (before after : ℕ) (d : Bool)
    → (run_of s m (whole_read ns ds before d after)).state.companion ≡ after_ticks (at_eighth s m ns ds) m (before + after)

abbrev pub LeavesTicks : Type 0
LeavesTicks = OfReads Companion TicksLeft

-- A state with the same oscillator, alarm and core, on main power, in which neither flag stands.
pub record Unflagged (s t : State) : Type 0 where
  pub power : t.power ≡ On
  pub trim : t.companion.registers.trim ≡ s.companion.registers.trim
  pub alarm : t.companion.registers.alarm ≡ s.companion.registers.alarm
  pub core : t.companion.core ≡ s.companion.core
  pub af : has t.companion.registers.control 0x40 ≡ false
  pub cf : has t.companion.registers.control 0x20 ≡ false

-- 00h in the byte sent, as the ticks up to the eighth clock alone leave it, as the later ticks alone leave it where neither flag
-- stood, and at the end.
pub record RoseUnshown (byte ticked later end : ℕ) : Type 0 where
  pub af : has end 0x40 ≡ ((has ticked 0x40 && not (has byte 0x40)) || has later 0x40)
  pub cf : has end 0x20 ≡ ((has ticked 0x20 && not (has byte 0x20)) || has later 0x20)

abbrev pub FlagsLeftAt : State → List ℕ → ℕ → List ℕ → List Bool → Type 0
FlagsLeftAt s m first ns ds =
    s.companion.address ≡ 0 → (before after : ℕ) (d : Bool) (t : State) → Unflagged (at_eighth s m ns ds) t
    → RoseUnshown (after_ticks s m first).registers.control (after_ticks s m (total ns)).registers.control
    (after_ticks t m (before + after)).registers.control
    (run_of s m (whole_read ns ds before d after)).state.companion.registers.control

abbrev pub FlagsLeft : Type 0
FlagsLeft = OfReads Companion FlagsLeftAt
