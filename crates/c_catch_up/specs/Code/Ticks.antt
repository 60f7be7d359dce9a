-- SPDX-License-Identifier: Apache-2.0
-- Many ticks of the companion (02, number 7: "One call for n ticks must leave registers, core, AF and CF exactly as n
-- single ticks would").
--   ticks_of       n ticks, one by one: what the call promises
--   rung_within    whether one of n ticks of a valid core brings it to the alarm
--   TellsRung     a test tells it, given where the core stands
--   left_of        what n ticks that count leave of 00h and of the core
--   caught_of      n ticks that count, n being at least 1, as one
use Rattle.std.specs.Prelude.{ℕ, zero, suc, Bool, false, ◌&&◌, ◌||◌, ◌≡◌, T}
use Rattle.calendar.specs.Next.{is_valid}
use Rattle.calendar.specs.After.{after}
use Rattle.calendar.specs.declared.Calendar.{Calendar}
use Rattle.fm3130_companion.specs.declared.Alarm.{Alarm}
use Rattle.fm3130_companion.specs.declared.Companion.{Companion}
use Rattle.fm3130_registers.specs.Control.{followed}
use Rattle.fm3130_companion.specs.Change.{with_time}
use Rattle.fm3130_registers.specs.Control.{told_of}
use Rattle.fm3130_companion.specs.Tick.{matches, tick_of}
use Rattle.calendar_days.specs.Code.Places.{moment_of}
use Rattle.calendar_days.specs.After.{after_of}
use Rattle.calendar_days.specs.declared.places.Moment.{Moment}
use Rattle.c_catch_up.specs.declared.ticks.Left.{Left}

-- 02, number 7: "as n single ticks would"
unfoldable pub ticks_of : ℕ → Companion → Companion
ticks_of zero c = c
ticks_of (suc n) c = tick_of (ticks_of n c)

-- Auxiliary: AF rises at any of n ticks whose advanced core the alarm matches, not at the last alone
unfoldable pub rung_within : ℕ → Alarm → Calendar → Bool
rung_within zero a c = false
rung_within (suc n) a c = rung_within n a c || matches a (after (suc n) c)

-- Auxiliary: 00h with the flags of n ticks, and the core after them
abbrev pub left_of : ℕ → ℕ → Alarm → Calendar → Left
left_of n k a c =
    record { control = told_of k (is_valid c && rung_within n a c) (after_of n c).century; core = after n c }

-- Auxiliary: r tells it of every valid calendar that stands at m
abbrev pub TellsRung : ℕ → Alarm → Moment → Bool → Type 0
TellsRung n a m r = (c : Calendar) → T (is_valid c) → m ≡ moment_of c → r ≡ rung_within n a c

-- Auxiliary: n ticks that count: the flags of all of them, and what the last leaves
unfoldable pub caught_of : ℕ → Companion → Companion
caught_of n c =
    record {
      registers =
          with_time c.registers
          (told_of c.registers.control (is_valid c.core && rung_within n c.registers.alarm c.core)
          (after_of n c.core).century)
          (followed c.registers.control (after n c.core) c.registers.time);
      core = after n c.core;
      address = c.address;
    }
