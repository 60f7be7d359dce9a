-- SPDX-License-Identifier: Apache-2.0
-- All that there is of a device and its memory after a list of events, as bytes; the laws beside this file say it in
-- numbers, so that they agree with no wrong definition.
--   register_list, calendar_list    00h to 0Eh, and the core's seven bytes, in the order of 01's map
--   Seen, seen                    all of a device after a list of events
--   bit                           a bit of a byte, by its weight
--   shown                         the answer byte of an event that is no Clock, by 00h and 0Eh
--   por_up                         00h with POR set
use Rattle.std.specs.Prelude.{ℕ, ◌+◌, ◌-◌, ◌*◌, ◌/◌, ◌%◌, Bool, cond, List, [], ◌∷◌, eqb}
use Rattle.wire.specs.declared.Phase.{Phase}
use Rattle.calendar.specs.declared.Calendar.{Calendar}
use Rattle.bus.specs.declared.Power.{Power}
use Rattle.fm3130_companion.specs.declared.Registers.{Registers}
use Rattle.fm3130_list.specs.Run.{Ended}

-- 01, Registers: "seconds, minutes, hours, day, date, month, year".
abbrev pub calendar_list : Calendar → List ℕ
calendar_list c = c.seconds ∷ c.minutes ∷ c.hours ∷ c.day ∷ c.date ∷ c.month ∷ c.year ∷ []

-- 01, Registers: 01h to 0Eh; the alarm is "seconds, minutes, hours, date, month".
abbrev pub from_trim : Registers → List ℕ
from_trim r =
    r.trim
    ∷ r.time.seconds ∷ r.time.minutes ∷ r.time.hours
    ∷ r.time.day ∷ r.time.date ∷ r.time.month ∷ r.time.year
    ∷ r.alarm.seconds ∷ r.alarm.minutes ∷ r.alarm.hours ∷ r.alarm.date ∷ r.alarm.month
    ∷ r.setup ∷ []

-- 01, The part we play: "15 registers 00h to 0Eh".
abbrev pub register_list : Registers → List ℕ
register_list r = r.control ∷ from_trim r

-- The supplies, where a transfer stands, the two addresses ("Each of the two devices has its own address"), the
-- registers, the calendar core, the memory, and the answers.
pub record Seen : Type 0 where
  pub power : Power
  pub phase : Phase
  pub address : ℕ
  pub pointer : ℕ
  pub registers : List ℕ
  pub core : List ℕ
  pub memory : List ℕ
  pub answers : List ℕ

abbrev pub seen : Ended → Seen
seen r =
    record {
      power = r.state.power;
      phase = r.state.phase;
      address = r.state.address;
      pointer = r.state.companion.address;
      registers = register_list r.state.companion.registers;
      core = calendar_list r.state.companion.core;
      memory = r.memory;
      answers = r.answers;
    }

-- Auxiliary: a bit of a byte, by its weight.
abbrev pub bit : ℕ → ℕ → Bool
bit weight byte = eqb (byte / weight % 2) 1

-- 01, Event bytes and answer bytes, where a supply is present: the line is 1; "CAL = 1 gives calibration; CAL = 0 and
-- AL/SW = 0 square wave; CAL = 0, AEN = 1, AL/SW = 1 alarm; CAL = 0, AEN = 0, AL/SW = 1 released (ruling)"; "Bit 3 is 1
-- exactly when the function is alarm and AF is 1".
abbrev pub shown : ℕ → ℕ → ℕ
shown control setup =
    cond (bit 0x04 control) 0x07
    (cond (bit 0x80 setup) (cond (bit 0x08 control) (cond (bit 0x40 control) 0x0B 0x03) 0x01) 0x05)

-- 01, Ticks, alarm, power: event 7 "after backup .. sets POR", bit 4 of 00h: 10h more where it was 0.
abbrev pub por_up : ℕ → ℕ
por_up control = control + 0x10 * (1 - control / 0x10 % 2)
