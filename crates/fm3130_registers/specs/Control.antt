-- SPDX-License-Identifier: Apache-2.0
-- Register 00h: what a write leaves of it, of the core and of 02h to 08h, and what a read clears (01, Registers); what a tick
-- and the return of main power set (01, Ticks, alarm, power).
--   flagged control af cf         00h with AF and CF as said
--   control_after, flags_after      00h after a write; after a read
--   w_falls, core_after             W falls in a write; the core after a write: where W falls
--   frozen, followed              02h to 08h where R rises; where R and W are 0
--   time_after                     02h to 08h after a write: the two in their order
--   told_of                        00h after a tick that counts: what the tick tells
--   por_set                        00h after main power returned from backup
use Rattle.std.specs.Prelude.{ℕ, ◌+◌, ◌*◌, ◌/◌, ◌%◌, Bool, cond, not, ◌&&◌, ◌||◌}
use Rattle.bits.specs.Weight.{has, only}
use Rattle.calendar.specs.declared.Calendar.{Calendar}
use Rattle.fm3130_registers.specs.Map.{LB, AF, CF, POR, W, R}

-- Auxiliary: 00h with AF and CF as said, the rest kept.
abbrev pub flagged : ℕ → Bool → Bool → ℕ
flagged control af cf = control / 128 * 128 + only af AF + only cf CF + control % 32

-- 01, Registers: "A write sets AEN, CAL, W, R; can clear LB and POR but not set them; leaves AF and CF".
abbrev pub control_after : ℕ → ℕ → ℕ
control_after old b =
    only (has old LB && has b LB) LB + old / 32 % 4 * 32 + only (has old POR && has b POR) POR + b % 16

-- 01, Registers: "Reading 00h clears, at the eighth clock, those of AF and CF that the byte sent showed as 1".
abbrev pub flags_after : ℕ → ℕ → ℕ
flags_after control b = flagged control (has control AF && not (has b AF)) (has control CF && not (has b CF))

-- 01, Registers: "W falls": it is 1, and the byte's bit is 0.
abbrev pub w_falls : ℕ → ℕ → Bool
w_falls old b = has old W && not (has b W)

-- 01, Registers (ruling): "if W falls, the core takes 02h to 08h".
abbrev pub core_after : ℕ → ℕ → Calendar → Calendar → Calendar
core_after old b core time = cond (w_falls old b) time core

-- 01, Registers (ruling): "then if R rises, 02h to 08h take the core".
abbrev pub frozen : ℕ → ℕ → Calendar → Calendar → Calendar
frozen old b core time = cond (has b R && not (has old R)) core time

-- 01, Registers (ruling): "then if both are 0, 02h to 08h take the core"; 01, Ticks, alarm, power: "02h to 08h take
-- the core if R and W are 0".
abbrev pub followed : ℕ → Calendar → Calendar → Calendar
followed control core time = cond (has control W || has control R) time core

-- 01, Registers (ruling): the order within a write of 00h, the core as it is after the write.
abbrev pub time_after : ℕ → ℕ → Calendar → Calendar → Calendar
time_after old b core time = followed b core (frozen old b core time)

-- 01, Ticks, alarm, power: "AF is set if .."; "AEN does not gate AF (ruling)"; "Year 99 to 00 sets CF".
abbrev pub told_of : ℕ → Bool → Bool → ℕ
told_of control rung century = flagged control (has control AF || rung) (has control CF || century)

-- 01, Ticks, alarm, power: event 7 "after backup .. sets POR".
abbrev pub por_set : ℕ → ℕ
por_set control = control / 32 * 32 + POR + control % 16
