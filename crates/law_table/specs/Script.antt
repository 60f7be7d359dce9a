-- SPDX-License-Identifier: Apache-2.0
-- The events that a master sends, from the bytes that it means, and the states that the table's cases start from. Auxiliary
-- to Table.antt.
--   clocks_of, sent, memory_write   events               with_setup, running, alarmed   states
use Rattle.std.specs.Prelude.{ℕ, ◌+◌, ◌/◌, ◌%◌, List, [], ◌∷◌, ◌++◌}
use Rattle.wire.specs.declared.Phase.TheVariants.{Idle}
use Rattle.calendar.specs.declared.Calendar.{Calendar}
use Rattle.bus.specs.declared.Power.TheVariants.{On}
use Rattle.fm3130_companion.specs.Power.{lost_registers, lost_date}
use Rattle.fm3130_companion.specs.declared.Registers.{Registers}
use Rattle.fm3130.specs.declared.State.{State}

-- The eight clocks of a byte, high bit first.
abbrev pub clocks_of : ℕ → List ℕ
clocks_of b =
    (2 + b / 128 % 2) ∷ (2 + b / 64 % 2) ∷ (2 + b / 32 % 2) ∷ (2 + b / 16 % 2) ∷ (2 + b / 8 % 2) ∷ (2 + b / 4 % 2)
    ∷ (2 + b / 2 % 2) ∷ (2 + b % 2) ∷ []

-- A byte and its ninth clock, at which the master leaves the line high.
abbrev pub sent : ℕ → List ℕ
sent b = clocks_of b ++ (3 ∷ [])

-- Start, the slave byte of a memory write, and the two address bytes.
abbrev pub memory_write : ℕ → ℕ → List ℕ
memory_write high low = 0 ∷ (sent 0xA0 ++ (sent high ++ sent low))

-- Start, and the slave byte of a companion write.
abbrev pub companion_write : List ℕ
companion_write = 0 ∷ sent 0xD0

-- A device on main power between transfers, both addresses 0.
abbrev pub between : Registers → Calendar → State
between r c =
    record { power = On; phase = Idle; address = 0; companion = record { registers = r; core = c; address = 0 } }

-- The fresh device but for 0Eh, which has the protection bits.
abbrev pub with_setup : ℕ → State
with_setup setup =
    between
    (record {
      control = lost_registers.control;
      trim = lost_registers.trim;
      time = lost_registers.time;
      alarm = lost_registers.alarm;
      setup = setup;
    })
    lost_date

-- A device whose oscillator runs, with a calendar in its core and in 02h to 08h, and no flag set.
abbrev pub running : Calendar → State
running c = between (record { control = 0; trim = 0; time = c; alarm = lost_registers.alarm; setup = 0 }) c

-- The same with 00h as given and no alarm field selected: "with none selected, every second".
abbrev pub alarmed : ℕ → Calendar → State
alarmed control c =
    between
    (record {
      control = control;
      trim = 0;
      time = c;
      alarm = record { seconds = 0x80; minutes = 0x80; hours = 0x80; date = 0x80; month = 0x80 };
      setup = 0;
    })
    c
