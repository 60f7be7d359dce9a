-- SPDX-License-Identifier: Apache-2.0
-- What the supplies' going and coming can leave of a state and a memory (02, number 5; 01, Ticks, alarm, power), in numbers.
--   as_it_was, pored, dark   registers as they were; with POR set; those that a loss of both supplies leaves
--   Leave                  what a list of events leaves of every state with a supply, at any size and select bits
use Rattle.std.specs.Prelude.{ℕ, ◌+◌, ◌-◌, ◌*◌, ◌/◌, ◌%◌, ◌≡◌, List, [], ◌∷◌, ◌++◌}
use Rattle.wire.specs.declared.Phase.{Phase}
use Rattle.wire.specs.declared.Phase.TheVariants.{Idle}
use Rattle.bus.specs.declared.Power.{Power}
use Rattle.bus.specs.declared.Power.TheVariants.{On}
use Rattle.fm31_counters.specs.declared.Registers.{Registers}
use Rattle.fm31.specs.Run.{run_of}
use Rattle.fm31.specs.declared.State.{State}
use Rattle.law_family.specs.Seen.{Seen, seen, count_list, serial_list, register_list}

-- Auxiliary: registers, snapshot and memory as they were; supplies, phase, addresses and answers as said.
abbrev pub as_it_was : State → List ℕ → Power → Phase → ℕ → ℕ → List ℕ → Seen
as_it_was s m power phase address pointer answers =
    record {
      power = power;
      phase = phase;
      address = address;
      pointer = pointer;
      registers = register_list s.counters.registers;
      snapshot = count_list s.counters.snapshot;
      memory = m;
      answers = answers;
    }

-- 003: "the POR bit will be set to 1", bit 6 of 09h: 40h more where it was 0.
abbrev pub por_up : ℕ → ℕ
por_up flags = flags + 0x40 * (1 - flags / 0x40 % 2)

-- Auxiliary: 0Ah to 18h.
abbrev pub from_watchdog : Registers → List ℕ
from_watchdog r = r.watchdog ∷ r.control ∷ r.counting ∷ (count_list r.counts ++ serial_list r)

-- Event 7 "after backup .. sets POR" (01): of the registers only that bit is another.
abbrev pub pored : State → List ℕ → Phase → ℕ → ℕ → List ℕ → Seen
pored s m phase address pointer answers =
    record {
      power = On;
      phase = phase;
      address = address;
      pointer = pointer;
      registers = por_up s.counters.registers.flags ∷ from_watchdog s.counters.registers;
      snapshot = count_list s.counters.snapshot;
      memory = m;
      answers = answers;
    }

-- "That loss clears 0Ch to 10h and leaves 09h with POR and LB alone (our ruling)": 09h is 60h. 0Ah, 0Bh and 11h to 18h stay:
-- "Nonvolatile" (003). "The companion address starts at 09h, also after power loss."
abbrev pub dark : State → List ℕ → Power → List ℕ → Seen
dark s m power answers =
    record {
      power = power;
      phase = Idle;
      address = 0;
      pointer = 0x09;
      registers =
          0x60 ∷ s.counters.registers.watchdog ∷ s.counters.registers.control
          ∷ 0 ∷ 0 ∷ 0 ∷ 0 ∷ 0 ∷ serial_list s.counters.registers;
      snapshot = 0 ∷ 0 ∷ 0 ∷ 0 ∷ [];
      memory = m;
      answers = answers;
    }

-- Auxiliary: of every state with this supply, and every memory, a list of events leaves this.
abbrev pub Leave : Power → List ℕ → (State → List ℕ → Seen) → Type 0
Leave power es X =
    (size select : ℕ) (s : State) (m : List ℕ) → s.bus.power ≡ power → seen (run_of size select s m es) ≡ X s m
