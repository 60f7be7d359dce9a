-- SPDX-License-Identifier: Apache-2.0
-- What the supplies' going and coming can leave of a state and a memory (01, Ticks, alarm, power), in numbers.
--   as_it_was, pored, dark      registers as they were; with POR set; none of them
--   shown_by, shown_pored       the answer byte by the registers; with POR set
--   Leave                     what a list of events leaves of every state with a supply
use Rattle.std.specs.Prelude.{ℕ, ◌≡◌, List, [], ◌∷◌}
use Rattle.wire.specs.declared.Phase.{Phase}
use Rattle.wire.specs.declared.Phase.TheVariants.{Idle}
use Rattle.bus.specs.declared.Power.{Power}
use Rattle.bus.specs.declared.Power.TheVariants.{On}
use Rattle.fm3130.specs.declared.State.{State}
use Rattle.fm3130_list.specs.Run.{run_of}
use Rattle.law_power.specs.Seen.{Seen, seen, register_list, from_trim, calendar_list, shown, por_up}

-- Auxiliary: registers, core and memory as they were; supplies, phase, addresses and answers as said.
abbrev pub as_it_was : State → List ℕ → Power → Phase → ℕ → ℕ → List ℕ → Seen
as_it_was s m power phase address pointer answers =
    record {
      power = power;
      phase = phase;
      address = address;
      pointer = pointer;
      registers = register_list s.companion.registers;
      core = calendar_list s.companion.core;
      memory = m;
      answers = answers;
    }

-- Event 7 "after backup .. sets POR": of the registers only that bit is another.
abbrev pub pored : State → List ℕ → Phase → ℕ → ℕ → List ℕ → Seen
pored s m phase address pointer answers =
    record {
      power = On;
      phase = phase;
      address = address;
      pointer = pointer;
      registers = por_up s.companion.registers.control ∷ from_trim s.companion.registers;
      core = calendar_list s.companion.core;
      memory = m;
      answers = answers;
    }

-- "Registers become all 0 but OSCEN, POR and LB, which are 1, and day, date and month, which are 1; the core holds the
-- same date": 00h is 90h, 01h is 80h, 05h to 07h are 01h.
abbrev pub dark : List ℕ → Power → List ℕ → Seen
dark m power answers =
    record {
      power = power;
      phase = Idle;
      address = 0;
      pointer = 0;
      registers = 0x90 ∷ 0x80 ∷ 0 ∷ 0 ∷ 0 ∷ 1 ∷ 1 ∷ 1 ∷ 0 ∷ 0 ∷ 0 ∷ 0 ∷ 0 ∷ 0 ∷ 0 ∷ [];
      core = 0 ∷ 0 ∷ 0 ∷ 1 ∷ 1 ∷ 1 ∷ 0 ∷ [];
      memory = m;
      answers = answers;
    }

-- Auxiliary: the answer byte to an event that is no Clock, by the registers as they stand in a state.
abbrev pub shown_by : State → ℕ
shown_by s = shown s.companion.registers.control s.companion.registers.setup

-- Auxiliary: the same, with POR set.
abbrev pub shown_pored : State → ℕ
shown_pored s = shown (por_up s.companion.registers.control) s.companion.registers.setup

-- Auxiliary: of every state with this supply, and every memory, a list of events leaves this.
abbrev pub Leave : Power → List ℕ → (State → List ℕ → Seen) → Type 0
Leave power es X = (s : State) (m : List ℕ) → s.power ≡ power → seen (run_of s m es) ≡ X s m
