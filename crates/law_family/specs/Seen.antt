-- SPDX-License-Identifier: Apache-2.0
-- All that there is of a device of the larger family and its memory after a list of events, as bytes; the laws beside this
-- file say it in numbers, so that they agree with no wrong definition.
--   count_list, register_list   a pair of counters as four bytes; 09h to 18h
--   Seen, seen                all of a device after a list of events
use Rattle.std.specs.Prelude.{ℕ, List, [], ◌∷◌, ◌++◌}
use Rattle.wire.specs.declared.Phase.{Phase}
use Rattle.bus.specs.declared.Power.{Power}
use Rattle.fm31_counters.specs.declared.Counts.{Counts}
use Rattle.fm31_counters.specs.declared.Registers.{Registers}
use Rattle.fm31.specs.Run.{Ended}

-- 003, Register Map: 0Dh and 0Eh are counter 1, 0Fh and 10h counter 2; "low byte first (our ruling)".
abbrev pub count_list : Counts → List ℕ
count_list n = n.one.low ∷ n.one.high ∷ n.two.low ∷ n.two.high ∷ []

-- 003, Register Map: 11h to 18h, the serial number.
abbrev pub serial_list : Registers → List ℕ
serial_list r =
    r.serial.sn0 ∷ r.serial.sn1 ∷ r.serial.sn2 ∷ r.serial.sn3
    ∷ r.serial.sn4 ∷ r.serial.sn5 ∷ r.serial.sn6 ∷ r.serial.sn7 ∷ []

-- 02, number 5: "Its registers are 09h to 18h as those documents show".
abbrev pub register_list : Registers → List ℕ
register_list r =
    r.flags ∷ r.watchdog ∷ r.control ∷ r.counting ∷ (count_list r.counts ++ serial_list r)

-- The supplies, where a transfer stands, the two addresses, the registers, the snapshot (0Dh to 10h as RC last found
-- them), the memory, and the answers.
pub record Seen : Type 0 where
  pub power : Power
  pub phase : Phase
  pub address : ℕ
  pub pointer : ℕ
  pub registers : List ℕ
  pub snapshot : List ℕ
  pub memory : List ℕ
  pub answers : List ℕ

abbrev pub seen : Ended → Seen
seen r =
    record {
      power = r.state.bus.power;
      phase = r.state.bus.phase;
      address = r.state.bus.address;
      pointer = r.state.counters.address;
      registers = register_list r.state.counters.registers;
      snapshot = count_list r.state.counters.snapshot;
      memory = r.memory;
      answers = r.answers;
    }
