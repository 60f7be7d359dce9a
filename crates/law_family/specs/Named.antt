-- SPDX-License-Identifier: Apache-2.0
-- Slave bytes and address bytes (02, number 5 and number 12; 01, Transfers), at any size and any of the four select bits; and that
-- an answer is the line alone.
--   is_of, SlaveNamed              the four slave bytes of a device
--   AddressTaken, AddressRefused  an address byte in 09h to 18h, and any other
--   open_write, open_read           Start, slave byte, a register's address; and again Start, slave byte
--   Opened, OpensWrite, OpensRead what these leave, whatever was under way
--   AnswersLines                  "answer bits 1 to 3 are 0"
use Rattle.std.specs.Prelude.{ℕ, ◌+◌, ◌*◌, ◌≤◌, ◌<◌, ◌≡◌, Bool, true, false, cond, ◌&&◌, ◌||◌, List, ◌∷◌, ◌++◌, leb, eqb, get_or}
use Rattle.wire.specs.declared.Side.TheVariants.{Companion}
use Rattle.wire.specs.declared.Phase.{Phase}
use Rattle.wire.specs.declared.Phase.TheVariants.{Idle, Slave, Pointer, Write, Read}
use Rattle.bus.specs.declared.Power.TheVariants.{On}
use Rattle.fm31.specs.Run.{run_of}
use Rattle.fm31.specs.declared.State.{State}
use Rattle.wire_clocks.specs.Clocks.{nine_clocks, lines_of, last_line}
use Rattle.law_family.specs.Seen.{count_list, register_list}

-- 1010 0ssx the memory, 1101 0ssx the companion, where ss are the device's select bits ("slave byte bits 2 and 1").
abbrev pub is_of : ℕ → ℕ → Bool
is_of select b =
    eqb b (0xA0 + 2 * select)
    || (eqb b (0xA1 + 2 * select) || (eqb b (0xD0 + 2 * select) || eqb b (0xD1 + 2 * select)))

-- Auxiliary: the line at a byte's ninth clock, where the master's is d.
abbrev pub ninth_line : ℕ → ℕ → State → List ℕ → ℕ → Bool → Bool
ninth_line size select s m b d = last_line (lines_of (run_of size select s m (nine_clocks b d)).answers)

-- A slave byte is acknowledged exactly if it is one of the four; 01: "Any other (ruling) is not acknowledged".
abbrev pub SlaveNamed : Type 0
SlaveNamed =
    (size select : ℕ) (s : State) (m : List ℕ) (b : ℕ) (d : Bool) → s.bus.power ≡ On → s.bus.phase ≡ Slave 0 0
    → select ≤ 3 → b < 256 → ninth_line size select s m b d ≡ cond (is_of select b) false d

-- What an address byte leaves: this phase and this address, the registers and the snapshot as they were.
pub record Addressed (size select : ℕ) (s : State) (m : List ℕ) (b : ℕ) (d : Bool) (phase : Phase) (line : Bool) (pointer : ℕ)
    : Type 0 where
  pub acknowledge : ninth_line size select s m b d ≡ line
  pub then : (run_of size select s m (nine_clocks b d)).state.bus.phase ≡ phase
  pub companion_address : (run_of size select s m (nine_clocks b d)).state.counters.address ≡ pointer
  pub registers : register_list (run_of size select s m (nine_clocks b d)).state.counters.registers
      ≡ register_list s.counters.registers
  pub snapshot : count_list (run_of size select s m (nine_clocks b d)).state.counters.snapshot
      ≡ count_list s.counters.snapshot

-- What X says of the address byte of a companion write holds.
abbrev pub OfAddresses : (ℕ → ℕ → State → List ℕ → ℕ → Bool → Type 0) → Type 0
OfAddresses X =
    (size select : ℕ) (s : State) (m : List ℕ) (b : ℕ) (d : Bool) → s.bus.power ≡ On → s.bus.phase ≡ Pointer 0 0
    → b < 256 → X size select s m b d

abbrev pub TakenAt : ℕ → ℕ → State → List ℕ → ℕ → Bool → Type 0
TakenAt size select s m b d =
    (leb 0x09 b && leb b 0x18) ≡ true → Addressed size select s m b d (Write Companion 0 0) false b

abbrev pub AddressTaken : Type 0
AddressTaken = OfAddresses TakenAt

-- "An address byte outside them is not acknowledged"; 01: the "old address stands", and the transfer ends.
abbrev pub RefusedAt : ℕ → ℕ → State → List ℕ → ℕ → Bool → Type 0
RefusedAt size select s m b d =
    (leb 0x09 b && leb b 0x18) ≡ false → Addressed size select s m b d Idle d s.counters.address

abbrev pub AddressRefused : Type 0
AddressRefused = OfAddresses RefusedAt

-- Start, 1101 0ss0, a register's address; then again Start, 1101 0ss1.
abbrev pub open_write : ℕ → ℕ → List ℕ
open_write select a = 0 ∷ (nine_clocks (0xD0 + 2 * select) true ++ nine_clocks a true)

abbrev pub open_read : ℕ → ℕ → List ℕ
open_read select a = open_write select a ++ (0 ∷ nine_clocks (0xD1 + 2 * select) true)

-- On main power a transfer then stands so, at that register; all else is as it was.
pub record Opened (size select : ℕ) (s : State) (m es : List ℕ) (phase : Phase) (a : ℕ) : Type 0 where
  pub power : (run_of size select s m es).state.bus.power ≡ On
  pub then : (run_of size select s m es).state.bus.phase ≡ phase
  pub address : (run_of size select s m es).state.bus.address ≡ s.bus.address
  pub companion_address : (run_of size select s m es).state.counters.address ≡ a
  pub registers : register_list (run_of size select s m es).state.counters.registers ≡ register_list s.counters.registers
  pub snapshot : count_list (run_of size select s m es).state.counters.snapshot ≡ count_list s.counters.snapshot
  pub memory : (run_of size select s m es).memory ≡ m

abbrev pub OfOpenings : (ℕ → ℕ → List ℕ) → Phase → Type 0
OfOpenings opening phase =
    (size select : ℕ) (s : State) (m : List ℕ) (a : ℕ) → s.bus.power ≡ On → select ≤ 3 → 0x09 ≤ a → a ≤ 0x18
    → Opened size select s m (opening select a) phase a

abbrev pub OpensWrite : Type 0
OpensWrite = OfOpenings open_write (Write Companion 0 0)

abbrev pub OpensRead : Type 0
OpensRead = OfOpenings open_read (Read Companion 0 0)

-- "Answer bits 1 to 3 are 0"; and bits 4 to 7: of every list of bytes each answer is 0 or 1.
abbrev pub AnswersLines : Type 0
AnswersLines =
    (size select : ℕ) (s : State) (m es : List ℕ) (i : ℕ) → get_or (run_of size select s m es).answers i 0 ≤ 1
