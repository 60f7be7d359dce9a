-- SPDX-License-Identifier: Apache-2.0
-- 01, Transfers: of a read, "The master's low ninth bit continues, high ends". On main power, with any memory; eight
-- clocks of the byte are done, and the address has stepped on.
--   clocks, lines          Clocks by the master's lines; bit 0 of each answer
--   HighEnds               a high ninth bit: the transfer is over, whatever Clocks follow
--   LowGoesOn              a low ninth bit: the next Clock begins the byte at the address
--   StepsOn                the eighth clock: the address steps on
use Rattle.std.specs.Prelude.{ℕ, ◌+◌, ◌/◌, ◌%◌, ◌≡◌, Bool, cond, List, [], ◌∷◌, map, get_or}
use Rattle.wire.specs.declared.Side.{Side}
use Rattle.wire.specs.declared.Side.TheVariants.{Memory, Companion}
use Rattle.wire.specs.declared.Phase.TheVariants.{Idle, Read}
use Rattle.fm3130_companion.specs.declared.Registers.{Registers}
use Rattle.fm3130_companion.specs.declared.Companion as chip
use Rattle.fm3130_list.specs.Run.{run_of}
use Rattle.law_phases.specs.Frames.{live}

-- "2 Clock with the master's data line low; 3 Clock with it high", one after the other.
abbrev pub clocks : List Bool → List ℕ
clocks ds = map (λ (d : Bool). cond d 3 2) ds

-- "Bit 0 is the line."
abbrev pub lines : List ℕ → List ℕ
lines answers = map (λ (n : ℕ). n % 2) answers

-- Auxiliary: a list of lines as bits.
abbrev pub bits : List Bool → List ℕ
bits ds = map (λ (d : Bool). cond d 1 0) ds

-- "High ends": no transfer is under way, and all else is as it was; and "A Clock .. after it has ended, changes nothing
-- and its line is the master's", whatever Clocks follow. Of a read of either device.
pub record OverAfterHigh (side : Side) (b a : ℕ) (c : chip.Companion) (m : List ℕ) (ds : List Bool) : Type 0 where
  pub state : (run_of (live (Read side 8 b) a c) m (3 ∷ clocks ds)).state ≡ live Idle a c
  pub memory : (run_of (live (Read side 8 b) a c) m (3 ∷ clocks ds)).memory ≡ m
  pub lines : lines (run_of (live (Read side 8 b) a c) m (3 ∷ clocks ds)).answers ≡ 1 ∷ bits ds

abbrev pub HighEnds : Type 0
HighEnds =
    (side : Side) (b a : ℕ) (c : chip.Companion) (m : List ℕ) (ds : List Bool) → OverAfterHigh side b a c m ds

-- 01, Registers: 00h to 0Eh in their order.
abbrev pub register_list : Registers → List ℕ
register_list r =
    r.control ∷ r.trim
    ∷ r.time.seconds ∷ r.time.minutes ∷ r.time.hours
    ∷ r.time.day ∷ r.time.date ∷ r.time.month ∷ r.time.year
    ∷ r.alarm.seconds ∷ r.alarm.minutes ∷ r.alarm.hours ∷ r.alarm.date ∷ r.alarm.month
    ∷ r.setup ∷ []

-- "Low .. continues": all is as it was, and the line of the Clock after the ninth, at which the master leaves it high, is
-- the high bit of the byte at the current address; from then on that byte is fixed.
pub record GoesOn (side : Side) (b a : ℕ) (c : chip.Companion) (m : List ℕ) (byte : ℕ) : Type 0 where
  pub state : (run_of (live (Read side 8 b) a c) m (2 ∷ 3 ∷ [])).state ≡ live (Read side 1 byte) a c
  pub memory : (run_of (live (Read side 8 b) a c) m (2 ∷ 3 ∷ [])).memory ≡ m
  pub lines : lines (run_of (live (Read side 8 b) a c) m (2 ∷ 3 ∷ [])).answers ≡ 0 ∷ byte / 128 % 2 ∷ []

pub record LowGoesOn : Type 0 where
  pub from_memory : (b a : ℕ) (c : chip.Companion) (m : List ℕ) → GoesOn Memory b a c m (get_or m a 0)
  pub from_registers : (b a : ℕ) (c : chip.Companion) (m : List ℕ)
      → GoesOn Companion b a c m (get_or (register_list c.registers) c.address 0)

-- "The address steps on at the eighth": the memory's from 1FFFh to 0000h, the companion's from 0Eh to 00h, each by
-- itself.
pub record StepsOn : Type 0 where
  pub from_memory : (b a : ℕ) (c : chip.Companion) (m : List ℕ) (d : Bool)
      → (run_of (live (Read Memory 7 b) a c) m (cond d 3 2 ∷ [])).state ≡ live (Read Memory 8 b) ((a + 1) % 8192) c
  pub from_registers : (b a : ℕ) (c : chip.Companion) (m : List ℕ) (d : Bool)
      → let r = (run_of (live (Read Companion 7 b) a c) m (cond d 3 2 ∷ [])).state in
      (r.phase ≡ Read Companion 8 b) × (r.address ≡ a) × (r.companion.address ≡ (c.address + 1) % 15)
