-- SPDX-License-Identifier: Apache-2.0
-- 01, Ticks, alarm, power: what a tick that does not count leaves, and what one that counts does, on every state,
-- well-formed or not, with any memory.
--   Uncounted, UncountedUnchanged    a tick that does not count
--   Counted, EveryCounted            one that does: all but AF and CF, of which specs/Alarm.antt speaks
use Rattle.std.specs.Prelude.{ℕ, ◌/◌, ◌%◌, ◌≡◌, true, false, cond, ◌||◌, List, [], ◌∷◌}
use Rattle.calendar.specs.Next.{next_of}
use Rattle.fm3130.specs.declared.State.{State}
use Rattle.fm3130_list.specs.Run.{run_of}
use Rattle.law_alarm.specs.Second.{bit, counts, after}

-- "A tick that does not count changes nothing."
pub record Uncounted (s : State) (m : List ℕ) : Type 0 where
  pub state : (run_of s m (4 ∷ [])).state ≡ s
  pub memory : (run_of s m (4 ∷ [])).memory ≡ m

abbrev pub UncountedUnchanged : Type 0
UncountedUnchanged = (s : State) (m : List ℕ) → counts s ≡ false → Uncounted s m

-- A tick that counts. Of 00h, LB and POR to R stay, and W does not hold the core: "The core runs on while W is 1
-- (ruling)". "Then .. 02h to 08h take the core if R and W are 0", bits 0 and 1 of 00h. The rest stays.
pub record Counted (s : State) (m : List ℕ) : Type 0 where
  pub lb : (after s m).registers.control / 0x80 ≡ s.companion.registers.control / 0x80
  pub por_to_r : (after s m).registers.control % 0x20 ≡ s.companion.registers.control % 0x20
  pub core : (after s m).core ≡ (next_of s.companion.core).calendar
  pub time : (after s m).registers.time
      ≡ cond (bit 0x02 s.companion.registers.control || bit 0x01 s.companion.registers.control)
      s.companion.registers.time (after s m).core
  pub trim : (after s m).registers.trim ≡ s.companion.registers.trim
  pub alarm : (after s m).registers.alarm ≡ s.companion.registers.alarm
  pub setup : (after s m).registers.setup ≡ s.companion.registers.setup
  pub pointer : (after s m).address ≡ s.companion.address
  pub power : (run_of s m (4 ∷ [])).state.power ≡ s.power
  pub phase : (run_of s m (4 ∷ [])).state.phase ≡ s.phase
  pub address : (run_of s m (4 ∷ [])).state.address ≡ s.address
  pub memory : (run_of s m (4 ∷ [])).memory ≡ m

abbrev pub EveryCounted : Type 0
EveryCounted = (s : State) (m : List ℕ) → counts s ≡ true → Counted s m
