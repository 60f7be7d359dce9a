-- SPDX-License-Identifier: Apache-2.0
-- 02, number 6, in the words of the wire: "When a write of 00h would make W fall while 02h to 08h are not a valid calendar, do not
-- acknowledge it, leave 00h and the core alone, and end the transfer. This is tested at the eighth clock"; "The address steps on".
--   up_to_eighth    Start, D0h, the address 00h, and the eight clocks of the byte
--   Unheard       Clocks that nobody hears: every line is the master's, and nothing changes
--   NoBadDate     the statement
use Rattle.std.specs.Prelude.{ℕ, ◌<◌, ◌≡◌, Bool, true, false, List, ◌∷◌, ◌++◌}
use Rattle.bits.specs.Weight.{has}
use Rattle.wire.specs.declared.Phase.TheVariants.{Idle}
use Rattle.bus.specs.declared.Power.TheVariants.{On}
use Rattle.calendar.specs.Next.{is_valid}
use Rattle.fm3130.specs.declared.State.{State}
use Rattle.fm3130_list.specs.Run.{run_of}
use Rattle.wire_clocks.specs.Clocks.{clocks_of, eight_clocks, nine_clocks, lines_of}

abbrev pub up_to_eighth : ℕ → List ℕ
up_to_eighth b = 0 ∷ (nine_clocks 0xD0 true ++ (nine_clocks 0 true ++ eight_clocks b))

-- The ninth clock is the first of them: "do not acknowledge it".
pub record Unheard (s : State) (m : List ℕ) (ds : List Bool) : Type 0 where
  pub lines : lines_of (run_of s m (clocks_of ds)).answers ≡ ds
  pub state : (run_of s m (clocks_of ds)).state ≡ s
  pub memory : (run_of s m (clocks_of ds)).memory ≡ m

-- After the eighth clock: all fifteen registers and the core as they were, the companion's address 01h, no transfer.
pub record RefusedAtEighth (s : State) (m : List ℕ) (b : ℕ) : Type 0 where
  pub registers : (run_of s m (up_to_eighth b)).state.companion.registers ≡ s.companion.registers
  pub core : (run_of s m (up_to_eighth b)).state.companion.core ≡ s.companion.core
  pub companion_address : (run_of s m (up_to_eighth b)).state.companion.address ≡ 1
  pub address : (run_of s m (up_to_eighth b)).state.address ≡ s.address
  pub ended : (run_of s m (up_to_eighth b)).state.phase ≡ Idle
  pub memory : (run_of s m (up_to_eighth b)).memory ≡ m
  pub unheard : (ds : List Bool) → Unheard (run_of s m (up_to_eighth b)).state m ds

-- W is bit 02h of 00h: 1 in the register, 0 in the byte. Whatever was under way.
abbrev pub NoBadDate : Type 0
NoBadDate =
    (s : State) (m : List ℕ) (b : ℕ) → s.power ≡ On → b < 256
    → has s.companion.registers.control 0x02 ≡ true → has b 0x02 ≡ false
    → is_valid s.companion.registers.time ≡ false → RefusedAtEighth s m b
