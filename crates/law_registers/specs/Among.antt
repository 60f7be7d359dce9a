-- SPDX-License-Identifier: Apache-2.0
-- Ticks inside the transaction that sets the clock (01, Ticks, alarm, power: "02h to 08h take the core if R and W are 0"; "The core
-- runs on while W is 1 (ruling)"): one of 02h to 08h written, with ticks before each of the byte's nine clocks.
--   written_among    the nine Clocks, each after its ticks
--   StoredAmong     what is left: 02h to 08h as the byte alone leaves them, the core as the ticks alone leave it
--   SetAmongTicks   the statement
use Rattle.std.specs.Prelude.{ℕ, ◌+◌, ◌≤◌, ◌<◌, ◌≡◌, Bool, true, false, List, [], ◌∷◌, get_or}
use Rattle.bits.specs.Weight.{has}
use Rattle.wire.specs.Whole.{nine_bits}
use Rattle.wire.specs.declared.Side.TheVariants.{Companion}
use Rattle.wire.specs.declared.Phase.TheVariants.{Write}
use Rattle.bus.specs.declared.Power.TheVariants.{On}
use Rattle.fm3130_companion.specs.Registers.{register_bytes}
use Rattle.fm3130_companion.specs.declared.Companion as companion
use Rattle.fm3130.specs.declared.State.{State}
use Rattle.fm3130_list.specs.Run.{run_of}
use Rattle.wire_clocks.specs.Clocks.{clocks_of, lines_of, last_line}
use Rattle.law_registers.specs.Ticks.{total, spaced, after_ticks}
use Rattle.law_registers.specs.Written.{masked, mask_at, with_byte}

-- n k ticks before Clock k of the byte, at whose ninth clock the master's line is d.
abbrev pub nine_counts : (ℕ → ℕ) → List ℕ
nine_counts n = n 0 ∷ n 1 ∷ n 2 ∷ n 3 ∷ n 4 ∷ n 5 ∷ n 6 ∷ n 7 ∷ n 8 ∷ []

abbrev pub written_among : (ℕ → ℕ) → ℕ → Bool → List ℕ
written_among n b d = spaced 4 (nine_counts n) (clocks_of (nine_bits b d))

-- Auxiliary: the companion after it.
abbrev pub after_among : State → List ℕ → (ℕ → ℕ) → ℕ → Bool → companion.Companion
after_among s m n b d = (run_of s m (written_among n b d)).state.companion

pub record StoredAmong (s : State) (m : List ℕ) (n : ℕ → ℕ) (b : ℕ) (d : Bool) : Type 0 where
  pub time : (k : ℕ) → 2 ≤ k → k ≤ 8 → get_or (register_bytes (after_among s m n b d).registers) k 0
      ≡ get_or (with_byte s (masked (mask_at s.companion.address) b)) k 0
  pub core : (after_among s m n b d).core ≡ (after_ticks s m (total (nine_counts n))).core
  pub companion_address : (after_among s m n b d).address ≡ s.companion.address + 1
  pub acknowledged : last_line (lines_of (run_of s m (written_among n b d)).answers) ≡ false
  pub held : has (after_among s m n b d).registers.control 0x02 ≡ true

-- W is bit 02h of 00h.
abbrev pub SetAmongTicks : Type 0
SetAmongTicks =
    (s : State) (m : List ℕ) (n : ℕ → ℕ) (b : ℕ) (d : Bool) → s.power ≡ On → s.phase ≡ Write Companion 0 0 → b < 256
    → 2 ≤ s.companion.address → s.companion.address ≤ 8 → has s.companion.registers.control 0x02 ≡ true
    → StoredAmong s m n b d
