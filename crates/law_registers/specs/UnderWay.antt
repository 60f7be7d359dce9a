-- SPDX-License-Identifier: Apache-2.0
-- A read under way (01, Transfers: "The byte is fixed at its first clock"): what the memory and the registers have become since
-- does not show.
--   SendsItsByte    a Clock of a read under way sends the next bit of the byte that was fixed, of either device
--   FixedApart      a byte from the memory whose first clock fell on other memory than the rest
use Rattle.std.specs.Prelude.{ℕ, ◌+◌, ◌≤◌, ◌≡◌, Bool, true, ◌&&◌, List, [], ◌∷◌, get_or, drop}
use Rattle.wire.specs.HighFirst.{sent_bits}
use Rattle.wire.specs.Whole.{lower}
use Rattle.wire.specs.declared.Side.{Side}
use Rattle.wire.specs.declared.Side.TheVariants.{Memory}
use Rattle.wire.specs.declared.Phase.TheVariants.{Read}
use Rattle.bus.specs.declared.Power.TheVariants.{On}
use Rattle.fm3130.specs.declared.State.{State}
use Rattle.fm3130_list.specs.Run.{run_of}
use Rattle.wire_clocks.specs.Clocks.{clock_event, clocks_of, lines_of}

-- The line is bit k of the byte, counted from the high one, low too where the master pulls it low; the byte stays.
pub record SendsBit (side : Side) (s : State) (m : List ℕ) (k b : ℕ) (d : Bool) : Type 0 where
  pub line : lines_of (run_of s m (clock_event d ∷ [])).answers ≡ (d && get_or (sent_bits b) k true) ∷ []
  pub phase : (run_of s m (clock_event d ∷ [])).state.phase ≡ Read side (k + 1) b

-- With one to seven clocks of the byte done.
abbrev pub SendsItsByte : Type 0
SendsItsByte =
    (side : Side) (s : State) (m : List ℕ) (k b : ℕ) (d : Bool) → s.power ≡ On → s.phase ≡ Read side k b → 1 ≤ k → k ≤ 7
    → SendsBit side s m k b d

-- A byte from the memory that was at this one at its first clock, the other seven clocks on other memory.
pub record SentApart (s : State) (m m' : List ℕ) (d₀ : Bool) (ds : List Bool) : Type 0 where
  pub first : lines_of (run_of s m (clock_event d₀ ∷ [])).answers ≡ lower (d₀ ∷ []) (sent_bits (get_or m s.address 0))
  pub rest : lines_of (run_of (run_of s m (clock_event d₀ ∷ [])).state m' (clocks_of ds)).answers
      ≡ lower ds (drop 1 (sent_bits (get_or m s.address 0)))

-- A host may lend other memory from call to call: what is sent is the byte that stood there at its first clock.
abbrev pub FixedApart : Type 0
FixedApart =
    (s : State) (m m' : List ℕ) (b : ℕ) (d₀ d₁ d₂ d₃ d₄ d₅ d₆ d₇ : Bool) → s.power ≡ On → s.phase ≡ Read Memory 0 b
    → SentApart s m m' d₀ (d₁ ∷ d₂ ∷ d₃ ∷ d₄ ∷ d₅ ∷ d₆ ∷ d₇ ∷ [])
