-- SPDX-License-Identifier: Apache-2.0
-- Whole bytes on the wire, over any part (01, Transfers: "Bits come high bit first; the ninth clock is the acknowledge").
--   nine_bits, eight           the bits of a byte with its acknowledge; any eight bits
--   Clocked, clocks_on         Clocks one after another, and the line of each
--   lower                     the line, low if the master or the device pulls it low
--   SendsMemory, SendsCompanion   what a byte that goes out shows: the statements
use Rattle.std.specs.Prelude.{ℕ, ◌≡◌, Bool, ◌&&◌, List, [], ◌∷◌, ◌++◌}
use Rattle.wire.specs.HighFirst.{sent_bits}
use Rattle.wire.specs.Machine.{Parts, clock, line, State, step}
use Rattle.wire.specs.declared.Side.TheVariants.{Memory, Companion}
use Rattle.wire.specs.declared.Phase.TheVariants.{Read}

-- The nine lines of a byte: its bits, and the line at its acknowledge.
abbrev pub nine_bits : ℕ → Bool → List Bool
nine_bits b d = sent_bits b ++ (d ∷ [])

-- Auxiliary: any eight bits.
abbrev pub eight : (d₀ d₁ d₂ d₃ d₄ d₅ d₆ d₇ : Bool) → List Bool
eight d₀ d₁ d₂ d₃ d₄ d₅ d₆ d₇ = d₀ ∷ d₁ ∷ d₂ ∷ d₃ ∷ d₄ ∷ d₅ ∷ d₆ ∷ d₇ ∷ []

-- 01, Event bytes: "For a Clock, low if the master or the device pulls it low"; here bit by bit.
abbrev pub lower : List Bool → List Bool → List Bool
lower [] xs = []
lower (d ∷ ds) [] = []
lower (d ∷ ds) (x ∷ xs) = (d && x) ∷ lower ds xs

module _ (P : Parts) where
  -- What Clocks leave, and the line of each.
  pub record Clocked : Type 0 where
    pub state : State P
    pub lines : List Bool

  -- Clocks one after another, with the master's line at each.
  abbrev pub clocks_on : State P → List Bool → Clocked
  clocks_on s [] = record { state = s; lines = [] }
  clocks_on s (d ∷ ds) =
      let o = step P s (line (clock d)) in
      record { state = (clocks_on o.state ds).state; lines = o.line ∷ (clocks_on o.state ds).lines }

  -- Eight Clocks show the bits of the byte b, high bit first, where the master leaves the line high; and lead to a state.
  pub record Shows (s : State P) (ds : List Bool) (b : ℕ) (s' : State P) : Type 0 where
    pub lines : (clocks_on s ds).lines ≡ lower ds (sent_bits b)
    pub state : (clocks_on s ds).state ≡ s'

  -- "A read uses the current address. The byte is fixed at its first clock; the address steps on at the eighth."
  abbrev pub SendsMemory : Type 0
  SendsMemory =
      (m : P.Cells) (c : P.Desk) (b : ℕ) (d₀ d₁ d₂ d₃ d₄ d₅ d₆ d₇ : Bool)
      → Shows (record { phase = Read Memory 0 b; memory = m; companion = c }) (eight d₀ d₁ d₂ d₃ d₄ d₅ d₆ d₇) (P.fetch m)
      (record { phase = Read Memory 8 (P.fetch m); memory = P.step_on m; companion = c })

  -- The same of the companion: what a whole byte read does comes at the eighth clock.
  abbrev pub SendsCompanion : Type 0
  SendsCompanion =
      (m : P.Cells) (c : P.Desk) (b : ℕ) (d₀ d₁ d₂ d₃ d₄ d₅ d₆ d₇ : Bool)
      → Shows (record { phase = Read Companion 0 b; memory = m; companion = c }) (eight d₀ d₁ d₂ d₃ d₄ d₅ d₆ d₇) (P.load c)
      (record { phase = Read Companion 8 (P.load c); memory = m; companion = P.loaded c (P.load c) })
