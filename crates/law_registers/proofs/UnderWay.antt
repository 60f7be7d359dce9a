-- SPDX-License-Identifier: Apache-2.0
-- A read under way: at a numeral of clocks done the machine computes, and the byte is the phase's.
use Prim.Native.Nat.{ℕ, ◌+◌, ◌≤◌}
use mathlib.Core.Path.{◌≡◌, refl, sym, ap, subst, ◌∙◌}
use mathlib.Core.Bool.{Bool, true, ◌&&◌}
use mathlib.Core.List.{List, [], ◌∷◌}
use native.Mathlib.Omega.{arith}
use lib.ListN.{get_or}
use Rattle.bits.proofs.Cases.{Below, none, ◌then◌, below}
use Rattle.wire.specs.Bits.{place_at}
use Rattle.wire.specs.Clock.{sent_at}
use Rattle.wire.specs.HighFirst.{sent_bits}
use Rattle.wire.specs.Memory.{lent}
use Rattle.wire.specs.Machine.{clocked, lined}
use Rattle.wire.specs.declared.Side.{Side}
use Rattle.wire.specs.declared.Side.TheVariants.{Memory, Companion}
use Rattle.wire.specs.declared.Phase.TheVariants.{Read}
use Rattle.fm3130.specs.declared.State.{State}
use Rattle.fm3130_list.specs.Run.{run_of}
use Rattle.wire_clocks.specs.Clocks.{clock_event, clocks_of, lines_of}
use Rattle.law_transfers.proofs.Runs.{Leads, clocks_lead}
use Rattle.law_transfers.proofs.Written.{on_bus}
use Rattle.law_registers.specs.UnderWay.{SendsBit, SendsItsByte, SentApart, FixedApart}
use Rattle.law_registers.proofs.Clocking.{Desk, clock_leads, on_bus_lem}

module _ (a : ℕ) (m : List ℕ) (c : Desk) (b : ℕ) (d : Bool) where
  abbrev Sent : Side → ℕ → Type 0
  Sent side k = 1 ≤ k → SendsBit side (on_bus (Read side k b) a c) m k b d

  shown : (side : Side) (k : ℕ) {s : State} {m' : List ℕ}
      → Leads (on_bus (Read side k b) a c) m (clock_event d ∷ []) s m' ((d && get_or (sent_bits b) k true) ∷ [])
      → s.phase ≡ Read side (k + 1) b → SendsBit side (on_bus (Read side k b) a c) m k b d
  shown side k l p = record { line = l.lines; phase = ap (λ (s : State). s.phase) l.state ∙ p }

  of_memory : Below (Sent Memory) 8
  unfolding clocked sent_at place_at
  of_memory =
      none then (λ l. absurd (omega arith))
      then (λ l. shown Memory 1 (clock_leads (Read Memory 1 b) a m c d) refl)
      then (λ l. shown Memory 2 (clock_leads (Read Memory 2 b) a m c d) refl)
      then (λ l. shown Memory 3 (clock_leads (Read Memory 3 b) a m c d) refl)
      then (λ l. shown Memory 4 (clock_leads (Read Memory 4 b) a m c d) refl)
      then (λ l. shown Memory 5 (clock_leads (Read Memory 5 b) a m c d) refl)
      then (λ l. shown Memory 6 (clock_leads (Read Memory 6 b) a m c d) refl)
      then (λ l. shown Memory 7 (clock_leads (Read Memory 7 b) a m c d) refl)

  of_registers : Below (Sent Companion) 8
  unfolding clocked sent_at place_at
  of_registers =
      none then (λ l. absurd (omega arith))
      then (λ l. shown Companion 1 (clock_leads (Read Companion 1 b) a m c d) refl)
      then (λ l. shown Companion 2 (clock_leads (Read Companion 2 b) a m c d) refl)
      then (λ l. shown Companion 3 (clock_leads (Read Companion 3 b) a m c d) refl)
      then (λ l. shown Companion 4 (clock_leads (Read Companion 4 b) a m c d) refl)
      then (λ l. shown Companion 5 (clock_leads (Read Companion 5 b) a m c d) refl)
      then (λ l. shown Companion 6 (clock_leads (Read Companion 6 b) a m c d) refl)
      then (λ l. shown Companion 7 (clock_leads (Read Companion 7 b) a m c d) refl)

  of_side : (side : Side) → Below (Sent side) 8
  of_side Memory = of_memory
  of_side Companion = of_registers

pub sends_its_byte : SendsItsByte
sends_its_byte side s m k b d on e low high =
    subst (λ (z : State). SendsBit side z m k b d) (sym (on_bus_lem s on e))
    (below (Sent s.address m s.companion b d side) (of_side s.address m s.companion b d side) k (omega arith) low)

apart : (a : ℕ) (m m' : List ℕ) (c : Desk) (b : ℕ) (d₀ d₁ d₂ d₃ d₄ d₅ d₆ d₇ : Bool)
    → SentApart (on_bus (Read Memory 0 b) a c) m m' d₀ (d₁ ∷ d₂ ∷ d₃ ∷ d₄ ∷ d₅ ∷ d₆ ∷ d₇ ∷ [])
unfolding lined clocked sent_at place_at
apart a m m' c b d₀ d₁ d₂ d₃ d₄ d₅ d₆ d₇ =
    let ds = d₁ ∷ d₂ ∷ d₃ ∷ d₄ ∷ d₅ ∷ d₆ ∷ d₇ ∷ [] in
    let first = clock_leads (Read Memory 0 b) a m c d₀ in
    let rest = clocks_lead (record { phase = Read Memory 1 (get_or m a 0); memory = lent m' a; companion = c }) ds in
    record {
      first = first.lines;
      rest = ap (λ (s : State). lines_of (run_of s m' (clocks_of ds)).answers) first.state ∙ rest.lines;
    }

pub fixed_apart : FixedApart
fixed_apart s m m' b d₀ d₁ d₂ d₃ d₄ d₅ d₆ d₇ on e =
    subst (λ (z : State). SentApart z m m' d₀ (d₁ ∷ d₂ ∷ d₃ ∷ d₄ ∷ d₅ ∷ d₆ ∷ d₇ ∷ [])) (sym (on_bus_lem s on e))
    (apart s.address m m' s.companion b d₀ d₁ d₂ d₃ d₄ d₅ d₆ d₇)
