-- SPDX-License-Identifier: Apache-2.0
-- The eight clocks of a read, each after its ticks. The byte is in the phase from the first clock on, and ticks leave the
-- phase; so the clocks send that byte, and at the eighth the end of the read meets the companion that all the ticks made.
use Prim.Native.Nat.{ℕ, ◌+◌, ◌%◌}
use mathlib.Core.Path.{◌≡◌, refl, sym, ap, ◌∙◌}
use mathlib.Core.Bool.{Bool, true, not, ◌&&◌}
use mathlib.Core.List.{List, [], ◌∷◌}
use lib.Dec.{eqb}
use lib.ListN.{get_or}
use borrow.Author.Tests.{eq-eqb, ne_eqb}
use Rattle.bits.specs.Weight.{has}
use Rattle.bits.proofs.Cases.{by_cond}
use Rattle.wire.specs.Bits.{place_at}
use Rattle.wire.specs.HighFirst.{sent_bits}
use Rattle.wire.specs.Clock.{sent_at}
use Rattle.wire.specs.Memory.{lent}
use Rattle.wire.specs.Whole.{eight, lower}
use Rattle.wire.specs.Machine.{clocked, lined}
use Rattle.wire.specs.Machine as Machine
use Rattle.wire.specs.declared.Side.TheVariants.{Memory, Companion}
use Rattle.wire.specs.declared.Phase.TheVariants.{Read}
use Rattle.wire.specs.declared.Phase.{Phase}
use Rattle.bus.specs.declared.Power.TheVariants.{On}
use Rattle.fm3130_companion.specs.declared.Companion as companion
use Rattle.fm3130_registers.specs.Control.{flags_after}
use Rattle.fm3130_companion.specs.Registers.{register_at, register_bytes}
use Rattle.fm3130_companion.specs.Part.{control_read, stepped_of, load_of, loaded_of}
use Rattle.fm3130.specs.Chip.{fm3130}
use Rattle.fm3130.specs.declared.State.{State}
use Rattle.wire_clocks.specs.Clocks.{clock_event}
use Rattle.law_transfers.proofs.Runs.{Leads, clocks_lead}
use Rattle.law_transfers.proofs.Written.{on_bus}
use Rattle.law_registers.specs.Ticks.{total, spaced, after_ticks}
use Rattle.law_registers.specs.Fixed.{read_events, FlagsShownCleared}
use Rattle.law_registers.proofs.Ticks.{ticked, ticked_all, ticked_all_lem, ticked_address, stays, paced, after_ticks_lem}
use Rattle.law_registers.proofs.Flags.{flagged_af, flagged_cf, flagged_above, flagged_below}

abbrev pub Desk : Type 0
Desk = companion.Companion

-- a Clock, by the machine
abbrev after : Phase → ℕ → List ℕ → Desk → Bool → Machine.Out fm3130
after p a m c d = clocked fm3130 p (lent m a) c d

pub clock_leads : (p : Phase) (a : ℕ) (m : List ℕ) (c : Desk) (d : Bool)
    → Leads (on_bus p a c) m (clock_event d ∷ [])
    (on_bus (after p a m c d).state.phase (after p a m c d).state.memory.address (after p a m c d).state.companion)
    (after p a m c d).state.memory.bytes ((after p a m c d).line ∷ [])
unfolding lined
clock_leads p a m c d = clocks_lead (record { phase = p; memory = lent m a; companion = c }) (d ∷ [])

-- a state on main power in a phase
pub on_bus_lem : (s : State) {p : Phase} → s.power ≡ On → s.phase ≡ p → s ≡ on_bus p s.address s.companion
on_bus_lem s on e = λ i. record { power = on i; phase = e i; address = s.address; companion = s.companion }

-- what the end of a read leaves
module _ (c : Desk) (b : ℕ) where
  pub loaded_keeps : {A : Type 0} (f : Desk → A) → f (stepped_of (control_read c b)) ≡ f c → f (stepped_of c) ≡ f c
      → f (loaded_of c b) ≡ f c
  unfolding loaded_of
  loaded_keeps f x y = by_cond (λ (k : Desk). f (stepped_of k) ≡ f c) (eqb c.address 0) (λ h. x) (λ h. y)

  pub loaded_address : (loaded_of c b).address ≡ (c.address + 1) % 15
  unfolding loaded_of
  loaded_address =
      by_cond (λ (k : Desk). (stepped_of k).address ≡ (c.address + 1) % 15) (eqb c.address 0) (λ h. refl) (λ h. refl)

  pub loaded_control : c.address ≡ 0 → (loaded_of c b).registers.control ≡ flags_after c.registers.control b
  unfolding loaded_of
  loaded_control e = rw (eq-eqb c.address 0 e)

  pub loaded_other : (c.address ≡ 0 → ⊥) → (loaded_of c b).registers.control ≡ c.registers.control
  unfolding loaded_of
  loaded_other n = rw (ne_eqb c.address 0 n)

-- the flags, as the statement has them
pub cleared : (byte k : ℕ) → FlagsShownCleared byte k (flags_after k byte)
cleared byte k =
    let af = has k 0x40 && not (has byte 0x40) in
    let cf = has k 0x20 && not (has byte 0x20) in
    record { af = flagged_af k af cf; cf = flagged_cf k af cf; above = flagged_above k af cf; below = flagged_below k af cf }

-- a byte that goes out is the register as ticks alone left it
module _ (p : Phase) (a : ℕ) (m : List ℕ) (c : Desk) where
  pub sent_now : (n : ℕ) → load_of (ticked n c) ≡ get_or (register_bytes (after_ticks (on_bus p a c) m n).registers) c.address 0
  unfolding load_of
  sent_now n =
      ap (λ (x : ℕ). register_at (ticked n c).registers x) (ticked_address n c)
      ∙ ap (λ (k : Desk). get_or (register_bytes k.registers) c.address 0) (sym (after_ticks_lem p a c m n))

  -- all the ticks, by their counts and alone
  pub all_alone : (ns : List ℕ) → ticked_all ns c ≡ after_ticks (on_bus p a c) m (total ns)
  all_alone ns = ticked_all_lem ns c ∙ sym (after_ticks_lem p a c m (total ns))

  pub all_address : (ns : List ℕ) → (ticked_all ns c).address ≡ c.address
  all_address ns = ap (λ (k : Desk). k.address) (ticked_all_lem ns c) ∙ ticked_address (total ns) c

abbrev pub counts_of : (n₀ n₁ n₂ n₃ n₄ n₅ n₆ n₇ : ℕ) → List ℕ
counts_of n₀ n₁ n₂ n₃ n₄ n₅ n₆ n₇ = n₀ ∷ n₁ ∷ n₂ ∷ n₃ ∷ n₄ ∷ n₅ ∷ n₆ ∷ n₇ ∷ []

-- a byte's eight clocks, each after its ticks
module _ (a : ℕ) (m : List ℕ) (c : Desk) (b n₀ n₁ n₂ n₃ n₄ n₅ n₆ n₇ : ℕ) (d₀ d₁ d₂ d₃ d₄ d₅ d₆ d₇ : Bool) where
  abbrev counts : List ℕ
  counts = counts_of n₀ n₁ n₂ n₃ n₄ n₅ n₆ n₇

  abbrev lines : List Bool
  lines = eight d₀ d₁ d₂ d₃ d₄ d₅ d₆ d₇

  pub register_run : Leads (on_bus (Read Companion 0 b) a c) m (read_events counts lines)
      (on_bus (Read Companion 8 (load_of (ticked n₀ c))) a (loaded_of (ticked_all counts c) (load_of (ticked n₀ c)))) m
      (spaced true counts (lower lines (sent_bits (load_of (ticked n₀ c)))))
  unfolding clocked sent_at place_at
  register_run =
      let c₀ = ticked n₀ c in
      let x = load_of c₀ in
      let c₁ = ticked n₁ c₀ in
      let c₂ = ticked n₂ c₁ in
      let c₃ = ticked n₃ c₂ in
      let c₄ = ticked n₄ c₃ in
      let c₅ = ticked n₅ c₄ in
      let c₆ = ticked n₆ c₅ in
      let c₇ = ticked n₇ c₆ in
      let p : ℕ → Phase = λ k. Read Companion k x in
      paced (Read Companion 0 b) a m n₀ (clock_event d₀) c (clock_leads (Read Companion 0 b) a m c₀ d₀)
      (paced (p 1) a m n₁ (clock_event d₁) c₀ (clock_leads (p 1) a m c₁ d₁)
      (paced (p 2) a m n₂ (clock_event d₂) c₁ (clock_leads (p 2) a m c₂ d₂)
      (paced (p 3) a m n₃ (clock_event d₃) c₂ (clock_leads (p 3) a m c₃ d₃)
      (paced (p 4) a m n₄ (clock_event d₄) c₃ (clock_leads (p 4) a m c₄ d₄)
      (paced (p 5) a m n₅ (clock_event d₅) c₄ (clock_leads (p 5) a m c₅ d₅)
      (paced (p 6) a m n₆ (clock_event d₆) c₅ (clock_leads (p 6) a m c₆ d₆)
      (paced (p 7) a m n₇ (clock_event d₇) c₆ (clock_leads (p 7) a m c₇ d₇) (stays _ _))))))))

  pub memory_run : Leads (on_bus (Read Memory 0 b) a c) m (read_events counts lines)
      (on_bus (Read Memory 8 (get_or m a 0)) ((a + 1) % 8192) (ticked_all counts c)) m
      (spaced true counts (lower lines (sent_bits (get_or m a 0))))
  unfolding clocked sent_at place_at
  memory_run =
      let x = get_or m a 0 in
      let c₀ = ticked n₀ c in
      let c₁ = ticked n₁ c₀ in
      let c₂ = ticked n₂ c₁ in
      let c₃ = ticked n₃ c₂ in
      let c₄ = ticked n₄ c₃ in
      let c₅ = ticked n₅ c₄ in
      let c₆ = ticked n₆ c₅ in
      let c₇ = ticked n₇ c₆ in
      let p : ℕ → Phase = λ k. Read Memory k x in
      paced (Read Memory 0 b) a m n₀ (clock_event d₀) c (clock_leads (Read Memory 0 b) a m c₀ d₀)
      (paced (p 1) a m n₁ (clock_event d₁) c₀ (clock_leads (p 1) a m c₁ d₁)
      (paced (p 2) a m n₂ (clock_event d₂) c₁ (clock_leads (p 2) a m c₂ d₂)
      (paced (p 3) a m n₃ (clock_event d₃) c₂ (clock_leads (p 3) a m c₃ d₃)
      (paced (p 4) a m n₄ (clock_event d₄) c₃ (clock_leads (p 4) a m c₄ d₄)
      (paced (p 5) a m n₅ (clock_event d₅) c₄ (clock_leads (p 5) a m c₅ d₅)
      (paced (p 6) a m n₆ (clock_event d₆) c₅ (clock_leads (p 6) a m c₆ d₆)
      (paced (p 7) a m n₇ (clock_event d₇) c₆ (clock_leads (p 7) a m c₇ d₇) (stays _ _))))))))
