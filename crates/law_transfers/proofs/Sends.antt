-- SPDX-License-Identifier: Apache-2.0
-- What a read sends: the machine's law of a byte that goes out, at the FM3130, on event and answer bytes.
use Prim.Native.Nat.{ℕ, ◌+◌, ◌%◌}
use mathlib.Core.Path.{◌≡◌, refl, sym, ap, subst, ◌∙◌}
use mathlib.Core.List.{List}
use lib.Dec.{eqb}
use Rattle.bits.proofs.Cases.{by_cond}
use Rattle.wire.specs.Memory.{lent}
use Rattle.wire.specs.Machine as Machine
use Rattle.wire.specs.Whole.{eight}
use Rattle.wire.specs.declared.Side.TheVariants.{Memory, Companion}
use Rattle.wire.specs.declared.Phase.TheVariants.{Read}
use Rattle.wire.proofs.Whole.{sends_memory, sends_companion}
use Rattle.bus.specs.declared.Power.TheVariants.{On}
use Rattle.fm3130_companion.specs.Part.{stepped_of, load_of, loaded_of}
use Rattle.fm3130.specs.Chip.{fm3130}
use Rattle.fm3130.specs.declared.State.{State}
use Rattle.law_transfers.specs.Sends.{SentFromMemory, MemorySends, register_now, SentFromRegisters, RegisterSends}
use Rattle.law_transfers.proofs.Runs.{live, clocks_lead}

-- a state on main power in a phase, as the machine has it
powered : (s : State) (m : List ℕ) {p : _} → s.power ≡ On → s.phase ≡ p
    → s ≡ live (record { phase = p; memory = lent m s.address; companion = s.companion })
powered s m on e =
    λ i. record { power = on i; phase = e i; address = s.address; companion = s.companion }

pub memory_sends : MemorySends
memory_sends s m b d₀ d₁ d₂ d₃ d₄ d₅ d₆ d₇ on e =
    let ds = eight d₀ d₁ d₂ d₃ d₄ d₅ d₆ d₇ in
    let u : Machine.State fm3130 =
    record { phase = Read Memory 0 b; memory = lent m s.address; companion = s.companion } in
    let w = sends_memory fm3130 (lent m s.address) s.companion b d₀ d₁ d₂ d₃ d₄ d₅ d₆ d₇ in
    let l = clocks_lead u ds in
    let r : SentFromMemory (live u) m ds =
    record {
      lines = l.lines ∙ w.lines;
      address = ap (λ (z : State). z.address) l.state ∙ ap (λ (z : Machine.State fm3130). z.memory.address) w.state;
      memory = l.memory ∙ ap (λ (z : Machine.State fm3130). z.memory.bytes) w.state;
      companion =
          ap (λ (z : State). z.companion) l.state ∙ ap (λ (z : Machine.State fm3130). z.companion) w.state;
    } in
    subst (λ (z : State). SentFromMemory z m ds) (sym (powered s m on e)) r

-- the end of a read steps the companion's address
loaded_steps : (c : fm3130.Desk) (b : ℕ) → (loaded_of c b).address ≡ (c.address + 1) % 15
unfolding loaded_of
loaded_steps c b =
    by_cond (λ (x : fm3130.Desk). (stepped_of x).address ≡ (c.address + 1) % 15) (eqb c.address 0) (λ h. refl) (λ h. refl)

pub register_sends : RegisterSends
unfolding load_of
register_sends s m b d₀ d₁ d₂ d₃ d₄ d₅ d₆ d₇ on e =
    let ds = eight d₀ d₁ d₂ d₃ d₄ d₅ d₆ d₇ in
    let c = s.companion in
    let u : Machine.State fm3130 = record { phase = Read Companion 0 b; memory = lent m s.address; companion = c } in
    let w = sends_companion fm3130 (lent m s.address) c b d₀ d₁ d₂ d₃ d₄ d₅ d₆ d₇ in
    let l = clocks_lead u ds in
    let k = ap (λ (z : State). z.companion) l.state ∙ ap (λ (z : Machine.State fm3130). z.companion) w.state in
    let r : SentFromRegisters (live u) m ds =
    record {
      lines = l.lines ∙ w.lines;
      companion_address = ap (λ (z : fm3130.Desk). z.address) k ∙ loaded_steps c (register_now s);
      companion = k;
      address = ap (λ (z : State). z.address) l.state ∙ ap (λ (z : Machine.State fm3130). z.memory.address) w.state;
      memory = l.memory ∙ ap (λ (z : Machine.State fm3130). z.memory.bytes) w.state;
    } in
    subst (λ (z : State). SentFromRegisters z m ds) (sym (powered s m on e)) r
