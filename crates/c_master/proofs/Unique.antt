-- SPDX-License-Identifier: Apache-2.0
-- No second outcome satisfies the contract of one of the master's entries: each says that what comes out is one definition
-- of what went in.
use Prim.Native.Nat.{ℕ}
use mathlib.Core.Path.{◌≡◌, sym, ◌∙◌}
use mathlib.Core.List.{List}
use Rattle.c_master.specs.Outcome.{Outcome, outcome_with}
use Rattle.c_master.specs.Outcome.{WriteEventsSettled, ReadEventsSettled, WriteToldSettled, ReadToldSettled}
use Rattle.c_master.specs.declared.Filled.{Filled}

-- number, count and buffer
same : {r r₂ : Filled} {e e₂ : List ℕ} {o : Outcome} → outcome_with r e ≡ o → outcome_with r₂ e₂ ≡ o → (r ≡ r₂) × (e ≡ e₂)
same p q = let z = p ∙ sym q in (λ k. record { number = (z k).number; count = (z k).count }, λ k. (z k).buffer)

pub write_events_unique : (a : ℕ) (bs e : List ℕ) (r r₂ : Filled) (e' e₂ : List ℕ)
    → WriteEventsSettled a bs e r e' → WriteEventsSettled a bs e r₂ e₂ → (r ≡ r₂) × (e' ≡ e₂)
write_events_unique a bs e r r₂ e' e₂ p q = same p q

pub read_events_unique : (a n : ℕ) (e : List ℕ) (r r₂ : Filled) (e' e₂ : List ℕ)
    → ReadEventsSettled a n e r e' → ReadEventsSettled a n e r₂ e₂ → (r ≡ r₂) × (e' ≡ e₂)
read_events_unique a n e r r₂ e' e₂ p q = same p q

pub write_told_unique : (n : ℕ) (answers e : List ℕ) (r r₂ : Filled) (e' e₂ : List ℕ)
    → WriteToldSettled n answers e r e' → WriteToldSettled n answers e r₂ e₂ → (r ≡ r₂) × (e' ≡ e₂)
write_told_unique n answers e r r₂ e' e₂ p q = same p q

pub read_told_unique : (n : ℕ) (answers e : List ℕ) (r r₂ : Filled) (e' e₂ : List ℕ)
    → ReadToldSettled n answers e r e' → ReadToldSettled n answers e r₂ e₂ → (r ≡ r₂) × (e' ≡ e₂)
read_told_unique n answers e r r₂ e' e₂ p q = same p q
