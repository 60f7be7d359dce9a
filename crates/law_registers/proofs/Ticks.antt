-- SPDX-License-Identifier: Apache-2.0
-- Ticks on main power change the companion alone, and the line of each is high; so ticks and a Clock, one after the other,
-- lead on from phase to phase.
use Prim.Native.Nat.{ℕ, zero, suc, ◌+◌}
use mathlib.Core.Path.{◌≡◌, refl, sym, ap, ◌∙◌}
use mathlib.Core.Bool.{Bool, true}
use mathlib.Core.List.{List, [], ◌∷◌, ◌++◌}
use native.Mathlib.Nat.{zero-add, suc-add}
use lib.ListN.{replicate}
use Rattle.bits.specs.Weight.{has}
use Rattle.bits.proofs.Cases.{by_cond}
use Rattle.wire.specs.declared.Phase.{Phase}
use Rattle.fm3130_registers.specs.Map.{OSCEN}
use Rattle.fm3130_companion.specs.Part.{tick_of, pin_of}
use Rattle.fm3130_companion.specs.declared.Companion.{Companion}
use Rattle.fm3130.specs.Event.{happening, event_on}
use Rattle.fm3130.specs.declared.State.{State}
use Rattle.fm3130_list.specs.Run.{run_of}
use Rattle.law_transfers.proofs.Runs.{Leads, leads_then, line_shown}
use Rattle.law_transfers.proofs.Written.{on_bus}
use Rattle.law_registers.specs.Ticks.{ticks, total, after_ticks}

-- so many ticks of the companion
abbrev pub ticked : ℕ → Companion → Companion
ticked zero c = c
ticked (suc n) c = ticked n (tick_of c)

abbrev pub ticked_all : List ℕ → Companion → Companion
ticked_all [] c = c
ticked_all (n ∷ ns) c = ticked_all ns (ticked n c)

pub ticked_add : (n k : ℕ) (c : Companion) → ticked k (ticked n c) ≡ ticked (n + k) c
ticked_add zero k c = ap (λ (x : ℕ). ticked x c) (sym (zero-add k))
ticked_add (suc n) k c = ticked_add n k (tick_of c) ∙ ap (λ (x : ℕ). ticked x c) (sym (suc-add n k))

pub ticked_all_lem : (ns : List ℕ) (c : Companion) → ticked_all ns c ≡ ticked (total ns) c
ticked_all_lem [] c = refl
ticked_all_lem (n ∷ ns) c = ticked_all_lem ns (ticked n c) ∙ ticked_add n (total ns) c

tick_address : (c : Companion) → (tick_of c).address ≡ c.address
unfolding tick_of
tick_address c = by_cond (λ (x : Companion). x.address ≡ c.address) (has c.registers.trim OSCEN) (λ h. refl) (λ h. refl)

pub ticked_address : (n : ℕ) (c : Companion) → (ticked n c).address ≡ c.address
ticked_address zero c = refl
ticked_address (suc n) c = ticked_address n (tick_of c) ∙ tick_address c

-- no event
pub stays : (s : State) (m : List ℕ) → Leads s m [] s m []
unfolding run_of
stays s m = record { state = refl; memory = refl; lines = refl }

module _ (p : Phase) (a : ℕ) (m : List ℕ) where
  tick_leads : (c : Companion) → Leads (on_bus p a c) m (4 ∷ []) (on_bus p a (tick_of c)) m (true ∷ [])
  unfolding run_of happening event_on
  tick_leads c =
      record { state = refl; memory = refl; lines = λ i. line_shown (pin_of (tick_of c)) true i ∷ [] }

  pub ticks_lead : (n : ℕ) (c : Companion) → Leads (on_bus p a c) m (ticks n) (on_bus p a (ticked n c)) m (replicate n true)
  unfolding run_of
  ticks_lead zero c = record { state = refl; memory = refl; lines = refl }
  ticks_lead (suc n) c = leads_then (tick_leads c) (ticks_lead n (tick_of c))

  -- ticks, then another event, then the rest
  pub paced : {s' s'' : State} {m' m'' ys : List ℕ} {ks : List Bool} {l : Bool} (n : ℕ) (e : ℕ) (c : Companion)
      → Leads (on_bus p a (ticked n c)) m (e ∷ []) s' m' (l ∷ []) → Leads s' m' ys s'' m'' ks
      → Leads (on_bus p a c) m (replicate n 4 ++ (e ∷ ys)) s'' m'' (replicate n true ++ (l ∷ ks))
  paced n e c one rest = leads_then (ticks_lead n c) (leads_then one rest)

-- the companion as ticks alone leave it
pub after_ticks_lem : (p : Phase) (a : ℕ) (c : Companion) (m : List ℕ) (n : ℕ) → after_ticks (on_bus p a c) m n ≡ ticked n c
after_ticks_lem p a c m n = ap (λ (s : State). s.companion) (ticks_lead p a m n c).state
