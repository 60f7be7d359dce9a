-- SPDX-License-Identifier: Apache-2.0
-- Two facts under ∗, as two `requires` of one function make: shown at a call, and learned at entry.
--     says2    P is shown  ⊢  P ∗ (⌜φ⌝ ∗ ⌜ψ⌝) is shown, from φ and ψ
--     needs2   from P ∗ (⌜φ⌝ ∗ ⌜ψ⌝) as a hypothesis, φ and ψ are learned and P is left
use mathlib.Core.List.{List}
use seplogic.Ra.Ura.{Ura}
use base.Logic.{SProp, ent, sep, via, assoc∗, assoc'}
use types.Logic.{Logic}
use contract.Monad.{fact}
use types.Kit.{Item, Step, step, prop, ◌$◌}
use denote.Triple.Walked.{says, needs}

pub says2 : {M : Type 1} {𝓤 : Ura M} {𝓛 : Logic 𝓤} {K : Type 0} {Γ : List (Item 𝓤)} →
    K → {φ ψ : Type 0} {P : SProp 𝓤} → φ → ψ
    → Step K 𝓛 Γ (prop P) Γ (prop (sep 𝓤 P (sep 𝓤 (fact 𝓤 φ) (fact 𝓤 ψ))))
says2 {𝓤 = 𝓤} {𝓛 = 𝓛} {Γ = Γ} t {φ} {ψ} {P} x y = step (λ s. record {
  prf = via 𝓤 (sep 𝓤 (sep 𝓤 P (fact 𝓤
      φ)) (fact 𝓤 ψ)) (says t y $ says t x $ s).prf (assoc∗ 𝓤 P (fact 𝓤 φ) (fact 𝓤 ψ));
})

pub needs2 : {M : Type 1} (𝓤 : Ura M) (φ ψ : Type 0) (P : SProp 𝓤) {Q : SProp 𝓤} → (φ → ψ → ent 𝓤 P Q) → ent 𝓤 (sep
    𝓤 P (sep 𝓤 (fact 𝓤 φ) (fact 𝓤 ψ))) Q
needs2 𝓤 φ ψ P h = via 𝓤 (sep 𝓤 (sep 𝓤 P (fact 𝓤 φ)) (fact 𝓤 ψ)) (assoc' 𝓤 P (fact 𝓤 φ) (fact 𝓤 ψ)) (needs 𝓤 ψ (sep
    𝓤 P (fact 𝓤 φ)) (λ y. needs 𝓤 φ P (λ x. h x y)))
