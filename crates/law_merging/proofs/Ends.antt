-- SPDX-License-Identifier: Apache-2.0
-- Whole transactions end between transfers, alone and merged: the reader's place says what the phase can be at every
-- event (`stands_next`), and at the end the readers are between transactions.
use mathlib.Core.Path.{◌≡◌, refl, subst}
use mathlib.Core.List.{List, [], ◌∷◌}
use Rattle.wire.specs.Machine.{Parts, line, tick, State, step}
use Rattle.wire.specs.declared.Side.TheVariants.{Memory, Companion}
use Rattle.wire.specs.declared.Phase.{Phase}
use Rattle.wire.specs.declared.Phase.TheVariants.{Idle}
use Rattle.law_merging.specs.Merge.{Reader, between, next, events_of}
use Rattle.law_merging.specs.Party.{Party, to, BusEvent, PartyEvent, WholeFrom, Whole}
use Rattle.law_merging.specs.Apart.{run}
use Rattle.law_merging.specs.Demand.{MergeFrom, done, one, two, inside, Merge}
use Rattle.law_merging.proofs.Stands.{Stands, stands_next}

module _ (P : Parts) where
  whole_ends : (i : Party) (q : Reader) (s : State P) (es : List (BusEvent P)) → WholeFrom P i q es
      → Stands P i q s.phase → (run P s es).phase ≡ Idle
  whole_ends i q s [] w st = subst (λ (z : Reader). Stands P i z s.phase) w st
  whole_ends i q s (line x ∷ es) w st =
      whole_ends i (next q x) (step P s (line x)).state es w.1
      (stands_next P s.memory s.companion i q s.phase x w.0 st)
  whole_ends i q s (tick t ∷ es) w st = whole_ends i q (step P s (tick t)).state es w.1 st

  pub whole_ends_idle : (i : Party) (s : State P) (es : List (BusEvent P)) → s.phase ≡ Idle → Whole P i es
      → (run P s es).phase ≡ Idle
  whole_ends_idle i s es h w = whole_ends i between s es w h

  -- of two lists, the phase goes by the reader that is not between transactions
  abbrev StandsBoth : Reader → Reader → Phase → Type 0
  StandsBoth q r p = (r ≡ between → Stands P (to Memory) q p) × (q ≡ between → Stands P (to Companion) r p)

  merge_ends : {q r : Reader} {xs ys : List (BusEvent P)} {l : List (PartyEvent P)} → MergeFrom P q r xs ys l
      → WholeFrom P (to Memory) q xs → WholeFrom P (to Companion) r ys → (s : State P) → StandsBoth q r s.phase
      → (run P s (events_of l)).phase ≡ Idle
  merge_ends done wx wy s st = st.0 refl
  merge_ends (one {q = q} {x = x} m) wx wy s st =
      let o = (step P s (line x)).state in
      let k : Stands P (to Memory) (next q x) o.phase =
      stands_next P s.memory s.companion (to Memory) q s.phase x wx.0 (st.0 refl) in
      merge_ends m wx.1 wy o (λ e. k, λ e. subst (λ (z : Reader). Stands P (to Memory) z o.phase) e k)
  merge_ends (two {r = r} {x = x} m) wx wy s st =
      let o = (step P s (line x)).state in
      let k : Stands P (to Companion) (next r x) o.phase =
      stands_next P s.memory s.companion (to Companion) r s.phase x wy.0 (st.1 refl) in
      merge_ends m wx wy.1 o (λ e. subst (λ (z : Reader). Stands P (to Companion) z o.phase) e k, λ e. k)
  merge_ends (inside {t = t} m) wx wy s st = merge_ends m wx wy.1 (step P s (tick t)).state st

  pub merge_ends_idle : (s : State P) (xs ys : List (BusEvent P)) (l : List (PartyEvent P)) → s.phase ≡ Idle
      → Whole P (to Memory) xs → Whole P (to Companion) ys → Merge P xs ys l → (run P s (events_of l)).phase ≡ Idle
  merge_ends_idle s xs ys l h wx wy m = merge_ends m wx wy s (λ e. h, λ e. h)
