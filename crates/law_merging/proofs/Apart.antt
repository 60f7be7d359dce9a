-- SPDX-License-Identifier: Apache-2.0
-- The two devices of a part keep apart: one simulation, over a merge of any length. A device's run alone stands at the
-- merged run's phase while it is that device's turn, and is idle in all other turns; it is computed beside the merged
-- run, with the same state of that device and any state of the other.
use mathlib.Core.Path.{◌≡◌, refl, sym, subst, ◌∙◌}
use mathlib.Core.Bool.{Bool, true, false}
use mathlib.Core.List.{List}
use Rattle.wire.specs.Machine.{Parts, line, tick, State, Out, out, lined, masters_line}
use Rattle.wire.specs.declared.Side.TheVariants.{Memory, Companion}
use Rattle.wire.specs.declared.Phase.{Phase}
use Rattle.wire.specs.declared.Phase.TheVariants.{Idle}
use Rattle.law_merging.specs.Merge.{Reader, between, events_of, list_of, done, turn, bus, ticks}
use Rattle.law_merging.specs.Party.{Party, to, foreign, is_memory, is_companion, PartyEvent, Fair}
use Rattle.law_merging.specs.Apart.{Steady, KeptApart}
use Rattle.law_merging.proofs.Stands.{Stands, stands_next}
use Rattle.law_merging.proofs.Own.{with_desk, with_cells, memory_own, companion_own, foreign_own}
use Rattle.law_merging.proofs.Follows.{by_memory, by_companion, by_foreign}

-- the phase of a device's run alone, by whether it is its turn
abbrev alone : Bool → Phase → Phase
alone true p = p
alone false p = Idle

rests : (b : Bool) (p : Phase) → p ≡ Idle → alone b p ≡ Idle
rests true p h = h
rests false p h = refl

-- whose turn it is does not matter between transactions
rests_alike : (b c : Bool) (p : Phase) → p ≡ Idle → alone b p ≡ alone c p
rests_alike b c p h = rests b p h ∙ sym (rests c p h)

module _ (P : Parts) where
  abbrev state : Phase → P.Cells → P.Desk → State P
  state p m c = record { phase = p; memory = m; companion = c }

  simulated : {i : Party} {q : Reader} {l : List (PartyEvent P)} → Fair P i q l
      → (p : Phase) (m n : P.Cells) (c g : P.Desk) → Stands P i q p → P.guard c ≡ P.guard g
      → Steady P (state (alone (is_companion i) p) n c) (list_of is_companion l)
      → KeptApart P (state p m c) (state (alone (is_memory i) p) m g) (state (alone (is_companion i) p) n c) l
  simulated done p m n c g st v sy =
      record {
        memory = record { same = refl; answered = refl };
        companion = record { same = refl; answered = refl };
        quiet = refl;
      }
  simulated (turn {i = i} {j = j} {l = l} r) p m n c g st v sy =
      let a = rests_alike (is_memory j) (is_memory i) p st in
      let b = rests_alike (is_companion j) (is_companion i) p st in
      subst (λ (x : Phase). KeptApart P (state p m c) (state x m g) (state (alone (is_companion i) p) n c) l) a
      (subst (λ (x : Phase). KeptApart P (state p m c) (state (alone (is_memory j) p) m g) (state x n c) l) b
      (simulated r p m n c g st v (subst (λ (x : Phase). Steady P (state x n c) (list_of is_companion l)) (sym b) sy)))
  simulated (bus {i = to Memory} {q = q} {x = x} {l = l} w r) p m n c g st v sy =
      let o = lined P p m g x in
      by_memory P (state p m c) (state p m g) (state Idle n c) l (with_desk P c o) (line x)
      (memory_own P q p m c g x v w st) (with_desk P g o) (memory_own P q p m g g x refl w st) refl
      (simulated r o.state.phase o.state.memory n c g (stands_next P m g (to Memory) q p x w st) v sy)
  simulated (bus {i = to Companion} {q = q} {x = x} {l = l} w r) p m n c g st v sy =
      let o = lined P p n c x in
      let a : o ≡ with_cells P n o = companion_own P q p n n c x w st in
      let k = stands_next P n c (to Companion) q p x w st in
      by_companion P (state p m c) (state Idle m g) (state p n c) l (with_cells P m o) (line x)
      (companion_own P q p m n c x w st) (with_cells P n o) a refl
      (simulated r o.state.phase m n o.state.companion g k (sy.0 ∙ v)
      (subst (λ (z : Out P). Steady P z.state (list_of is_companion l)) a sy.1))
  simulated (bus {i = foreign} {q = q} {x = x} {l = l} w r) p m n c g st v sy =
      let p' = (lined P p m c x).state.phase in
      by_foreign P (state p m c) (state Idle m g) (state Idle n c) l (out P p' m c (masters_line x)) x
      (foreign_own P m c q p x w st) refl
      (simulated r p' m n c g (stands_next P m c foreign q p x w st) v sy)
  simulated (ticks {j = to Memory} h r) p m n c g st v sy = absurd h
  simulated (ticks {j = foreign} h r) p m n c g st v sy = absurd h
  simulated (ticks {i = i} {j = to Companion} {t = t} {l = l} h r) p m n c g st v sy =
      let p' = alone (is_companion i) p in
      by_companion P (state p m c) (state (alone (is_memory i) p) m g) (state p' n c) l (out P p m (P.ticked t c) true)
      (tick t) refl (out P p' n (P.ticked t c) true) refl refl
      (simulated r p m n (P.ticked t c) g st (sy.0 ∙ v) sy.1)

  -- where no event of the merged run changes the protection, none of the companion's list alone does: the companion sees
  -- nothing of the memory
  steady_beside : {i : Party} {q : Reader} {l : List (PartyEvent P)} → Fair P i q l
      → (p : Phase) (m n : P.Cells) (c : P.Desk) → Stands P i q p → Steady P (state p m c) (events_of l)
      → Steady P (state (alone (is_companion i) p) n c) (list_of is_companion l)
  steady_beside done p m n c st sy = tt
  steady_beside (turn {i = i} {j = j} {l = l} r) p m n c st sy =
      subst (λ (x : Phase). Steady P (state x n c) (list_of is_companion l)) (rests_alike (is_companion j) (is_companion i) p st)
      (steady_beside r p m n c st sy)
  steady_beside (bus {i = to Memory} {q = q} {x = x} {l = l} w r) p m n c st sy =
      let o = lined P p m c x in
      steady_beside r o.state.phase o.state.memory n c (stands_next P m c (to Memory) q p x w st)
      (subst (λ (z : Out P). Steady P z.state (events_of l)) (memory_own P q p m c c x refl w st) sy.1)
  steady_beside (bus {i = to Companion} {q = q} {x = x} {l = l} w r) p m n c st sy =
      let o = lined P p n c x in
      let a = companion_own P q p m n c x w st in
      let rest =
      steady_beside r o.state.phase m n o.state.companion (stands_next P n c (to Companion) q p x w st)
      (subst (λ (z : Out P). Steady P z.state (events_of l)) a sy.1) in (
        subst (λ (z : Out P). P.guard z.state.companion ≡ P.guard c) a sy.0,
        subst (λ (z : Out P). Steady P z.state (list_of is_companion l)) (sym (companion_own P q p n n c x w st)) rest,
      )
  steady_beside (bus {i = foreign} {q = q} {x = x} {l = l} w r) p m n c st sy =
      steady_beside r (lined P p m c x).state.phase m n c (stands_next P m c foreign q p x w st)
      (subst (λ (z : Out P). Steady P z.state (events_of l)) (foreign_own P m c q p x w st) sy.1)
  steady_beside (ticks {j = to Memory} h r) p m n c st sy = absurd h
  steady_beside (ticks {j = foreign} h r) p m n c st sy = absurd h
  steady_beside (ticks {j = to Companion} {t = t} h r) p m n c st sy =
      (sy.0, steady_beside r p m n (P.ticked t c) st sy.1)

  pub steady_alone : (i : Party) (s : State P) (l : List (PartyEvent P)) → s.phase ≡ Idle → Fair P i between l
      → Steady P s (events_of l) → Steady P s (list_of is_companion l)
  steady_alone i s l h w sy =
      subst (λ (x : Phase). Steady P (state x s.memory s.companion) (list_of is_companion l))
      (rests_alike (is_companion i) true s.phase h)
      (steady_beside w s.phase s.memory s.memory s.companion h sy)

  -- demand 3 of a part, with whatever else is on the bus
  pub apart : (i : Party) (s : State P) (l : List (PartyEvent P)) → s.phase ≡ Idle → Fair P i between l
      → Steady P s (list_of is_companion l) → KeptApart P s s s l
  apart i s l h w sy =
      let at : Phase → State P = λ p. state p s.memory s.companion in
      let a = rests_alike (is_memory i) true s.phase h in
      let b = rests_alike (is_companion i) true s.phase h in
      subst (λ (x : Phase). KeptApart P s (at x) s l) a
      (subst (λ (x : Phase). KeptApart P s (at (alone (is_memory i) s.phase)) (at x) l) b
      (simulated w s.phase s.memory s.memory s.companion s.companion h refl
      (subst (λ (x : Phase). Steady P (at x) (list_of is_companion l)) (sym b) sy)))
