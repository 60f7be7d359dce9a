-- SPDX-License-Identifier: Apache-2.0
-- Demand 3 in its own words, over any part. A merge of two lists of whole transactions is a merge in the sense of
-- `Merged`: whoever is between transactions hands the turn on (`merge_fair`); its two lists are those that were merged
-- (`first_list`, `second_list`); and `apart` says the rest.
use mathlib.Core.Path.{◌≡◌, refl, ap, subst}
use mathlib.Core.List.{List, ◌∷◌}
use Rattle.wire.specs.Machine.{Parts, line, tick, State}
use Rattle.wire.specs.declared.Side.TheVariants.{Memory, Companion}
use Rattle.wire.specs.declared.Phase.TheVariants.{Idle}
use Rattle.law_merging.specs.Merge.{Reader, between, by, turn, bus, ticks, events_of, list_of}
use Rattle.law_merging.specs.Merge as Merge
use Rattle.law_merging.specs.Party.{Party, to, is_memory, is_companion, BusEvent, PartyEvent, Fair, WholeFrom, Whole}
use Rattle.law_merging.specs.Apart.{KeptApart}
use Rattle.law_merging.specs.Demand.{OnlyWrites, MergeFrom, done, one, two, inside, Merge, WritesSteady, Isolated, SteadyMerged}
use Rattle.law_merging.proofs.Apart.{steady_alone, apart}
use Rattle.law_merging.proofs.Steady.{steady_of_writes, writes_of_steady}

module _ (P : Parts) where
  handed : (i j : Party) (q : Reader) (l : List (PartyEvent P)) → Fair P i q l → q ≡ between → Fair P j between l
  handed i j q l f e = turn (subst (λ (z : Reader). Fair P i z l) e f)

  merge_fair : {q r : Reader} {xs ys : List (BusEvent P)} {l : List (PartyEvent P)} → MergeFrom P q r xs ys l
      → WholeFrom P (to Memory) q xs → WholeFrom P (to Companion) r ys
      → (r ≡ between → Fair P (to Memory) q l) × (q ≡ between → Fair P (to Companion) r l)
  merge_fair done wx wy = (λ e. Merge.done, λ e. Merge.done)
  merge_fair (one {q = q} {x = x} {l = l} m) wx wy =
      let l' = by (to Memory) (line x) ∷ l in
      let f : Fair P (to Memory) q l' = bus wx.0 ((merge_fair m wx.1 wy).0 refl) in
      (λ e. f, λ e. handed (to Memory) (to Companion) q l' f e)
  merge_fair (two {r = r} {x = x} {l = l} m) wx wy =
      let l' = by (to Companion) (line x) ∷ l in
      let f : Fair P (to Companion) r l' = bus wy.0 ((merge_fair m wx wy.1).1 refl) in
      (λ e. handed (to Companion) (to Memory) r l' f e, λ e. f)
  merge_fair (inside m) wx wy =
      let f = merge_fair m wx wy.1 in (λ e. ticks tt (f.0 e), λ e. ticks tt (f.1 e))

  pub first_list : {q r : Reader} {xs ys : List (BusEvent P)} {l : List (PartyEvent P)} → MergeFrom P q r xs ys l
      → list_of is_memory l ≡ xs
  first_list done = refl
  first_list (one {x = x} m) = ap (λ (z : List (BusEvent P)). line x ∷ z) (first_list m)
  first_list (two m) = first_list m
  first_list (inside m) = first_list m

  pub second_list : {q r : Reader} {xs ys : List (BusEvent P)} {l : List (PartyEvent P)} → MergeFrom P q r xs ys l
      → list_of is_companion l ≡ ys
  second_list done = refl
  second_list (one m) = second_list m
  second_list (two {x = x} m) = ap (λ (z : List (BusEvent P)). line x ∷ z) (second_list m)
  second_list (inside {t = t} m) = ap (λ (z : List (BusEvent P)). tick t ∷ z) (second_list m)

  pub isolation : OnlyWrites P → (s : State P) (xs ys : List (BusEvent P)) (l : List (PartyEvent P)) → s.phase ≡ Idle
      → Whole P (to Memory) xs → Whole P (to Companion) ys → Merge P xs ys l → WritesSteady P s ys
      → Isolated P s xs ys l
  isolation only s xs ys l h wx wy m steady =
      let a : list_of is_memory l ≡ xs = first_list m in
      let b : list_of is_companion l ≡ ys = second_list m in
      let r : KeptApart P s s s l =
      apart P (to Memory) s l h ((merge_fair m wx wy).0 refl) (rw b (steady_of_writes P only s ys steady)) in
      record {
        memory = rw a at r.memory.same;
        memory_lines = rw a at r.memory.answered;
        companion = rw b at r.companion.same;
        companion_answers = rw b at r.companion.answered;
      }

  pub steady_merged : OnlyWrites P → SteadyMerged P
  steady_merged only s xs ys l h wx wy m steady =
      let b : list_of is_companion l ≡ ys = second_list m in
      writes_of_steady P s ys
      (rw b at (steady_alone P (to Memory) s l h ((merge_fair m wx wy).0 refl) (steady_of_writes P only s (events_of l) steady)))
