-- SPDX-License-Identifier: Apache-2.0
-- Demand 2's two sentences about memory, of the larger family over the size: the laws of `law_parts`, whose one condition
-- is that no tick and no edge changes WP1 WP0. And which events change them: by what an event asks of the companion.
use Prim.Native.Nat.{ℕ, ◌<◌}
use mathlib.Core.Path.{◌≡◌, refl, ap, ◌∙◌}
use mathlib.Core.List.{[], ◌∷◌, ◌++◌}
use lib.ListN.{length}
use Rattle.fm31_counters.specs.Part.{guard_of, lost_of, returned_of}
use Rattle.fm31_counters.specs.declared.Counters.{Counters}
use Rattle.fm31_counters.proofs.Guard.{aim_guard, loaded_guard, edge_guard}
use Rattle.bus.specs.Happening.{happening, edges}
use Rattle.bus.specs.Event.{Done}
use Rattle.bus_deeds.specs.Serve.{deed_of, served_of}
use Rattle.bus.specs.declared.Beat.{Beat}
use Rattle.bus.specs.declared.Beat.TheVariants.{Second, Cnt1, Cnt2}
use Rattle.bus_deeds.specs.declared.Deed.{Deed}
use Rattle.bus_deeds.specs.declared.Deed.TheVariants as deed
use Rattle.bus_deeds.proofs.Split.{split}
use Rattle.bus.specs.Select.{lone, slave_names_for}
use Rattle.fm31.specs.Chip.{companion31, beaten}
use Rattle.fm31.specs.Run.{run_of}
use Rattle.fm31.proofs.Entry.{limits_of}
use Rattle.fm31_run.proofs.Runs.{run_ok}
use Rattle.law_parts.specs.Events.{clock_event, after_events}
use Rattle.law_parts.specs.Stored.{BeatsKeep, Pulls}
use Rattle.law_parts.proofs.Events.{edge_heard}
use Rattle.law_parts.proofs.Stored as stored
use Rattle.law_parts.proofs.Protected as kept
use Rattle.law_larger.specs.Demand3.{held}
use Rattle.law_larger.specs.Memory.{AcknowledgedStored, ProtectedKept, OnlyStoresProtect}
use Rattle.law_larger.proofs.Lists.{run_held}

pub beaten_guard : (t : Beat) (c : Counters) → guard_of (beaten t c) ≡ guard_of c
beaten_guard Second c = refl
beaten_guard Cnt1 c = edge_guard c _
beaten_guard Cnt2 c = edge_guard c _

beats_keep : BeatsKeep companion31
beats_keep = beaten_guard

module _ (size : ℕ) where
  pub acknowledged_stored : 0 < size → AcknowledgedStored size
  unfolding beats_keep
  acknowledged_stored z s m before byte w d wf l start r pulls =
      let o = run_ok size z s m before wf l in
      let inside : (run_of size lone s m before).state.bus.address < length (run_of size lone s m before).memory =
      rw o.memory (limits_of size lone (run_of size lone s m before).state o.state).bus.address in
      let b = run_held size s m before in
      let h = held size s m in
      let low : Pulls size (slave_names_for lone) companion31 (after_events size (slave_names_for lone) companion31 h
      (before ++ byte)) =
      rw (run_held size s m (before ++ byte)) pulls in
      rw (b, run_held size s m (before ++ (byte ++ (clock_event d ∷ [])))) at
      (stored.acknowledged_stored size (slave_names_for lone) companion31 beats_keep edge_heard h before byte w d
      (rw b inside) (rw b start) r low)

  pub protected_kept : ProtectedKept size
  protected_kept s m es a h =
      rw (run_held size s m es) at
      (kept.protected_kept size (slave_names_for lone) companion31 (held size s m) es a
      (λ done rest e q. rw (run_held size s m done) (h done rest e q)))

  -- what is asked of the companion, but to store, leaves WP1 WP0
  served_guard : (c : Counters) (q : Deed) → ((b : ℕ) → q ≡ deed.Store b → ⊥)
      → guard_of (served_of companion31 q c).next ≡ guard_of c
  unfolding lost_of returned_of
  served_guard c deed.Nothing n = refl
  served_guard c (deed.Aim b) n = aim_guard c b
  served_guard c (deed.Store b) n = absurd (n b refl)
  served_guard c deed.Load n = refl
  served_guard c (deed.Loaded b) n = loaded_guard c b
  served_guard c (deed.Beat t) n = beaten_guard t c
  served_guard c deed.Backed n = refl
  served_guard c deed.Lost n = refl
  served_guard c deed.Returned n = refl

  pub only_stores_protect : OnlyStoresProtect size
  only_stores_protect s m e n =
      let u = s.bus in
      ap (λ (d : Done size (slave_names_for lone) companion31). guard_of d.companion)
      (split size (slave_names_for lone) companion31 u s.counters m u.power (happening edges e))
      ∙ served_guard s.counters (deed_of u.power u.phase (happening edges e)) n
