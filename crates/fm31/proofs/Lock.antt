-- SPDX-License-Identifier: Apache-2.0
-- "Once SNL is 1 no event of any kind changes registers 11h to 18h or SNL": each function of the companion keeps them,
-- so every event does, and every list of events.
use Prim.Native.Nat.{ℕ}
use mathlib.Core.Path.{refl, ◌∙◌}
use mathlib.Core.List.{List, [], ◌∷◌}
use Rattle.fm31_counters.specs.Lock.{Locked, SerialKept}
use Rattle.fm31_counters.specs.declared.Counters.{Counters}
use Rattle.fm31_counters.proofs.Lock.{aim_keeps, store_keeps, loaded_keeps, edge_keeps}
use Rattle.fm31_counters.proofs.Lock.{backed_keeps, lost_keeps, returned_keeps}
use Rattle.bus.specs.Happening.{happening, edges}
use Rattle.bus.specs.declared.Beat.{Beat}
use Rattle.bus.specs.declared.Beat.TheVariants.{Second, Cnt1, Cnt2}
use Rattle.bus_deeds.proofs.Served.{AllLeave, event_leaves}
use Rattle.fm31.specs.Chip.{companion31, beaten, event_of}
use Rattle.fm31.specs.Step.{state_of}
use Rattle.fm31.specs.Run.{run_of}
use Rattle.fm31.specs.Lock.{SerialLocked}
use Rattle.fm31.specs.declared.State.{State}
use Rattle.bus.specs.Select.{slave_names_for}

module _ (c : Counters) (h : Locked c) where
  beaten_keeps : (t : Beat) → SerialKept c (beaten t c)
  beaten_keeps Second = record { locked = h; serial = refl }
  beaten_keeps Cnt1 = edge_keeps _ c h
  beaten_keeps Cnt2 = edge_keeps _ c h

  all_keep : AllLeave companion31 (SerialKept c) c
  all_keep =
      record {
        same = record { locked = h; serial = refl };
        aim = λ b. aim_keeps b c h;
        store = λ b. store_keeps b c h;
        loaded = λ b. loaded_keeps b c h;
        ticked = beaten_keeps;
        backed = backed_keeps c h;
        lost = lost_keeps c h;
        returned = returned_keeps c h;
      }

pub event_keeps_serial : (size select : ℕ) (s : State) (m : List ℕ) (e : ℕ) → Locked s.counters
    → SerialKept s.counters (event_of size select s m e).companion
event_keeps_serial size select s m e l =
    event_leaves companion31 (SerialKept s.counters) s.counters (all_keep s.counters l) size
    (slave_names_for select) s.bus m
    s.bus.power (happening edges e)

chained : (b c d : Counters) → SerialKept b c → SerialKept c d → SerialKept b d
chained b c d p q = record { locked = q.locked; serial = q.serial ∙ p.serial }

pub serial_locked : SerialLocked
unfolding run_of
serial_locked size select s m [] l = record { locked = l; serial = refl }
serial_locked size select s m (e ∷ es) l =
    let d = event_of size select s m e in
    let k = event_keeps_serial size select s m e l in
    chained _ _ _ k (serial_locked size select (state_of d) d.memory es k.locked)
