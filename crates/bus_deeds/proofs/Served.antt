-- SPDX-License-Identifier: Apache-2.0
-- What each thing that is asked of a companion leaves in a relation to it, every event does: the companion after an
-- event is the companion once it did what was asked (`split`).
use Prim.Native.Nat.{ℕ}
use mathlib.Core.Path.{ap, sym, subst}
use mathlib.Core.List.{List}
use Rattle.wire.specs.declared.Named.{Named}
use Rattle.bus.specs.Desk.{Desks}
use Rattle.bus.specs.Happening.{Happening}
use Rattle.bus.specs.Event.{Done, event_on}
use Rattle.bus_deeds.specs.Serve.{deed_of, served_of}
use Rattle.bus.specs.declared.Beat.{Beat}
use Rattle.bus.specs.declared.Power.{Power}
use Rattle.bus.specs.declared.Bus.{Bus}
use Rattle.bus_deeds.specs.declared.Deed.{Deed}
use Rattle.bus_deeds.specs.declared.Deed.TheVariants as deed
use Rattle.bus_deeds.proofs.Split.{split}

pub record AllLeave (D : Desks) (Rel : D.Desk → Type 0) (c : D.Desk) : Type 0 where
  pub same : Rel c
  pub aim : (b : ℕ) → Rel (D.aim c b).next
  pub store : (b : ℕ) → Rel (D.store c b).next
  pub loaded : (b : ℕ) → Rel (D.loaded c b)
  pub ticked : (t : Beat) → Rel (D.ticked t c)
  pub backed : Rel (D.backed c)
  pub lost : Rel (D.lost c)
  pub returned : Rel (D.returned c)

module _ (D : Desks) (Rel : D.Desk → Type 0) (c : D.Desk) (A : AllLeave D Rel c) where
  served_leaves : (q : Deed) → Rel (served_of D q c).next
  served_leaves deed.Nothing = A.same
  served_leaves (deed.Aim b) = A.aim b
  served_leaves (deed.Store b) = A.store b
  served_leaves deed.Load = A.same
  served_leaves (deed.Loaded b) = A.loaded b
  served_leaves (deed.Beat t) = A.ticked t
  served_leaves deed.Backed = A.backed
  served_leaves deed.Lost = A.lost
  served_leaves deed.Returned = A.returned

  pub event_leaves : (size : ℕ) (names : ℕ → Named) (u : Bus) (m : List ℕ) (p : Power) (x : Happening)
      → Rel (event_on size names D p x u c m).companion
  event_leaves size names u m p x =
      subst Rel (sym (ap (λ (d : Done size names D). d.companion) (split size names D u c m p x)))
      (served_leaves (deed_of p u.phase x))
