-- SPDX-License-Identifier: Apache-2.0
-- What changes the memory of a part: by cases on the supply, the event and the phase. Every clock hands the memory's
-- bytes back as they were, but for the eighth clock of a data byte, which puts it unless the address is protected. A
-- protected address is therefore another than the one a byte is put at.
use Prim.Native.Nat.{ℕ}
use mathlib.Core.Path.{◌≡◌, refl, sym, ap, ◌∙◌}
use mathlib.Core.Bool.{Bool, true, true≢false}
use mathlib.Core.List.{List, [], ◌∷◌}
use lib.Dec.{ltb, eqb}
use lib.ListN.{get_or}
use lib.Seq.{get_or-set_other}
use borrow.Author.Tests.{ltb-true, ltb-false, eqb-true, eqb-false}
use Rattle.wire.specs.Bits.{pushed}
use Rattle.wire.specs.Clock.{received}
use Rattle.wire.specs.Kinds.{memory_byte}
use Rattle.wire.specs.Memory.{Cells, lent, refused_byte, put_byte}
use Rattle.wire.specs.Machine.{start, stop, clock, clocked, lined}
use Rattle.wire.specs.declared.Side.TheVariants.{Memory, Companion}
use Rattle.wire.specs.declared.Phase.{Phase}
use Rattle.wire.specs.declared.Phase.TheVariants.{Idle, Slave, AddressHigh, AddressLow, Pointer, Write, Read}
use Rattle.wire.proofs.Clock.{received_inside, received_last, received_ack}
use Rattle.wire.proofs.Cells.{low_bytes, fetch_bytes}
use Rattle.wire.proofs.Tests.{by_test}
use Rattle.wire.specs.declared.Named.{Named}
use Rattle.bus.specs.Desk.{Desks, part_of}
use Rattle.bus.specs.Happening.{Happening, on_wire, beat, lost, gone, returned, happening}
use Rattle.bus.specs.Event.{event_on}
use Rattle.bus.specs.declared.Power.{Power}
use Rattle.bus.specs.declared.Power.TheVariants.{On, Backup, Off}
use Rattle.law_parts.specs.Events.{Held, event, held_by}
use Rattle.law_parts.specs.Protected as bytes
use Rattle.law_parts.specs.Protected.{Change, same, eighth, OnlyEighthClocks, ProtectedUnchanged, ProtectedKept}

module _ (size : ℕ) (names : ℕ → Named) (D : Desks) where
  abbrev H : Type 0
  H = Held size names D

  abbrev Protected : H → ℕ → Bool
  Protected h a = bytes.Protected size names D h a

  module _ (h : H) (d : Bool) where
    abbrev at : ℕ
    at = h.bus.address

    abbrev cells : Cells
    cells = lent h.memory at

    abbrev Now : List ℕ → Type 0
    Now m' = Change size names D h (on_wire (clock d)) m'

    -- a data byte: put at its eighth clock, unless the address is protected
    put_change : (b : ℕ) → h.bus.power ≡ On → h.bus.phase ≡ Write Memory 7 b
        → Now (put_byte size (D.guard h.companion) cells (pushed b d)).next.bytes
    unfolding put_byte refused_byte
    put_change b on p =
        by_test (Protected h at) (λ e. rw e (same refl)) (λ e. rw e (eighth b d on p refl e refl))

    data_change : (k b : ℕ) → h.bus.power ≡ On → h.bus.phase ≡ Write Memory k b
        → Now (received (memory_byte (put_byte size (D.guard h.companion))) cells k b d).part.bytes
    data_change k b on p =
        let R = memory_byte (put_byte size (D.guard h.companion)) in
        by_test (ltb k 7) (λ l. rw (received_inside R cells k b d (ltb-true k 7 l)) (same refl))
        (λ l. by_test (eqb k 7)
        (λ q. rw (received_last R cells k b d (eqb-true k 7 q))
        (put_change b on (p ∙ ap (λ (n : ℕ). Write Memory n b) (eqb-true k 7 q))))
        (λ q. rw (received_ack R cells k b d (ltb-false k 7 l) (eqb-false k 7 q)) (same refl)))

    clock_change : (p : Phase) → h.bus.power ≡ On → h.bus.phase ≡ p
        → Now (clocked (part_of size names D) p cells h.companion d).state.memory.bytes
    unfolding clocked
    clock_change Idle on e = same refl
    clock_change (Slave k b) on e = same refl
    clock_change (AddressHigh k b) on e = same refl
    clock_change (AddressLow a k b) on e = same (low_bytes size cells a k b d)
    clock_change (Pointer k b) on e = same refl
    clock_change (Write Memory k b) on e = data_change k b on e
    clock_change (Write Companion k b) on e = same refl
    clock_change (Read Memory k b) on e = same (fetch_bytes size cells k b d)
    clock_change (Read Companion k b) on e = same refl

  event_change : (p : Power) (x : Happening) (h : H) → h.bus.power ≡ p
      → Change size names D h x (event_on size names D p x h.bus h.companion h.memory).memory
  unfolding event_on lined
  event_change On (on_wire start) h e = same refl
  event_change On (on_wire stop) h e = same refl
  event_change On (on_wire (clock d)) h e = clock_change h d h.bus.phase e refl
  event_change On (beat t) h e = same refl
  event_change On lost h e = same refl
  event_change On gone h e = same refl
  event_change On returned h e = same refl
  event_change Backup (on_wire x) h e = same refl
  event_change Backup (beat t) h e = same refl
  event_change Backup lost h e = same refl
  event_change Backup gone h e = same refl
  event_change Backup returned h e = same refl
  event_change Off (on_wire x) h e = same refl
  event_change Off (beat t) h e = same refl
  event_change Off lost h e = same refl
  event_change Off gone h e = same refl
  event_change Off returned h e = same refl

  pub only_eighth_clocks : OnlyEighthClocks size names D
  only_eighth_clocks h e = event_change h.bus.power (happening D.beyond e) h refl

  unchanged : (h : H) (x : Happening) (m' : List ℕ) (a : ℕ) → Change size names D h x m' → Protected h a ≡ true
      → get_or m' a 0 ≡ get_or h.memory a 0
  unchanged h x m' a (same q) p = ap (λ (l : List ℕ). get_or l a 0) q
  unchanged h x m' a (eighth b d on f e n q) p =
      ap (λ (l : List ℕ). get_or l a 0) q
      ∙ get_or-set_other h.memory h.bus.address a (pushed b d) 0
      (λ z. true≢false (sym p ∙ (ap (Protected h) z ∙ n)))

  pub protected_unchanged : ProtectedUnchanged size names D
  protected_unchanged h e a p = unchanged h (happening D.beyond e) _ a (only_eighth_clocks h e) p

  -- by induction on the list, one event after the other leaves it
  pub protected_kept : ProtectedKept size names D
  protected_kept h [] a p = refl
  protected_kept h (e ∷ es) a p =
      protected_kept (held_by size names D (event size names D h e)) es a
      (λ done rest f q. p (e ∷ done) rest f (ap (λ (z : List ℕ). e ∷ z) q))
      ∙ protected_unchanged h e a (p [] es e refl)
