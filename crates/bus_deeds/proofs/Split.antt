-- SPDX-License-Identifier: Apache-2.0
-- An event of a part is what it asks of the companion, and the event of the same part with a hollow companion that
-- gives the companion's reply. So the code of every part but its companion is that of `Bus`. By cases on supply, event,
-- phase and clock.
use Prim.Native.Nat.{ℕ}
use mathlib.Core.Path.{◌≡◌, refl}
use mathlib.Core.Bool.{Bool}
use mathlib.Core.List.{List}
use Rattle.wire.specs.Bits.{pushed, Place, first, within, last, ack, place_at}
use Rattle.wire.specs.Clock.{received_at, sent_at}
use Rattle.wire.specs.Kinds.{pointer_byte, companion_byte, companion_read}
use Rattle.wire.specs.Memory.{lent}
use Rattle.wire.specs.Machine.{Line, start, stop, clock, lined, clocked}
use Rattle.wire.specs.declared.Side.TheVariants.{Memory, Companion}
use Rattle.wire.specs.declared.Named.{Named}
use Rattle.wire.specs.declared.Phase.{Phase}
use Rattle.wire.specs.declared.Phase.TheVariants.{Idle, Slave, AddressHigh, AddressLow, Pointer, Write, Read}
use Rattle.bus.specs.Desk.{Desks, part_of}
use Rattle.bus.specs.Code.Desk.{hollow}
use Rattle.bus.specs.Happening.{Happening, on_wire, beat, lost, gone, returned}
use Rattle.bus.specs.Event.{Done, done_of, event_on}
use Rattle.bus_deeds.specs.Serve.{at_last, at_ends, clock_deed, line_deed, deed_of, served_of}
use Rattle.bus.specs.Code.Outcome.{Left}
use Rattle.bus.specs.Code.Outcome as outcome
use Rattle.bus.specs.declared.Power.{Power}
use Rattle.bus.specs.declared.Power.TheVariants.{On, Backup, Off}
use Rattle.bus.specs.declared.Bus.{Bus}
use Rattle.bus_deeds.specs.declared.Deed.{Deed}
use Rattle.bus_deeds.specs.declared.Deed.TheVariants as deed

module _ (size : ℕ) (names : ℕ → Named) (D : Desks) where
  -- what the bus did, with the companion put back
  abbrev pub joined : Left → D.Desk → Done size names D
  joined l c = record { bus = l.went.bus; companion = c; memory = l.memory; line = l.went.line }

  abbrev pub split_of : Power → Happening → Deed → Bus → D.Desk → List ℕ → Done size names D
  split_of p x q u c m =
      let s = served_of D q c in joined (outcome.went_on size names (D.guard c) s.reply p x u m) s.next

  module _ (u : Bus) (c : D.Desk) (m : List ℕ) where
    -- the three kinds of byte that serve the companion, at each clock
    pointer_split : (z : Place) (k b : ℕ) (d : Bool)
        → let s = served_of D (at_last z (deed.Aim (pushed b d))) c in
        let h = received_at z (pointer_byte D.aim) c k b d in
        let g = received_at z (pointer_byte (hollow (D.guard c) s.reply).aim) tt k b d in
        (h.phase ≡ g.phase) × (h.part ≡ s.next) × (h.line ≡ g.line)
    unfolding at_last received_at
    pointer_split first k b d = (refl, refl, refl)
    pointer_split within k b d = (refl, refl, refl)
    pointer_split last k b d = (refl, refl, refl)
    pointer_split ack k b d = (refl, refl, refl)

    store_split : (z : Place) (k b : ℕ) (d : Bool)
        → let s = served_of D (at_last z (deed.Store (pushed b d))) c in
        let h = received_at z (companion_byte D.store) c k b d in
        let g = received_at z (companion_byte (hollow (D.guard c) s.reply).store) tt k b d in
        (h.phase ≡ g.phase) × (h.part ≡ s.next) × (h.line ≡ g.line)
    unfolding at_last received_at
    store_split first k b d = (refl, refl, refl)
    store_split within k b d = (refl, refl, refl)
    store_split last k b d = (refl, refl, refl)
    store_split ack k b d = (refl, refl, refl)

    load_split : (z : Place) (k b : ℕ) (d : Bool)
        → let s = served_of D (at_ends z b) c in
        let h = sent_at z (companion_read D.load D.loaded) c k b d in
        let g = sent_at z (companion_read (hollow (D.guard c) s.reply).load (λ u b. tt)) tt k b d in
        (h.phase ≡ g.phase) × (h.part ≡ s.next) × (h.line ≡ g.line)
    unfolding at_ends sent_at
    load_split first k b d = (refl, refl, refl)
    load_split within k b d = (refl, refl, refl)
    load_split last k b d = (refl, refl, refl)
    load_split ack k b d = (refl, refl, refl)

    clock_split : (p : Phase) (d : Bool)
        → done_of size names D (clocked (part_of size names D) p (lent m u.address) c d)
        ≡ (let s = served_of D (clock_deed p d) c in
        let o = done_of size names (hollow (D.guard c) s.reply) (clocked (part_of size names (hollow (D.guard c)
        s.reply)) p (lent m u.address) tt d) in
        record { bus = o.bus; companion = s.next; memory = o.memory; line = o.line })
    unfolding clocked clock_deed
    clock_split Idle d = refl
    clock_split (Slave k b) d = refl
    clock_split (AddressHigh k b) d = refl
    clock_split (AddressLow h k b) d = refl
    clock_split (Pointer k b) d =
        let e = pointer_split (place_at k) k b d in
        λ i. record {
          bus = record { power = On; phase = e.0 i; address = u.address };
          companion = e.1 i;
          memory = m;
          line = e.2 i;
        }
    clock_split (Write Memory k b) d = refl
    clock_split (Write Companion k b) d =
        let e = store_split (place_at k) k b d in
        λ i. record {
          bus = record { power = On; phase = e.0 i; address = u.address };
          companion = e.1 i;
          memory = m;
          line = e.2 i;
        }
    clock_split (Read Memory k b) d = refl
    clock_split (Read Companion k b) d =
        let e = load_split (place_at k) k b d in
        λ i. record {
          bus = record { power = On; phase = e.0 i; address = u.address };
          companion = e.1 i;
          memory = m;
          line = e.2 i;
        }

    line_split : (x : Line)
        → event_on size names D On (on_wire x) u c m ≡ split_of On (on_wire x) (line_deed u.phase x) u c m
    unfolding event_on lined
    line_split start = refl
    line_split stop = refl
    line_split (clock d) = clock_split u.phase d

    pub split : (p : Power) (x : Happening) → event_on size names D p x u c m ≡ split_of p x (deed_of p u.phase x) u c
        m
    unfolding event_on deed_of
    split On (on_wire x) = line_split x
    split On (beat t) = refl
    split On lost = refl
    split On gone = refl
    split On returned = refl
    split Backup (on_wire x) = refl
    split Backup (beat t) = refl
    split Backup lost = refl
    split Backup gone = refl
    split Backup returned = refl
    split Off (on_wire x) = refl
    split Off (beat t) = refl
    split Off lost = refl
    split Off gone = refl
    split Off returned = refl
