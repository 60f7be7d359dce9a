-- SPDX-License-Identifier: Apache-2.0
-- An acknowledged memory byte is stored at its address, over any size, names and companion. By induction on the events
-- of the byte: up to its eighth clock they change neither memory nor address nor protection; the eighth puts the byte;
-- what falls after it leaves all as it is. The device pulls the ninth clock's line low only where the byte was put.
use Prim.Native.Nat.{ℕ, zero, suc, ◌+◌, ◌<◌}
use mathlib.Core.Path.{◌≡◌, refl, sym, ap, subst, ◌∙◌}
use mathlib.Core.Bool.{Bool, true, false≢true}
use mathlib.Core.List.{List, [], ◌∷◌, ◌++◌}
use native.Mathlib.Omega.{arith}
use lib.ListN.{length, get_or, set}
use lib.Seq.{get_or-set_same}
use Rattle.wire.specs.Bits.{pushed}
use Rattle.wire.specs.Clock.{Half, half, kept, received}
use Rattle.wire.specs.Kinds.{memory_byte}
use Rattle.wire.specs.Memory.{Cells, lent, next, is_protected, refused_byte, put_byte}
use Rattle.wire.specs.Machine.{beside, clocked}
use Rattle.wire.specs.declared.Side.TheVariants.{Memory}
use Rattle.wire.specs.declared.Phase.{Phase}
use Rattle.wire.specs.declared.Phase.TheVariants.{Idle, Write}
use Rattle.wire.proofs.Clock.{received_inside, received_last, received_ack}
use Rattle.wire.proofs.Tests.{by_test}
use Rattle.wire.specs.declared.Named.{Named}
use Rattle.bus.specs.Desk.{Desks, part_of}
use Rattle.bus.specs.Event.{Done, done, done_of}
use Rattle.bus.specs.declared.Power.TheVariants.{On}
use Rattle.law_parts.specs.Events.{clock_event, tick_byte, TicksHeard, Held, event, held_by, after_events}
use Rattle.law_parts.specs.Stored.{Rest, none, bit, beat, power, Byte, AtData, StoredAt, BeatsKeep, Pulls}
use Rattle.law_parts.specs.Stored.{AcknowledgedStored}
use Rattle.law_parts.proofs.Events.{clock_event_lem, beat_event_lem, power_event, after_append}

module _ (size : ℕ) (names : ℕ → Named) (D : Desks) (K : BeatsKeep D) (T : TicksHeard D) where
  abbrev H : Type 0
  H = Held size names D

  abbrev after : H → List ℕ → H
  after h es = after_events size names D h es

  -- main power is present, and phase, memory address and protection are as said
  record Stands (h : H) (p : Phase) (a g : ℕ) : Type 0 where
    on : h.bus.power ≡ On
    phase : h.bus.phase ≡ p
    address : h.bus.address ≡ a
    guard : D.guard h.companion ≡ g

  -- what a whole byte w leaves where it is put at the address a under the protection g
  record Put (m : List ℕ) (a g w : ℕ) (h : H) : Type 0 where
    memory : h.memory ≡ (put_byte size g (lent m a) w).next.bytes
    state : Stands h (kept (put_byte size g (lent m a) w).good (Write Memory 8 w))
        (put_byte size g (lent m a) w).next.address g

  -- one event more, where it leaves what is said
  onward : (X : H → Type 0) (h : H) (es : List ℕ) (e : ℕ) (d : Done size names D) → event size names D h e ≡ d
      → X (after (held_by size names D d) es) → X (after h (e ∷ es))
  onward X h es e d q x = subst (λ (z : Done size names D). X (after (held_by size names D z) es)) (sym q) x

  -- a tick or an edge
  beaten : H → D.Tick → Done size names D
  beaten h t = done size names D h.bus (D.ticked (D.beat_of t) h.companion) h.memory true

  stands_beaten : {h : H} {p : Phase} {a g : ℕ} (t : D.Tick) → Stands h p a g → Stands
      (held_by size names D (beaten h t))
      p a g
  unfolding beaten
  stands_beaten {h} t s =
      record { on = s.on; phase = s.phase; address = s.address; guard = K (D.beat_of t) h.companion ∙ s.guard }

  still : H → Done size names D
  still h = done size names D h.bus h.companion h.memory true

  -- what falls after the eighth clock leaves all as it is
  record Same (b w : ℕ) (p : Phase) (a g : ℕ) (m : List ℕ) (h : H) : Type 0 where
    byte : b ≡ w
    state : Stands h p a g
    memory : h.memory ≡ m

  late : {b w : ℕ} {es : List ℕ} → Rest D 0 b w es → (h : H) (p : Phase) (a g : ℕ) → Stands h p a g
      → Same b w p a g h.memory (after h es)
  unfolding beaten still
  late none h p a g s = record { byte = refl; state = s; memory = refl }
  late {b} {w} (beat {es = es} t r) h p a g s =
      onward (Same b w p a g h.memory) h es (tick_byte D t) (beaten h t) (beat_event_lem size names D h s.on T t)
      (late r (held_by size names D (beaten h t)) p a g (stands_beaten t s))
  late {b} {w} (power {es = es} r) h p a g s =
      onward (Same b w p a g h.memory) h es 7 (still h) (power_event size names D h s.on)
      (late r (held_by size names D (still h)) p a g
      (record { on = s.on; phase = s.phase; address = s.address; guard = s.guard }))

  -- a clock that served the memory, from the memory's half
  abbrev half_done : H → Half Cells → Done size names D
  half_done h x = done_of size names D (beside (part_of size names D) h.companion x)

  clocked_at : (h : H) (d : Bool) (k b a g : ℕ) → Stands h (Write Memory k b) a g
      → event size names D h (clock_event d)
      ≡ half_done h (received (memory_byte (put_byte size g)) (lent h.memory a) k b d)
  unfolding clocked
  clocked_at h d k b a g s = clock_event_lem size names D h s.on d ∙ rw (s.phase, s.address, s.guard)

  -- the eighth clock, and what falls after it
  eighth : {b w : ℕ} {es : List ℕ} (d : Bool) → Rest D 0 (pushed b d) w es → (k : ℕ) → k ≡ 7 → (h : H) (a g : ℕ)
      → Stands h (Write Memory k b) a g → Put h.memory a g w (after h (clock_event d ∷ es))
  eighth {b} {w} {es} d r k q h a g s =
      let m = h.memory in
      let c = received_last (memory_byte (put_byte size g)) (lent m a) k b d q in
      let t = put_byte size g (lent m a) (pushed b d) in
      let p = kept t.good (Write Memory 8 (pushed b d)) in
      let z = half_done h (half p t.next d) in
      let l = late r (held_by size names D z) p t.next.address g
      (record { on = refl; phase = refl; address = refl; guard = s.guard }) in
      onward (Put m a g w) h es (clock_event d) z (clocked_at h d k b a g s ∙ ap (half_done h) c)
      (rw (← l.byte) (record { memory = l.memory; state = l.state }))

  -- the clocks of a byte up to and with its eighth
  early : {n b w : ℕ} {es : List ℕ} → Rest D (suc n) b w es → (k : ℕ) → k + suc n ≡ 8 → (h : H) (a g : ℕ)
      → Stands h (Write Memory k b) a g → Put h.memory a g w (after h es)
  unfolding beaten still
  early {n = suc n} {b = b} {w = w} (bit {es = es} d r) k q h a g s =
      let m = h.memory in
      let c = received_inside (memory_byte (put_byte size g)) (lent m a) k b d (omega arith) in
      let z = half_done h (half (Write Memory (k + 1) (pushed b d)) (lent m a) d) in
      onward (Put m a g w) h es (clock_event d) z (clocked_at h d k b a g s ∙ ap (half_done h) c)
      (early r (k + 1) (omega arith) (held_by size names D z) a g
      (record { on = refl; phase = refl; address = refl; guard = s.guard }))
  early {n = zero} (bit d r) k q h a g s = eighth d r k (omega arith) h a g s
  early {w = w} (beat {es = es} t r) k q h a g s =
      onward (Put h.memory a g w) h es (tick_byte D t) (beaten h t) (beat_event_lem size names D h s.on T t)
      (early r k q (held_by size names D (beaten h t)) a g (stands_beaten t s))
  early {w = w} (power {es = es} r) k q h a g s =
      onward (Put h.memory a g w) h es 7 (still h) (power_event size names D h s.on)
      (early r k q (held_by size names D (still h)) a g
      (record { on = s.on; phase = s.phase; address = s.address; guard = s.guard }))

  -- where the byte was refused the device pulls nothing
  quiet : (h : H) (a g : ℕ) → Stands h Idle a g → (event size names D h 3).line ≡ true
  unfolding clocked
  quiet h a g s = ap (λ (x : Done size names D). x.line) (clock_event_lem size names D h s.on true) ∙ rw s.phase

  -- the ninth clock of a byte that was put leaves the memory
  ninth : (h : H) (d : Bool) (w a g : ℕ) → Stands h (Write Memory 8 w) a g
      → (event size names D h (clock_event d)).memory ≡ h.memory
  ninth h d w a g s =
      ap (λ (x : Done size names D). x.memory) (clocked_at h d 8 w a g s
      ∙ ap (half_done h)
      (received_ack (memory_byte (put_byte size g)) (lent h.memory a) 8 w d (omega arith) (λ e. omega arith)))

  -- a byte that was put, or refused, by the protection
  byte_stored_lem : (h : H) (es : List ℕ) (w : ℕ) (d : Bool) → AtData h.bus → Byte D w es
      → h.bus.address < length h.memory → Pulls size names D (after h es)
      → StoredAt h.memory h.bus.address w (after (after h es) (clock_event d ∷ [])).memory
  unfolding put_byte refused_byte kept
  byte_stored_lem h es w d start r l pulls =
      let g = D.guard h.companion in
      let a = h.bus.address in
      let x = early r 0 refl h a g
      (record { on = start.power; phase = start.phase; address = refl; guard = refl }) in
      by_test (is_protected size g a)
      (λ e. let q : Stands (after h es) Idle (next size a) g = rw e at x.state in
      absurd (false≢true (sym pulls ∙ quiet (after h es) (next size a) g q)))
      (λ e. let q : Stands (after h es) (Write Memory 8 w) (next size a) g = rw e at x.state in
      let p : (after h es).memory ≡ set h.memory a w = rw e at x.memory in
      let n = ninth (after h es) d w (next size a) g q ∙ p in
      record { whole = n; byte = ap (λ (z : List ℕ). get_or z a 0) n ∙ get_or-set_same h.memory a w 0 l })

  pub acknowledged_stored : AcknowledgedStored size names D
  acknowledged_stored h before byte w d l start r pulls =
      let begun = after h before in
      let j = after_append size names D h before byte in
      let k = after_append size names D h before (byte ++ (clock_event d ∷ [])) in
      let n = after_append size names D begun byte (clock_event d ∷ []) in
      rw (k, n) (byte_stored_lem begun byte w d start r l (rw j at pulls))
