-- SPDX-License-Identifier: Apache-2.0
-- The device is safe on real wires. The two laws hold of the bus machine over any part; an event adds the supplies.
use Prim.Native.Nat.{ℕ}
use mathlib.Core.Path.{◌≡◌, refl, sym, ap, ◌∙◌}
use mathlib.Core.Bool.{Bool, true, false, cond, true≢false, false≢true}
use mathlib.Core.List.{List}
use lib.Dec.{eqb, ltb}
use native.Mathlib.Omega.{arith}
use borrow.Author.Tests.{not-true}
use Rattle.wire.specs.Bits.{Place, first, within, last, ack, place_at}
use Rattle.wire.specs.Clock.{Receiver, received_at, Sender, sent_at}
use Rattle.wire.specs.Kinds.{slave_byte, high_byte, low_byte, memory_byte, memory_read, pointer_byte, companion_byte, companion_read}
use Rattle.wire.specs.Machine.{Parts, Out, neither, beside, beyond, clocked, lined}
use Rattle.wire.specs.Memory.{lent}
use Rattle.wire.specs.declared.Side.TheVariants.{Memory, Companion}
use Rattle.wire.specs.declared.Phase.{Phase}
use Rattle.wire.specs.declared.Phase.TheVariants.{Idle, Slave, AddressHigh, AddressLow, Pointer, Write, Read}
use Rattle.bus.specs.declared.Power.{Power}
use Rattle.bus.specs.declared.Power.TheVariants.{On, Backup, Off}
use Rattle.fm3130_companion.specs.declared.Companion as C
use Rattle.fm3130.specs.Chip.{fm3130, Done, done_of}
use Rattle.fm3130.specs.Event.{happening, event_on, event_of}
use Rattle.fm3130.specs.declared.State.{State}
use Rattle.c_line.specs.Line.{pulls}
use Rattle.c_line.specs.Wires.{HiddenLevel, HiddenNext, is_eighth, ClockDropped, SafeOnWires}
use Rattle.c_line.proofs.Lines.{pulled_line}

-- one clock of a byte: where the device pulls, the master's level is not looked at
received_hidden : {A : Type 0} (p : Place) (R : Receiver A) (a : A) (k b : ℕ)
    → (received_at p R a k b true).line ≡ false → received_at p R a k b false ≡ received_at p R a k b true
unfolding received_at
received_hidden first R a k b h = absurd (true≢false h)
received_hidden within R a k b h = absurd (true≢false h)
received_hidden last R a k b h = absurd (true≢false h)
received_hidden ack R a k b h = refl

sent_hidden : {A : Type 0} (p : Place) (S : Sender A) (a : A) (k b : ℕ)
    → (sent_at p S a k b true).line ≡ false → sent_at p S a k b false ≡ sent_at p S a k b true
unfolding sent_at
sent_hidden first S a k b h = λ j. record { phase = S.here 1 (S.fetch a); part = a; line = sym h j }
sent_hidden within S a k b h = λ j. record { phase = (sent_at within S a k b true).phase; part = a; line = sym h j }
sent_hidden last S a k b h = λ j. record { phase = S.here 8 b; part = S.done a b; line = sym h j }
sent_hidden ack S a k b h = absurd (true≢false h)

-- one that is not the eighth leaves what it was handed
not_last : (k : ℕ) → eqb k 7 ≡ false → place_at k ≡ last → ⊥
unfolding place_at
not_last k h e = by (eqb k 0) (ltb k 7) (rw h at e) where
  tag : Place → ℕ
  tag first = 0
  tag within = 1
  tag last = 2
  tag ack = 3

  by : (x y : Bool) → cond x first (cond y within (cond false last ack)) ≡ last → ⊥
  by true y q = let z = ap tag q in omega arith
  by false true q = let z = ap tag q in omega arith
  by false false q = let z = ap tag q in omega arith

received_keeps : {A : Type 0} (p : Place) (R : Receiver A) (a : A) (k b : ℕ) (d : Bool) → (p ≡ last → ⊥)
    → (received_at p R a k b d).part ≡ a
unfolding received_at
received_keeps first R a k b d n = refl
received_keeps within R a k b d n = refl
received_keeps last R a k b d n = absurd (n refl)
received_keeps ack R a k b d n = refl

sent_keeps : {A : Type 0} (p : Place) (S : Sender A) (a : A) (k b : ℕ) (d : Bool) → (p ≡ last → ⊥)
    → (sent_at p S a k b d).part ≡ a
unfolding sent_at
sent_keeps first S a k b d n = refl
sent_keeps within S a k b d n = refl
sent_keeps last S a k b d n = absurd (n refl)
sent_keeps ack S a k b d n = refl

-- a Clock of the machine, over any part
module _ (P : Parts) where
  pub clock_hidden : (p : Phase) (m : P.Cells) (c : P.Desk)
      → (clocked P p m c true).line ≡ false → clocked P p m c false ≡ clocked P p m c true
  unfolding clocked
  clock_hidden Idle m c h = absurd (true≢false h)
  clock_hidden (Slave k b) m c h = ap (neither P m c) (received_hidden (place_at k) (slave_byte P.names) tt k b h)
  clock_hidden (AddressHigh k b) m c h = ap (neither P m c) (received_hidden (place_at k) high_byte tt k b h)
  clock_hidden (AddressLow u k b) m c h = ap (beside P c) (received_hidden (place_at k) (low_byte P.point u) m k b h)
  clock_hidden (Pointer k b) m c h = ap (beyond P m) (received_hidden (place_at k) (pointer_byte P.aim) c k b h)
  clock_hidden (Write Memory k b) m c h =
      ap (beside P c) (received_hidden (place_at k) (memory_byte (P.put (P.guard c))) m k b h)
  clock_hidden (Write Companion k b) m c h =
      ap (beyond P m) (received_hidden (place_at k) (companion_byte P.store) c k b h)
  clock_hidden (Read Memory k b) m c h =
      ap (beside P c) (sent_hidden (place_at k) (memory_read P.fetch P.step_on) m k b h)
  clock_hidden (Read Companion k b) m c h =
      ap (beyond P m) (sent_hidden (place_at k) (companion_read P.load P.loaded) c k b h)

  -- what a Clock that is not the eighth leaves of the two devices
  pub record Kept (m : P.Cells) (c : P.Desk) (o : Out P) : Type 0 where
    pub memory : o.state.memory ≡ m
    pub companion : o.state.companion ≡ c

  pub clock_keeps : (p : Phase) (m : P.Cells) (c : P.Desk) (d : Bool) → is_eighth p ≡ false → Kept m c (clocked P p m c d)
  unfolding clocked is_eighth
  clock_keeps Idle m c d h = record { memory = refl; companion = refl }
  clock_keeps (Slave k b) m c d h = record { memory = refl; companion = refl }
  clock_keeps (AddressHigh k b) m c d h = record { memory = refl; companion = refl }
  clock_keeps (AddressLow u k b) m c d h =
      record { memory = received_keeps (place_at k) (low_byte P.point u) m k b d (not_last k h); companion = refl }
  clock_keeps (Pointer k b) m c d h =
      record { memory = refl; companion = received_keeps (place_at k) (pointer_byte P.aim) c k b d (not_last k h) }
  clock_keeps (Write Memory k b) m c d h =
      record {
        memory = received_keeps (place_at k) (memory_byte (P.put (P.guard c))) m k b d (not_last k h);
        companion = refl;
      }
  clock_keeps (Write Companion k b) m c d h =
      record { memory = refl; companion = received_keeps (place_at k) (companion_byte P.store) c k b d (not_last k h) }
  clock_keeps (Read Memory k b) m c d h =
      record {
        memory = sent_keeps (place_at k) (memory_read P.fetch P.step_on) m k b d (not_last k h);
        companion = refl;
      }
  clock_keeps (Read Companion k b) m c d h =
      record {
        memory = refl;
        companion = sent_keeps (place_at k) (companion_read P.load P.loaded) c k b d (not_last k h);
      }

-- the same of an event, under each supply
hidden_by : (w : Power) (p : Phase) (a : ℕ) (c : C.Companion) (m : List ℕ)
    → HiddenLevel (record { power = w; phase = p; address = a; companion = c }) m
unfolding pulls event_on happening lined
hidden_by On p a c m h =
    let s : State = record { power = On; phase = p; address = a; companion = c } in
    let l = not-true _ (sym (pulled_line (event_of s m 3)) ∙ h) in
    ap done_of (clock_hidden fm3130 p (lent m a) c l)
hidden_by Backup p a c m h =
    absurd (false≢true (sym (pulled_line (event_of (record { power = Backup; phase = p; address = a; companion = c }) m 3)) ∙ h))
hidden_by Off p a c m h =
    absurd (false≢true (sym (pulled_line (event_of (record { power = Off; phase = p; address = a; companion = c }) m 3)) ∙ h))

pub hidden_level : (s : State) (m : List ℕ) → HiddenLevel s m
hidden_level s m h = hidden_by s.power s.phase s.address s.companion m h

pub hidden_next_lem : (s : State) (m : List ℕ) → HiddenNext s m
hidden_next_lem s m h = ap (λ (d : Done). pulls d.state d.memory) (hidden_level s m h)

dropped_by : (w : Power) (p : Phase) (a : ℕ) (c : C.Companion) (m : List ℕ)
    → ClockDropped (record { power = w; phase = p; address = a; companion = c }) m 2 0
    × ClockDropped (record { power = w; phase = p; address = a; companion = c }) m 3 0
    × ClockDropped (record { power = w; phase = p; address = a; companion = c }) m 2 1
    × ClockDropped (record { power = w; phase = p; address = a; companion = c }) m 3 1
unfolding event_on happening lined
dropped_by On p a c m = (
  λ h. let o = clock_keeps fm3130 p (lent m a) c false h in rw (o.memory, o.companion),
  λ h. let o = clock_keeps fm3130 p (lent m a) c true h in rw (o.memory, o.companion),
  λ h. let o = clock_keeps fm3130 p (lent m a) c false h in rw (o.memory, o.companion),
  λ h. let o = clock_keeps fm3130 p (lent m a) c true h in rw (o.memory, o.companion),
)
dropped_by Backup p a c m = (λ h. refl, λ h. refl, λ h. refl, λ h. refl)
dropped_by Off p a c m = (λ h. refl, λ h. refl, λ h. refl, λ h. refl)

pub safe_on_wires : SafeOnWires
safe_on_wires =
    record {
      hidden = hidden_level;
      hidden_next = hidden_next_lem;
      low_then_start = λ s m. (dropped_by s.power s.phase s.address s.companion m).0;
      high_then_start = λ s m. (dropped_by s.power s.phase s.address s.companion m).1;
      low_then_stop = λ s m. (dropped_by s.power s.phase s.address s.companion m).2;
      high_then_stop = λ s m. (dropped_by s.power s.phase s.address s.companion m).3;
    }
