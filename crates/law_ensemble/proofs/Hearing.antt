-- SPDX-License-Identifier: Apache-2.0
-- A device that pulls the line low goes on in the same way whatever the master does at that clock; where another one does, it is idle,
-- and a Clock leaves it as it was.
use Prim.Native.Nat.{ℕ}
use mathlib.Core.Path.{◌≡◌, refl, sym, ap, subst, ◌∙◌}
use mathlib.Core.Bool.{Bool, true, false, false≢true}
use mathlib.Core.List.{List}
use native.Mathlib.Omega.{arith}
use lib.Dec.{eqb, ltb}
use borrow.Author.Tests.{eqb-false, ltb-true, ltb-false, lt-ltb}
use Rattle.bits.proofs.Cases.{by_cond}
use Rattle.wire.proofs.Tests.{by_test}
use Rattle.wire.specs.Bits.{Place as Clocks, first as initial, within, last, ack, place_at}
use Rattle.wire.specs.Clock.{Half, Receiver, received_at, Sender, sent_at}
use Rattle.wire.specs.Memory.{Cells, lent}
use Rattle.wire.specs.Machine.{Parts, Out, clock, lined, clocked}
use Rattle.wire.specs.declared.Side.TheVariants.{Memory, Companion}
use Rattle.wire.specs.declared.Phase.{Phase}
use Rattle.wire.specs.declared.Phase.TheVariants.{Idle, Slave, AddressHigh, AddressLow, Pointer, Write, Read}
use Rattle.bus.specs.Select.{slave_names_for}
use Rattle.bus.specs.Desk.{part_of}
use Rattle.bus.specs.Happening.{on_wire, happening}
use Rattle.bus.specs.Event.{event_on}
use Rattle.bus.specs.declared.Bus.{Bus}
use Rattle.bus.specs.declared.Power.{Power}
use Rattle.bus.specs.declared.Power.TheVariants.{On, Backup, Off}
use Rattle.fm31_counters.specs.declared.Counters.{Counters}
use Rattle.fm31.specs.Chip.{companion31, Done}
use Rattle.law_wired.proofs.Pulls.{Clear, this_idle, that_idle, both_called}
use Rattle.set_event.specs.Set.{Held, Together, Place, first, second, third, fourth, number_of, at, hears, own_byte, size_in, select_in}
use Rattle.set_event.specs.Set.{done_in, after_own, line_at, line_to}
use Rattle.set_event.proofs.Facts.{of_four}
use Rattle.set_event.proofs.Ears.{heard_here}
use Rattle.law_set.proofs.Heard.{hears_all_events, line_is_low}
use Rattle.law_ensemble.specs.Alone.{counters_in}
use Rattle.law_ensemble.specs.Transaction.{same_place, Here, Unlike}
use Rattle.law_ensemble.specs.Stand.{bus_in, Stands}
use Rattle.law_ensemble.specs.Hearing.{HearsTheLine}
use Rattle.law_ensemble.proofs.Transaction.{place_is}
use Rattle.law_ensemble.proofs.Stand.{calm_of}
use Rattle.law_ensemble.proofs.Stored.{idle_bus}

-- a Clock of one kind of byte: where the line is low though the master's is high, the master's does not matter
abbrev SameLeft : {A : Type 0} → Half A → Half A → Type 0
SameLeft x y = x.line ≡ false → (x.phase ≡ y.phase) × (x.part ≡ y.part)

taking : {A : Type 0} (z : Clocks) (R : Receiver A) (a : A) (k b : ℕ)
    → SameLeft (received_at z R a k b true) (received_at z R a k b false)
unfolding received_at
taking initial R a k b e = absurd (false≢true (sym e))
taking within R a k b e = absurd (false≢true (sym e))
taking last R a k b e = absurd (false≢true (sym e))
taking ack R a k b e = (refl, refl)

giving : {A : Type 0} (z : Clocks) (S : Sender A) (a : A) (k b : ℕ) → SameLeft (sent_at z S a k b true) (sent_at z S a k b false)
unfolding sent_at
giving initial S a k b e = (refl, refl)
giving within S a k b e = (refl, refl)
giving last S a k b e = (refl, refl)
giving ack S a k b e = absurd (false≢true (sym e))

-- the same of the machine, by phase
module _ (P : Parts) (m : P.Cells) (c : P.Desk) where
  abbrev SameState : Out P → Out P → Type 0
  SameState x y =
      x.line ≡ false
      → (x.state.phase ≡ y.state.phase) × (x.state.memory ≡ y.state.memory) × (x.state.companion ≡ y.state.companion)

  pulling : (p : Phase) → SameState (clocked P p m c true) (clocked P p m c false)
  unfolding clocked
  pulling Idle e = absurd (false≢true (sym e))
  pulling (Slave k b) e = let h = taking (place_at k) _ tt k b e in (h.0, refl, refl)
  pulling (AddressHigh k b) e = let h = taking (place_at k) _ tt k b e in (h.0, refl, refl)
  pulling (AddressLow y k b) e = let h = taking (place_at k) _ m k b e in (h.0, h.1, refl)
  pulling (Pointer k b) e = let h = taking (place_at k) _ c k b e in (h.0, refl, h.1)
  pulling (Write Memory k b) e = let h = taking (place_at k) _ m k b e in (h.0, h.1, refl)
  pulling (Write Companion k b) e = let h = taking (place_at k) _ c k b e in (h.0, refl, h.1)
  pulling (Read Memory k b) e = let h = giving (place_at k) _ m k b e in (h.0, h.1, refl)
  pulling (Read Companion k b) e = let h = giving (place_at k) _ c k b e in (h.0, refl, h.1)

-- a device before a Clock, as its bus, companion and memory
module _ (size select : ℕ) (u : Bus) (c : Counters) (m : List ℕ) where
  abbrev after : Power → Bool → Done size select
  after p d = event_on size (slave_names_for select) companion31 p (on_wire (clock d)) u c m

  abbrev SameDone : Done size select → Done size select → Type 0
  SameDone x y = (x.bus ≡ y.bus) × (x.companion ≡ y.companion) × (x.memory ≡ y.memory)

  -- one that pulls the line low
  device_pulls : (p : Power) → (after p true).line ≡ false → SameDone (after p true) (after p false)
  unfolding event_on lined
  device_pulls On e =
      let h = pulling (part_of size (slave_names_for select) companion31) (lent m u.address) c u.phase e in (
        λ i. record { power = On; phase = h.0 i; address = (h.1 i).address },
        h.2,
        ap (λ (k : Cells). k.bytes) h.1,
      )
  device_pulls Backup e = absurd (false≢true (sym e))
  device_pulls Off e = absurd (false≢true (sym e))

-- one that is idle
module _ (size select a : ℕ) (c : Counters) (m : List ℕ) where
  device_idle : (p : Power) → let u : Bus = record { power = p; phase = Idle; address = a } in
      SameDone size select u c m (after size select u c m p true) (after size select u c m p false)
  unfolding event_on lined clocked
  device_idle On = (refl, refl, refl)
  device_idle Backup = (refl, refl, refl)
  device_idle Off = (refl, refl, refl)

-- the event bytes of both Clocks
module _ (h : Held) where
  abbrev size : ℕ
  size = size_in h

  abbrev select : ℕ
  select = select_in h

  alike : SameDone size select (bus_in h) (counters_in h) h.memory (done_in h 3) (done_in h 2) → after_own h 3 ≡ after_own h 2
  alike e =
      λ i. record {
        member = record {
          size = h.member.size;
          select = h.member.select;
          state = record { bus = e.0 i; counters = e.1 i };
        };
        memory = e.2 i;
      }

  after_pulling : (done_in h 3).line ≡ false → after_own h 3 ≡ after_own h 2
  unfolding happening
  after_pulling e = alike (device_pulls size select (bus_in h) (counters_in h) h.memory (bus_in h).power e)

  after_idle : (bus_in h).phase ≡ Idle → after_own h 3 ≡ after_own h 2
  unfolding happening
  after_idle e =
      alike
      (subst
      (λ (u : Bus). SameDone size select u (counters_in h) h.memory
      (after size select u (counters_in h) h.memory (bus_in h).power true)
      (after size select u (counters_in h) h.memory (bus_in h).power false))
      (sym (idle_bus (bus_in h) e))
      (device_idle size select (bus_in h).address (counters_in h) h.memory (bus_in h).power))

-- the master's low line is low, whoever else pulls
taking_low : {A : Type 0} (z : Clocks) (R : Receiver A) (a : A) (k b : ℕ) → (received_at z R a k b false).line ≡ false
unfolding received_at
taking_low initial R a k b = refl
taking_low within R a k b = refl
taking_low last R a k b = refl
taking_low ack R a k b = refl

giving_low : {A : Type 0} (z : Clocks) (S : Sender A) (a : A) (k b : ℕ) → (sent_at z S a k b false).line ≡ false
unfolding sent_at
giving_low initial S a k b = refl
giving_low within S a k b = refl
giving_low last S a k b = refl
giving_low ack S a k b = refl

machine_low : (P : Parts) (m : P.Cells) (c : P.Desk) (p : Phase) → (clocked P p m c false).line ≡ false
unfolding clocked
machine_low P m c Idle = refl
machine_low P m c (Slave k b) = taking_low (place_at k) _ tt k b
machine_low P m c (AddressHigh k b) = taking_low (place_at k) _ tt k b
machine_low P m c (AddressLow h k b) = taking_low (place_at k) _ m k b
machine_low P m c (Pointer k b) = taking_low (place_at k) _ c k b
machine_low P m c (Write Memory k b) = taking_low (place_at k) _ m k b
machine_low P m c (Write Companion k b) = taking_low (place_at k) _ c k b
machine_low P m c (Read Memory k b) = giving_low (place_at k) _ m k b
machine_low P m c (Read Companion k b) = giving_low (place_at k) _ c k b

-- phases in which the line of a Clock is the master's
abbrev is_listening : Phase → Bool
is_listening Idle = true
is_listening (Slave k b) = ltb k 8
is_listening (AddressHigh k b) = false
is_listening (AddressLow h k b) = false
is_listening (Pointer k b) = false
is_listening (Write s k b) = false
is_listening (Read s k b) = false

beside_pulling : {p q : Phase} → Clear p q → is_listening p ≡ false → q ≡ Idle
beside_pulling this_idle e = absurd (false≢true (sym e))
beside_pulling that_idle e = refl
beside_pulling (both_called k b h) e = absurd (false≢true (sym (sym (lt-ltb k 8 h) ∙ e)))

-- before its acknowledge a slave byte's line is the master's
called_high : (R : Receiver (Unit {0})) (k b : ℕ) → ltb k 8 ≡ true → (received_at (place_at k) R tt k b true).line ≡ true
unfolding received_at place_at
called_high R k b h =
    by_cond (λ (z : Clocks). (received_at z R tt k b true).line ≡ true) (eqb k 0) (λ e. refl)
    (λ e. by_cond (λ (z : Clocks). (received_at z R tt k b true).line ≡ true) (ltb k 7) (λ f. refl)
    (λ f. by_cond (λ (z : Clocks). (received_at z R tt k b true).line ≡ true) (eqb k 7) (λ g. refl)
    (λ g.
    let l = ltb-true k 8 h in
    let q = ltb-false k 7 f in
    let d = eqb-false k 7 g in
    absurd (d (omega arith)))))

listening_high : (P : Parts) (m : P.Cells) (c : P.Desk) (p : Phase) → is_listening p ≡ true → (clocked P p m c true).line ≡ true
unfolding clocked
listening_high P m c Idle e = refl
listening_high P m c (Slave k b) e = called_high _ k b e
listening_high P m c (AddressHigh k b) e = absurd (false≢true e)
listening_high P m c (AddressLow h k b) e = absurd (false≢true e)
listening_high P m c (Pointer k b) e = absurd (false≢true e)
listening_high P m c (Write s k b) e = absurd (false≢true e)
listening_high P m c (Read s k b) e = absurd (false≢true e)

-- so a device that pulls is in none of them
device_high : (size select : ℕ) (u : Bus) (c : Counters) (m : List ℕ) (p : Power) → is_listening u.phase ≡ true
    → (after size select u c m p true).line ≡ true
unfolding event_on lined
device_high size select u c m On t =
    listening_high (part_of size (slave_names_for select) companion31) (lent m u.address) c u.phase t
device_high size select u c m Backup t = refl
device_high size select u c m Off t = refl

pulls_in_lem : (h : Held) → (done_in h 3).line ≡ false → is_listening (bus_in h).phase ≡ false
unfolding happening
pulls_in_lem h e =
    by_test (is_listening (bus_in h).phase)
    (λ t. absurd (false≢true (sym e ∙ device_high (size_in h) (select_in h) (bus_in h) (counters_in h) h.memory (bus_in h).power t)))
    (λ f. f)

-- with the master's line low the line is low
device_low : (size select : ℕ) (u : Bus) (c : Counters) (m : List ℕ) (p : Power) → (after size select u c m p false).line ≡ false
unfolding event_on lined
device_low size select u c m On = machine_low (part_of size (slave_names_for select) companion31) (lent m u.address) c u.phase
device_low size select u c m Backup = refl
device_low size select u c m Off = refl

module _ (t : Together) (v : Place) (unlike : Unlike t) (stands : Stands t) (here : Here t v) where
  abbrev line_of : Place → Bool
  line_of i = line_at t.set.count (number_of i) (at i t) 3

  -- the device at a place whose line is low is on the line, and pulls
  pulls_at_lem : (i : Place) → line_of i ≡ false → Here t i × ((done_in (at i t) 3).line ≡ false)
  unfolding own_byte
  pulls_at_lem i e =
      by_test (hears t.set.count (number_of i) 3)
      (λ h. (heard_here t.set.count (number_of i) 3 h, rw h at e)) (λ h. absurd (false≢true (sym (rw h at e))))

  -- whoever pulls, this device goes on as if it had heard the line
  found : (i : Place) → line_of i ≡ false → after_own (at v t) 3 ≡ after_own (at v t) 2
  found i e =
      let p = pulls_at_lem i e in
      by_test (same_place i v)
      (λ s. after_pulling (at v t) (subst (λ (j : Place). (done_in (at j t) 3).line ≡ false) (place_is i v s) p.1))
      (λ a. after_idle (at v t)
      (beside_pulling (calm_of t unlike stands i v p.0 here a).clear (pulls_in_lem (at i t) p.1)))

  goes_on : line_to t 3 ≡ false → after_own (at v t) 3 ≡ after_own (at v t) 2
  goes_on low =
      by_test (line_of first)
      (λ a. by_test (line_of second)
      (λ b. by_test (line_of third)
      (λ c. by_test (line_of fourth)
      (λ d. absurd (false≢true (sym low ∙ of_four (line_of first) (line_of second) (line_of third) (line_of fourth) a b c d)))
      (found fourth)) (found third)) (found second)) (found first)

  low_stays : line_to t 2 ≡ false
  unfolding happening
  low_stays =
      let h = at v t in
      line_is_low t 2 v (omega arith) (ltb-true (number_of v) t.set.count here)
      (device_low (size_in h) (select_in h) (bus_in h) (counters_in h) h.memory (bus_in h).power)

pub hears_the_line : HearsTheLine
hears_the_line t v true u s h =
    hears_all_events t v 3 (ltb-true (number_of v) t.set.count h) (omega arith)
    ∙ by_test (line_to t 3) (λ e. rw e refl) (λ e. rw e (goes_on t v u s h e))
hears_the_line t v false u s h =
    hears_all_events t v 2 (ltb-true (number_of v) t.set.count h) (omega arith)
    ∙ rw (low_stays t v u s h) refl
