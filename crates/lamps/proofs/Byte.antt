-- SPDX-License-Identifier: Apache-2.0
-- What the record keeps of the byte under way is what looking back over the history tells.
use Prim.Native.Nat.{ℕ, zero, suc, ◌+◌, ◌*◌, ◌%◌}
use mathlib.Core.Path.{◌≡◌, refl, sym, ap, ◌∙◌, subst}
use mathlib.Core.Bool.{Bool, true, false, cond, not, false≢true}
use mathlib.Core.List.{◌∷◌}
use native.Mathlib.Omega.{arith}
use native.Mathlib.Numerals.{add-one}
use lib.Dec.{eqb, ltb}
use lib.ListN.{take, drop}
use borrow.Author.Tests.{eqb-true, ne_eqb}
use Rattle.wire.specs.Bits.{Place, first, within, last, ack, place_at, pushed}
use Rattle.wire.specs.Slave.{opened, slave_names}
use Rattle.wire.specs.Clock.{Receiver, Sender, kept, received_at, more, sent_at}
use Rattle.wire.specs.Kinds.{slave_byte, high_byte, low_byte, memory_byte, memory_read, pointer_byte, companion_byte, companion_read}
use Rattle.wire.specs.Memory.{Cells, lent}
use Rattle.wire.specs.Machine.{start, stop, clock, clocked, lined}
use Rattle.wire.specs.declared.Side.TheVariants.{Memory, Companion}
use Rattle.wire.specs.declared.Named.{Named}
use Rattle.wire.specs.declared.Named.TheVariants.{Nobody, Reads, Writes}
use Rattle.wire.specs.declared.Phase.{Phase}
use Rattle.wire.specs.declared.Phase.TheVariants.{Idle, Slave, AddressHigh, AddressLow, Pointer, Write, Read}
use Rattle.wire.proofs.Tests.{by_test, and_split}
use Rattle.bus_limits.specs.Limits.{is_idle, power_within}
use Rattle.bus.specs.declared.Power.{Power}
use Rattle.bus.specs.declared.Power.TheVariants.{On, Backup, Off}
use Rattle.fm3130_companion.specs.declared.Companion as Part
use Rattle.fm3130.specs.Chip.{fm3130}
use Rattle.fm3130.specs.Event.{Happening, on_wire, beat, lost, gone, returned, happening, event_on}
use Rattle.fm3130.specs.Answer.{answer_byte, pin_shown}
use Rattle.fm3130.specs.declared.State.{State}
use Rattle.wire_clocks.specs.Clocks.{is_high}
use Rattle.lamps.specs.History.{Moment, History, happened, left}
use Rattle.lamps.specs.Log.{clocks_of, due_of, refused_by, refused_in, pulls, is_clock, clocks_in, byte_shown, gave_what, address_at, gave_at, ninth, mark_from, mark_of}
use Rattle.lamps.specs.Step.{following, at_rest, refusing, gathered_at, gathered, followed, pulls_of, clocks_by, due_by, mark_by}
use Rattle.lamps.specs.declared.Due.{Due}
use Rattle.lamps.specs.declared.Due.TheVariants.{Acknowledge}
use Rattle.lamps.specs.declared.Follower.{Follower}

no : {X : Type 0} → false ≡ true → X
no e = absurd (false≢true e)

-- of a byte from the memory with k clocks done: the last k Clocks
abbrev ReadingAt : ℕ → Follower → History → Type 0
ReadingAt zero f c = Unit {0}
ReadingAt (suc k) f c = (f.place ≡ address_at (drop k c)) × (f.byte ≡ byte_shown (take (suc k) c))

abbrev Reading : Phase → Follower → History → Type 0
Reading Idle f c = Unit {0}
Reading (Slave k b) f c = Unit {0}
Reading (AddressHigh k b) f c = Unit {0}
Reading (AddressLow h k b) f c = Unit {0}
Reading (Pointer k b) f c = Unit {0}
Reading (Write s k b) f c = Unit {0}
Reading (Read Companion k b) f c = Unit {0}
Reading (Read Memory k b) f c = ReadingAt k f c

pub record Follows (f : Follower) (s : State) (h : History) : Type 0 where
  pub refused : f.refused ≡ refused_in h
  pub reading : Reading s.phase f (clocks_in h)
  pub waiting : f.refused ≡ true → is_idle s.phase ≡ true
  pub awake : power_within s.power s.phase ≡ true

-- phases of which nothing is kept
abbrev Quiet : Phase → Type 0
Quiet p = (f : Follower) (c : History) → Reading p f c

opened_quiet : (n : Named) → Quiet (opened n)
unfolding opened
opened_quiet Nobody f c = tt
opened_quiet (Reads Memory) f c = tt
opened_quiet (Reads Companion) f c = tt
opened_quiet (Writes Memory) f c = tt
opened_quiet (Writes Companion) f c = tt

kept_quiet : (t : Bool) (p : Phase) → Quiet p → Quiet (kept t p)
unfolding kept
kept_quiet true p q = q
kept_quiet false p q = λ f c. tt

more_quiet : (t : Bool) (p : Phase) → Quiet p → Quiet (more t p)
unfolding more
more_quiet true p q = λ f c. tt
more_quiet false p q = q

module _ {A : Type 0} (a : A) (k b : ℕ) (d : Bool) where
  received_quiet : (w : Place) (R : Receiver A) → ((i j : ℕ) → Quiet (R.here i j)) → ((j : ℕ) → Quiet (R.after j))
      → Quiet (received_at w R a k b d).phase
  unfolding received_at
  received_quiet first R h g = h (k + 1) (pushed b d)
  received_quiet within R h g = h (k + 1) (pushed b d)
  received_quiet last R h g = kept_quiet (R.take a (pushed b d)).good (R.here 8 (pushed b d)) (h 8 (pushed b d))
  received_quiet ack R h g = g b

  sent_quiet : (w : Place) (S : Sender A) → ((i j : ℕ) → Quiet (S.here i j)) → Quiet (sent_at w S a k b d).phase
  unfolding sent_at
  sent_quiet first S h = h 1 (S.fetch a)
  sent_quiet within S h = h (k + 1) b
  sent_quiet last S h = h 8 b
  sent_quiet ack S h = more_quiet d (S.here 0 0) (h 0 0)

idle_quiet : (p : Phase) → is_idle p ≡ true → Quiet p
idle_quiet Idle e f c = tt
idle_quiet (Slave k b) e f c = no e
idle_quiet (AddressHigh k b) e f c = no e
idle_quiet (AddressLow h k b) e f c = no e
idle_quiet (Pointer k b) e f c = no e
idle_quiet (Write s k b) e f c = no e
idle_quiet (Read s k b) e f c = no e

-- one Clock more of a byte from the memory
module _ (x : Moment) (f : Follower) (c : History) (w : Bool) where
  abbrev Gathered : ℕ → ℕ → Type 0
  Gathered k n = ReadingAt n (gathered_at k f x.state.address w (left x).line) (x ∷ c)

  gather_more : (k : ℕ) → ReadingAt (suc k) f c → Gathered (suc k) (suc (suc k))
  gather_more k h =
      let z : eqb (suc k) 0 ≡ false = ne_eqb (suc k) 0 (λ q. omega arith) in
      rw z (h.0, ap (λ (n : ℕ). pushed n (left x).line) h.1)

  abbrev Sent : ℕ → ℕ → Cells → Bool → Place → Type 0
  Sent k b m d p =
      Reading (sent_at p (memory_read fm3130.fetch fm3130.step_on) m k b d).phase
      (gathered_at k f x.state.address w (left x).line) (x ∷ c)

  gather_sent : (k b : ℕ) (m : Cells) (d : Bool) → ReadingAt k f c → Sent k b m d (place_at k)
  unfolding sent_at place_at
  gather_sent zero b m d h = (refl, refl)
  gather_sent (suc k) b m d h =
      let z : eqb (suc k) 0 ≡ false = ne_eqb (suc k) 0 (λ q. omega arith) in
      let g = gather_more k h in
      let in-byte : Sent (suc k) b m d within = subst (λ (n : ℕ). Gathered (suc k) n) (sym (add-one (suc k))) g in
      let at_last_lem : suc k ≡ 7 → Sent (suc k) b m d last =
      λ e. let n : suc (suc k) ≡ 8 = omega arith in subst (λ (i : ℕ). Gathered (suc k) i) n g in
      let at_ack : Sent (suc k) b m d ack =
      more_quiet d (Read Memory 0 0) (λ f' c'. tt) (gathered_at (suc k) f x.state.address w (left x).line) (x ∷ c) in
      subst (λ (t : Bool). Sent (suc k) b m d (cond t first (cond (ltb (suc k) 7) within (cond (eqb (suc k) 7) last ack)))) (sym z)
      (by_test (ltb (suc k) 7)
      (λ q. subst (λ (t : Bool). Sent (suc k) b m d (cond t within (cond (eqb (suc k) 7) last ack))) (sym q) in-byte)
      (λ q. subst (λ (t : Bool). Sent (suc k) b m d (cond t within (cond (eqb (suc k) 7) last ack))) (sym q)
      (by_test (eqb (suc k) 7)
      (λ u. subst (λ (t : Bool). Sent (suc k) b m d (cond t last ack)) (sym u) (at_last_lem (eqb-true (suc k) 7 u)))
      (λ u. subst (λ (t : Bool). Sent (suc k) b m d (cond t last ack)) (sym u) at_ack))))

  -- a Clock, by phase
  clock_reading : (p : Phase) (m : Cells) (e : Part.Companion) (d : Bool) → Reading p f c
      → Reading (clocked fm3130 p m e d).state.phase (gathered p f x.state.address w (left x).line) (x ∷ c)
  unfolding clocked
  clock_reading Idle m e d h = tt
  clock_reading (Slave k b) m e d h =
      received_quiet tt k b d (place_at k) (slave_byte fm3130.names) (λ i j g z. tt) (λ j. opened_quiet (slave_names j)) (following w 0 0) (x ∷ c)
  clock_reading (AddressHigh k b) m e d h =
      received_quiet tt k b d (place_at k) high_byte (λ i j g z. tt) (λ j g z. tt) (following w 0 0) (x ∷ c)
  clock_reading (AddressLow u k b) m e d h =
      received_quiet m k b d (place_at k) (low_byte fm3130.point u) (λ i j g z. tt) (λ j g z. tt) (following w 0 0) (x ∷ c)
  clock_reading (Pointer k b) m e d h =
      received_quiet e k b d (place_at k) (pointer_byte fm3130.aim) (λ i j g z. tt) (λ j g z. tt) (following w 0 0) (x ∷ c)
  clock_reading (Write Memory k b) m e d h =
      received_quiet m k b d (place_at k) (memory_byte (fm3130.put (fm3130.guard e))) (λ i j g z. tt) (λ j g z. tt) (following w 0 0) (x ∷ c)
  clock_reading (Write Companion k b) m e d h =
      received_quiet e k b d (place_at k) (companion_byte fm3130.store) (λ i j g z. tt) (λ j g z. tt) (following w 0 0) (x ∷ c)
  clock_reading (Read Companion k b) m e d h =
      sent_quiet e k b d (place_at k) (companion_read fm3130.load fm3130.loaded) (λ i j g z. tt) (following w 0 0) (x ∷ c)
  clock_reading (Read Memory k b) m e d h = gather_sent k b m d h

-- an event, under each supply
module _ (x : Moment) (f : Follower) (c : History) (after : Phase) where
  abbrev s : State
  s = x.state

  abbrev Next : Power → Happening → Type 0
  Next p y =
      Reading (event_on p y s x.memory).state.phase (followed f y s after (left x).line)
      (cond (is_clock y) (x ∷ c) c)

  reading_next : (p : Power) (y : Happening) → power_within p s.phase ≡ true → Reading s.phase f c → Next p y
  unfolding event_on lined power_within
  reading_next On (on_wire start) a h = tt
  reading_next On (on_wire stop) a h = tt
  reading_next On (on_wire (clock d)) a h =
      clock_reading x f c (refusing s.phase after) s.phase (lent x.memory s.address) s.companion d h
  reading_next On (beat t') a h = h
  reading_next On lost a h = tt
  reading_next On gone a h = tt
  reading_next On returned a h = h
  reading_next Backup (on_wire start) a h = idle_quiet s.phase a at_rest c
  reading_next Backup (on_wire stop) a h = idle_quiet s.phase a at_rest c
  reading_next Backup (on_wire (clock d)) a h = idle_quiet s.phase a (followed f (on_wire (clock d)) s after (left x).line) (x ∷ c)
  reading_next Backup (beat t') a h = h
  reading_next Backup lost a h = idle_quiet s.phase a at_rest c
  reading_next Backup gone a h = tt
  reading_next Backup returned a h = h
  reading_next Off (on_wire start) a h = idle_quiet s.phase a at_rest c
  reading_next Off (on_wire stop) a h = idle_quiet s.phase a at_rest c
  reading_next Off (on_wire (clock d)) a h = idle_quiet s.phase a (followed f (on_wire (clock d)) s after (left x).line) (x ∷ c)
  reading_next Off (beat t') a h = h
  reading_next Off lost a h = idle_quiet s.phase a at_rest c
  reading_next Off gone a h = idle_quiet s.phase a at_rest c
  reading_next Off returned a h = h

  awake_next : (p : Power) (y : Happening) → s.power ≡ p → power_within p s.phase ≡ true
      → power_within (event_on p y s x.memory).state.power (event_on p y s x.memory).state.phase ≡ true
  unfolding event_on lined power_within
  awake_next On (on_wire y) q a = refl
  awake_next On (beat t') q a = rw q
  awake_next On lost q a = refl
  awake_next On gone q a = refl
  awake_next On returned q a = rw q
  awake_next Backup (on_wire y) q a = rw q a
  awake_next Backup (beat t') q a = rw q a
  awake_next Backup lost q a = rw q a
  awake_next Backup gone q a = refl
  awake_next Backup returned q a = refl
  awake_next Off (on_wire y) q a = rw q a
  awake_next Off (beat t') q a = rw q a
  awake_next Off lost q a = rw q a
  awake_next Off gone q a = rw q a
  awake_next Off returned q a = refl

  -- a refused byte leaves the device outside the transfer
  gathered_refused : (p : Phase) (a : ℕ) (w line : Bool) → (gathered p f a w line).refused ≡ w
  gathered_refused Idle a w line = refl
  gathered_refused (Slave k b) a w line = refl
  gathered_refused (AddressHigh k b) a w line = refl
  gathered_refused (AddressLow h k b) a w line = refl
  gathered_refused (Pointer k b) a w line = refl
  gathered_refused (Write z k b) a w line = refl
  gathered_refused (Read Companion k b) a w line = refl
  gathered_refused (Read Memory k b) a w line = by_test (eqb k 0) (λ q. rw q) (λ q. rw q)

  refused_next : (y : Happening) (line r : Bool) → f.refused ≡ r
      → (followed f y s after line).refused ≡ refused_by y (refusing s.phase after) r
  refused_next (on_wire start) line r e = refl
  refused_next (on_wire stop) line r e = refl
  refused_next (on_wire (clock d)) line r e = gathered_refused s.phase s.address (refusing s.phase after) line
  refused_next (beat t') line r e = e
  refused_next lost line r e = refl
  refused_next gone line r e = refl
  refused_next returned line r e = e

  abbrev Waits : Power → Happening → Type 0
  Waits p y =
      refused_by y (refusing s.phase (event_on p y s x.memory).state.phase) f.refused ≡ true
      → is_idle (event_on p y s x.memory).state.phase ≡ true

  waiting_next : (p : Power) (y : Happening) → (f.refused ≡ true → is_idle s.phase ≡ true) → Waits p y
  unfolding event_on lined
  waiting_next On (on_wire start) h = no
  waiting_next On (on_wire stop) h = no
  waiting_next On (on_wire (clock d)) h =
      λ e. (and_split (eqb (clocks_of s.phase) 7) (is_idle (event_on On (on_wire (clock d)) s x.memory).state.phase) e).1
  waiting_next On (beat t') h = h
  waiting_next On lost h = no
  waiting_next On gone h = no
  waiting_next On returned h = h
  waiting_next Backup (on_wire start) h = no
  waiting_next Backup (on_wire stop) h = no
  waiting_next Backup (on_wire (clock d)) h = λ e. (and_split (eqb (clocks_of s.phase) 7) (is_idle s.phase) e).1
  waiting_next Backup (beat t') h = h
  waiting_next Backup lost h = no
  waiting_next Backup gone h = no
  waiting_next Backup returned h = h
  waiting_next Off (on_wire start) h = no
  waiting_next Off (on_wire stop) h = no
  waiting_next Off (on_wire (clock d)) h = λ e. (and_split (eqb (clocks_of s.phase) 7) (is_idle s.phase) e).1
  waiting_next Off (beat t') h = h
  waiting_next Off lost h = no
  waiting_next Off gone h = no
  waiting_next Off returned h = h

-- the answer's bit 0 is the line
pub high_line : (s : State) (line : Bool) → is_high (answer_byte s line) ≡ line
high_line s true = let p = pin_shown s.power s.companion in let q : (2 * p + 1) % 2 ≡ 1 = omega arith in rw q
high_line s false = let p = pin_shown s.power s.companion in let q : (2 * p + 0) % 2 ≡ 0 = omega arith in rw q

pub follows_next : (f : Follower) (x : Moment) (h : History) → Follows f x.state h
    → Follows (followed f (happened x) x.state (left x).state.phase (left x).line) (left x).state (x ∷ h)
unfolding refused_in clocks_in
follows_next f x h g =
    let s = x.state in
    let after = (left x).state.phase in
    let r = refused_next x f (clocks_in h) after (happened x) (left x).line f.refused refl in
    record {
      refused = r ∙ ap (refused_by (happened x) (refusing s.phase after)) g.refused;
      reading = reading_next x f (clocks_in h) after s.power (happened x) g.awake g.reading;
      waiting = λ e. waiting_next x f (clocks_in h) after s.power (happened x) g.waiting (sym r ∙ e);
      awake = awake_next x f (clocks_in h) after s.power (happened x) refl g.awake;
    }

-- the device's own pull at a ninth clock that it has to acknowledge
pulled_at_lem : (p : Phase) (m : Cells) (e : Part.Companion) → eqb (clocks_of p) 8 ≡ true → due_of p ≡ Acknowledge
    → not (is_idle p) ≡ not (clocked fm3130 p m e true).line
unfolding clocked received_at place_at
pulled_at_lem Idle m e k q = no k
pulled_at_lem (Slave k b) m e t q = let n = eqb-true k 8 t in rw n
pulled_at_lem (AddressHigh k b) m e t q = let n = eqb-true k 8 t in rw n
pulled_at_lem (AddressLow h k b) m e t q = let n = eqb-true k 8 t in rw n
pulled_at_lem (Pointer k b) m e t q = let n = eqb-true k 8 t in rw n
pulled_at_lem (Write Memory k b) m e t q = let n = eqb-true k 8 t in rw n
pulled_at_lem (Write Companion k b) m e t q = let n = eqb-true k 8 t in rw n
pulled_at_lem (Read Memory k b) m e t q = absurd (let z : ◌≡◌ {A = ℕ} 0 1 = cc in omega arith)
pulled_at_lem (Read Companion k b) m e t q = absurd (let z : ◌≡◌ {A = ℕ} 0 1 = cc in omega arith)

module _ (x : Moment) where
  pulls_on : (p : Power) → eqb (clocks_of x.state.phase) 8 ≡ true → due_of x.state.phase ≡ Acknowledge
      → pulls_of p x.state.phase ≡ not (event_on p (on_wire (clock true)) x.state x.memory).line
  unfolding event_on lined
  pulls_on On t q = pulled_at_lem x.state.phase (lent x.memory x.state.address) x.state.companion t q
  pulls_on Backup t q = refl
  pulls_on Off t q = refl

  idle_clock : (p : Phase) (m : Cells) (e : Part.Companion) → is_idle p ≡ true
      → not (is_idle p) ≡ not (clocked fm3130 p m e true).line
  unfolding clocked
  idle_clock Idle m e q = refl
  idle_clock (Slave k b) m e q = no q
  idle_clock (AddressHigh k b) m e q = no q
  idle_clock (AddressLow h k b) m e q = no q
  idle_clock (Pointer k b) m e q = no q
  idle_clock (Write s k b) m e q = no q
  idle_clock (Read s k b) m e q = no q

  pub pulls_idle : (p : Power) → is_idle x.state.phase ≡ true
      → pulls_of p x.state.phase ≡ not (event_on p (on_wire (clock true)) x.state x.memory).line
  unfolding event_on lined
  pulls_idle On q = idle_clock x.state.phase (lent x.memory x.state.address) x.state.companion q
  pulls_idle Backup q = refl
  pulls_idle Off q = refl

pub three : happening 3 ≡ on_wire (clock true)
unfolding happening
three = refl

-- the ninth clock of a byte that was not refused
ninth_same : (p : Phase) (f : Follower) (h : History) (u v : Bool) → eqb (clocks_of p) 8 ≡ true
    → (due_of p ≡ Acknowledge → u ≡ v) → Reading p f (clocks_in h)
    → ninth (due_of p) u f.place f.byte ≡ ninth (due_of p) v (gave_at h) (gave_what h)
ninth_same Idle f h u v t q r = rw (q refl)
ninth_same (Slave k b) f h u v t q r = rw (q refl)
ninth_same (AddressHigh k b) f h u v t q r = rw (q refl)
ninth_same (AddressLow l k b) f h u v t q r = rw (q refl)
ninth_same (Pointer k b) f h u v t q r = rw (q refl)
ninth_same (Write s k b) f h u v t q r = rw (q refl)
ninth_same (Read Companion k b) f h u v t q r = refl
ninth_same (Read Memory k b) f h u v t q r =
    let n = eqb-true k 8 t in
    let g : ReadingAt 8 f (clocks_in h) = subst (λ (i : ℕ). ReadingAt i f (clocks_in h)) n r in
    rw (g.0, g.1)

-- a line of the log, from what is kept and from the history
mark_at : (y : Happening) (k : ℕ) (d : Due) (u v : Bool) (a b i j : ℕ)
    → (eqb k 8 ≡ true → ninth d u a b ≡ ninth d v i j) → mark_from y k d u a b ≡ mark_from y k d v i j
mark_at (on_wire start) k d u v a b i j e = refl
mark_at (on_wire stop) k d u v a b i j e = refl
mark_at (on_wire (clock z)) k d u v a b i j e = by_test (eqb k 8) (λ q. rw q (e q)) (λ q. rw q)
mark_at (beat t') k d u v a b i j e = refl
mark_at lost k d u v a b i j e = refl
mark_at gone k d u v a b i j e = refl
mark_at returned k d u v a b i j e = refl

pub mark_same : (f : Follower) (x : Moment) (h : History) → Follows f x.state h
    → mark_by f x.state x.event ≡ mark_of x h
mark_same f x h g =
    let s = x.state in
    rw (← g.refused)
    (mark_at (happened x) (clocks_by f s.phase) (due_by f s.phase) (pulls_of s.power s.phase) (pulls x)
    f.place f.byte (gave_at h) (gave_what h)
    (by_test f.refused
    (λ q. let same : pulls_of s.power s.phase ≡ pulls x = rw three (pulls_idle x s.power (g.waiting q)) in
    rw (q, same) (λ e. refl))
    (λ q. rw q
    (λ e. ninth_same s.phase f h (pulls_of s.power s.phase) (pulls x) e
    (λ d. rw three (pulls_on x s.power e d)) g.reading))))
