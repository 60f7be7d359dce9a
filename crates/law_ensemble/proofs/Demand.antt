-- SPDX-License-Identifier: Apache-2.0
-- Demand 3 of each device of a set, from that of devices on a wire (`law_wired`). A powered device's event is its
-- machine's event (`own_event`), by computation; so a set does what the wire does (`set_run`, `set_lines`).
use Prim.Native.Nat.{ℕ, ◌+◌, ◌*◌}
use mathlib.Core.Path.{◌≡◌, refl, sym, ap, subst, ◌∙◌}
use mathlib.Core.Bool.{Bool, true, false, cond, ◌&&◌}
use mathlib.Core.List.{List, [], ◌∷◌}
use lib.Dec.{ltb}
use Rattle.wire.specs.Slave.{answers}
use Rattle.wire.specs.Memory.{lent}
use Rattle.wire.specs.Machine.{Line, Event, line, tick, State, step}
use Rattle.wire.specs.declared.Side.{Side}
use Rattle.wire.specs.declared.Named.{Named}
use Rattle.wire.specs.declared.Named.TheVariants.{Nobody, Reads, Writes}
use Rattle.fm31_counters.specs.Part.{guard_of}
use Rattle.bus.specs.Select.{slave_names_for}
use Rattle.bus.specs.Happening.{happening, beat}
use Rattle.bus.specs.Event.{Done, done_of, event_on}
use Rattle.bus.specs.declared.Beat.{Beat}
use Rattle.bus.specs.declared.Beat.TheVariants.{Second, Cnt1, Cnt2}
use Rattle.bus.specs.declared.Power.{Power}
use Rattle.bus.specs.declared.Power.TheVariants.{On, Backup, Off}
use Rattle.fm31.specs.Chip.{companion31}
use Rattle.law_parts.specs.Events.{beat_byte}
use Rattle.law_larger.proofs.Demand3.{only_writes}
use Rattle.fm31.specs.Step.{state_of}
use Rattle.law_merging.specs.Party.{to, foreign, MayName, is_memory, is_companion}
use Rattle.law_merging.specs.Apart.{run, answers_of}
use Rattle.law_merging.specs.Demand.{IfWritten, WritesSteady}
use Rattle.law_wired.specs.Wire.{Heard, nothing, this, told, Bench, Lawful, Word, says, ticks}
use Rattle.law_wired.specs.Wire.{Devices, step_wire, run_wire, line_by, wire_line, wire_lines, picked_for, memory_list}
use Rattle.law_wired.specs.Wire.{companion_list, heard_list, OnWire}
use Rattle.law_wired.specs.Wire as wire
use Rattle.law_wired.proofs.Wire.{on_wire_lem, steady_heard, not_true}
use Rattle.set_event.specs.Set.{Held, held, Together, Place, first, second, third, fourth, number_of, at, size_in}
use Rattle.set_event.specs.Set.{select_in, hears, own_byte, done_in, after_own, after_at, line_at, after_event, line_to}
use Rattle.set_event.specs.Set.{after_events, lines_to}
use Rattle.law_ensemble.specs.Alone.{alone, alone_lines, counters_in}
use Rattle.law_ensemble.specs.Transaction.{line_byte, same_place, Unlike}
use Rattle.law_ensemble.specs.Demand.{Told, Device, Tock, second_passed, edge_one, edge_two, only_if, hear_at}
use Rattle.law_ensemble.specs.Demand.{tock_byte, among, all_of, part_at, bench}
use Rattle.law_ensemble.specs.Demand.{word_byte, word_bytes, own_byte_of, own_bytes, WritesSteadyIn}
use Rattle.law_ensemble.specs.Demand.{DemandThree, DemandThreeMerged}
use Rattle.law_set.proofs.Heard.{at_after}
use Rattle.law_ensemble.proofs.Transaction.{other_names, line_event, after_here, line_here}
use Rattle.law_ensemble.proofs.Transaction.{line_away, low_one, low_two, low_three, low_four}

-- devices on the line
told_true : (b : Bool) → Told b → b ≡ true
told_true true h = refl
told_true false h = absurd h

told_prop : (b : Bool) (x y : Told b) → x ≡ y
told_prop true x y = refl
told_prop false x y = absurd x

abbrev dev : (n : ℕ) (p : Place) → Told (ltb (number_of p) n) → Device n
dev n p h = record { place = p; here = h }

device_is : (n : ℕ) (p q : Place) (h : Told (ltb (number_of p) n)) (k : Told (ltb (number_of q) n)) → same_place p q ≡
    true
    → dev n p h ≡ dev n q k
device_is n first first h k e = λ i. record { place = first; here = told_prop (ltb 0 n) h k i }
device_is n first second h k e = not_true e
device_is n first third h k e = not_true e
device_is n first fourth h k e = not_true e
device_is n second first h k e = not_true e
device_is n second second h k e = λ i. record { place = second; here = told_prop (ltb 1 n) h k i }
device_is n second third h k e = not_true e
device_is n second fourth h k e = not_true e
device_is n third first h k e = not_true e
device_is n third second h k e = not_true e
device_is n third third h k e = λ i. record { place = third; here = told_prop (ltb 2 n) h k i }
device_is n third fourth h k e = not_true e
device_is n fourth first h k e = not_true e
device_is n fourth second h k e = not_true e
device_is n fourth third h k e = not_true e
device_is n fourth fourth h k e = λ i. record { place = fourth; here = told_prop (ltb 3 n) h k i }

pub named_answers : (x : Side) (n : Named) → MayName (to x) n → answers n ≡ true
unfolding answers
named_answers x Nobody h = absurd h
named_answers x (Reads s) h = refl
named_answers x (Writes s) h = refl

among_high : (b : Bool) (g : Told b → Bool) → ((x : Told b) → g x ≡ true) → among b g ≡ true
among_high true g h = h tt
among_high false g h = refl

among_low : (b : Bool) (g : Told b → Bool) (x : Told b) → g x ≡ false → among b g ≡ false
among_low true g x e = e
among_low false g x e = absurd x

among_is : (b : Bool) (g : Told b → Bool) (y : Bool) → (b ≡ true → (x : Told b) → y ≡ g x) → (b ≡ false → y ≡ true)
    → y ≡ among b g
among_is true g y h a = h refl tt
among_is false g y h a = a refl

module _ (n : ℕ) (f : Device n → Bool) where
  abbrev at_place : Place → Bool
  at_place p = among (ltb (number_of p) n) (λ h. f (dev n p h))

  all_of_high : ((v : Device n) → f v ≡ true) → all_of n f ≡ true
  all_of_high h =
      rw (
        among_high (ltb 0 n) (λ k. f (dev n first k)) (λ k. h (dev n first k)),
        among_high (ltb 1 n) (λ k. f (dev
            n second k)) (λ k. h (dev n second k)),
        among_high (ltb 2 n) (λ k. f (dev n third k)) (λ k. h (dev n third
            k)),
        among_high (ltb 3 n) (λ k. f (dev n fourth k)) (λ k. h (dev n fourth k)),
      )

  all_of_low : (p : Place) (h : Told (ltb (number_of p) n)) → f (dev n p h) ≡ false → all_of n f ≡ false
  all_of_low first h e = low_one (at_place first) (at_place second) (at_place third) (at_place fourth) (among_low
      (ltb 0 n) (λ k. f (dev n first k)) h e)
  all_of_low second h e = low_two (at_place first) (at_place second) (at_place third) (at_place fourth) (among_low
      (ltb 1 n) (λ k. f (dev n second k)) h e)
  all_of_low third h e = low_three (at_place first) (at_place second) (at_place third) (at_place fourth) (among_low
      (ltb 2 n) (λ k. f (dev n third k)) h e)
  all_of_low fourth h e = low_four (at_place first) (at_place second) (at_place third) (at_place fourth) (among_low
      (ltb 3 n) (λ k. f (dev n fourth k)) h e)

pub lawful : (t : Together) → Unlike t → Lawful (bench t)
lawful t u =
    let n = t.set.count in
    record {
      same_is = λ v w e. device_is n v.place w.place v.here w.here e;
      unlike =
          λ v w x b d h. subst (λ (z : Named). MayName foreign z)
          (sym (other_names (select_in (at v.place t)) (select_in (at w.place t)) b
          (u v.place w.place (told_true (ltb (number_of v.place) n) v.here) (told_true (ltb (number_of
          w.place) n) w.here) d)
          (named_answers x (slave_names_for (select_in (at v.place t)) b) h)))
          tt;
      all_high = λ f h. all_of_high n f h;
      one_low = λ f v e. all_of_low n f v.place v.here e;
    }

-- ticks and edges on one device of a set
edge_heard_one : (n : ℕ) (p w : Place) → hears n (number_of p) (8 + 2 * number_of w) ≡ (ltb (number_of p) n &&
    same_place w p)
unfolding hears
edge_heard_one n first first = refl
edge_heard_one n first second = refl
edge_heard_one n first third = refl
edge_heard_one n first fourth = refl
edge_heard_one n second first = refl
edge_heard_one n second second = refl
edge_heard_one n second third = refl
edge_heard_one n second fourth = refl
edge_heard_one n third first = refl
edge_heard_one n third second = refl
edge_heard_one n third third = refl
edge_heard_one n third fourth = refl
edge_heard_one n fourth first = refl
edge_heard_one n fourth second = refl
edge_heard_one n fourth third = refl
edge_heard_one n fourth fourth = refl

edge_heard_two : (n : ℕ) (p w : Place) → hears n (number_of p) (9 + 2 * number_of w) ≡ (ltb (number_of p) n &&
    same_place w p)
unfolding hears
edge_heard_two n first first = refl
edge_heard_two n first second = refl
edge_heard_two n first third = refl
edge_heard_two n first fourth = refl
edge_heard_two n second first = refl
edge_heard_two n second second = refl
edge_heard_two n second third = refl
edge_heard_two n second fourth = refl
edge_heard_two n third first = refl
edge_heard_two n third second = refl
edge_heard_two n third third = refl
edge_heard_two n third fourth = refl
edge_heard_two n fourth first = refl
edge_heard_two n fourth second = refl
edge_heard_two n fourth third = refl
edge_heard_two n fourth fourth = refl

edge_own_one : (w : Place) → own_byte (8 + 2 * number_of w) ≡ 8
unfolding own_byte
edge_own_one first = refl
edge_own_one second = refl
edge_own_one third = refl
edge_own_one fourth = refl

edge_own_two : (w : Place) → own_byte (9 + 2 * number_of w) ≡ 9
unfolding own_byte
edge_own_two first = refl
edge_own_two second = refl
edge_own_two third = refl
edge_own_two fourth = refl

second_heard : (n v : ℕ) → hears n v 4 ≡ (ltb v n && true)
unfolding hears
second_heard n v = refl

second_own : own_byte 4 ≡ 4
unfolding own_byte
second_own = refl

-- what a device makes of what it hears
abbrev told_to : Held → Heard Beat → Held
told_to h nothing = h
told_to h (this b) = after_own h (beat_byte b)

only_if_lem : (b : Bool) (h : Held) (t : Beat) → cond b (after_own h (beat_byte t)) h ≡ told_to h (only_if b t)
only_if_lem true h t = refl
only_if_lem false h t = refl

tock_after : (n : ℕ) (p : Place) (h : Held) (t : Tock) → ltb (number_of p) n ≡ true
    → after_at n (number_of p) h (tock_byte t) ≡ told_to h (hear_at p t)
tock_after n p h second_passed e = rw (second_heard n (number_of p), e, second_own) refl
tock_after n p h (edge_one w) e = rw (edge_heard_one n p w, e, edge_own_one w) (only_if_lem (same_place w p) h Cnt1)
tock_after n p h (edge_two w) e = rw (edge_heard_two n p w, e, edge_own_two w) (only_if_lem (same_place w p) h Cnt2)

-- a tick or edge leaves the line high, under any supply
on_beat : (h : Held) (t : Beat) (w : Power)
    → (event_on (size_in h) (slave_names_for (select_in h)) companion31 w (beat t) h.member.state.bus
    h.member.state.counters
    h.memory).line ≡ true
unfolding event_on
on_beat h t On = refl
on_beat h t Backup = refl
on_beat h t Off = refl

beat_line : (h : Held) (t : Beat) → (done_in h (beat_byte t)).line ≡ true
unfolding happening
beat_line h Second = on_beat h Second h.member.state.bus.power
beat_line h Cnt1 = on_beat h Cnt1 h.member.state.bus.power
beat_line h Cnt2 = on_beat h Cnt2 h.member.state.bus.power

cond_high : (b : Bool) (d : Bool) → d ≡ true → cond b d true ≡ true
cond_high true d e = e
cond_high false d e = refl

tock_line : (n v : ℕ) (h : Held) (t : Tock) → line_at n v h (tock_byte t) ≡ true
tock_line n v h second_passed = cond_high (hears n v 4) _ (ap (λ (e : ℕ). (done_in h e).line) second_own ∙ beat_line h
    Second)
tock_line n v h (edge_one w) = cond_high (hears n v (8 + 2 * number_of w)) _ (ap (λ (e : ℕ). (done_in h e).line)
    (edge_own_one w) ∙ beat_line h Cnt1)
tock_line n v h (edge_two w) = cond_high (hears n v (9 + 2 * number_of w)) _ (ap (λ (e : ℕ). (done_in h e).line)
    (edge_own_two w) ∙ beat_line h Cnt2)

module _ (t₀ : Together) where
  abbrev n : ℕ
  n = t₀.set.count

  abbrev B : Bench
  B = bench t₀

  abbrev S : Place → Type 0
  S p = State (part_at t₀ p)

  -- the powered device at a place, of its machine's state
  abbrev held_m : (p : Place) → S p → Held
  held_m p u =
      held
      (record {
        size = (at p t₀).member.size;
        select = (at p t₀).member.select;
        state = record {
          bus = record { power = On; phase = u.phase; address = u.memory.address };
          counters =
              u.companion;
        };
      })
      u.memory.bytes

  own_event : (p : Place) (u : S p) (e : Event Beat)
      → done_in (held_m p u) (own_byte_of e) ≡ done_of (size_in (at p t₀)) (slave_names_for (select_in (at p t₀))) companion31
      (step (part_at
      t₀ p) u e)
  unfolding happening event_on
  own_event p u (line x) = line_event (size_in (at p t₀)) (slave_names_for (select_in (at p t₀))) companion31 u.phase u.memory.address u.companion u.memory.bytes x
  own_event p u (tick Second) = refl
  own_event p u (tick Cnt1) = refl
  own_event p u (tick Cnt2) = refl

  abbrev left_m : (p : Place) → Done (size_in (at p t₀)) (slave_names_for (select_in (at p t₀))) companion31 → Held
  left_m p d = held (record { size = (at p t₀).member.size; select = (at p t₀).member.select; state = state_of d })
      d.memory

  own_after : (p : Place) (u : S p) (e : Event Beat) → after_own (held_m p u) (own_byte_of e) ≡ held_m p (step (part_at t₀
      p) u e).state
  own_after p u e = ap (left_m p) (own_event p u e)

  own_line : (p : Place) (u : S p) (e : Event Beat) → (done_in (held_m p u) (own_byte_of e)).line ≡ (step (part_at t₀ p) u
      e).line
  own_line p u e = ap (λ d. d.line) (own_event p u e)

  alone_run : (p : Place) (u : S p) (es : List (Event Beat)) → alone (held_m p u) (own_bytes es) ≡ held_m p (run
      (part_at t₀ p) u es)
  alone_run p u [] = refl
  alone_run p u (e ∷ es) = ap (λ (h : Held). alone h (own_bytes es)) (own_after p u e) ∙ alone_run p (step (part_at t₀
      p) u e).state es

  alone_lines_lem : (p : Place) (u : S p) (es : List (Event Beat))
      → alone_lines (held_m p u) (own_bytes es) ≡ answers_of (part_at t₀ p) (λ a. a.line) u es
  alone_lines_lem p u [] = refl
  alone_lines_lem p u (e ∷ es) =
      let this = own_line p u e in
      let rest = ap (λ (h : Held). alone_lines h (own_bytes es)) (own_after p u e) ∙ alone_lines_lem p (step (part_at t₀ p)
      u e).state es in
      λ i. this i ∷ rest i

  steady_is : (p : Place) (u : S p) (es : List (Event Beat)) → WritesSteadyIn (held_m p u) es → WritesSteady (part_at
      t₀ p) u es
  steady_is p u [] h = tt
  steady_is p u (e ∷ es) h =
      let k = own_after p u e in (
        subst (λ (z : Held). IfWritten u.phase e (guard_of (counters_in z) ≡ guard_of u.companion)) k h.0,
        steady_is p (step (part_at t₀ p) u e).state es (subst (λ (z : Held). WritesSteadyIn z es) k h.1),
      )

  steady_back : (p : Place) (u : S p) (es : List (Event Beat)) → WritesSteady (part_at t₀ p) u es
      → WritesSteadyIn (held_m p u) es
  steady_back p u [] h = tt
  steady_back p u (e ∷ es) h =
      let k = sym (own_after p u e) in (
        subst (λ (z : Held). IfWritten u.phase e (guard_of (counters_in z) ≡ guard_of u.companion)) k h.0,
        subst (λ (z : Held). WritesSteadyIn z es) k (steady_back p (step (part_at t₀ p) u e).state es h.1),
      )

  told_is : (p : Place) (u : S p) (z : Heard Beat) → told_to (held_m p u) z ≡ held_m p (run (part_at t₀ p) u (told z))
  told_is p u nothing = refl
  told_is p u (this b) = own_after p u (tick b)

  -- the set and the wire
  record Alike (t : Together) (s : Devices B) : Type 0 where
    count : t.set.count ≡ n
    each : (v : Device n) → at v.place t ≡ held_m v.place (s v)

  here : (v : Device n) → ltb (number_of v.place) n ≡ true
  here v = told_true (ltb (number_of v.place) n) v.here

  after_alike : (s : Devices B) (w : Word (Device n) Tock) (v : Device n)
      → after_at n (number_of v.place) (held_m v.place (s v)) (word_byte w) ≡ held_m v.place (step_wire B s w v)
  after_alike s (says a x) v =
      after_here n (number_of v.place) (held_m v.place (s v)) x (here v) ∙ own_after v.place (s v) (line x)
  after_alike s (ticks t) v =
      tock_after n v.place (held_m v.place (s v)) t (here v) ∙ told_is v.place (s v) (hear_at v.place t)

  alike_next : (t : Together) (s : Devices B) (w : Word (Device n) Tock) → Alike t s → Alike (after_event t (word_byte
      w)) (step_wire B s w)
  alike_next t s w k =
      record {
        count = k.count;
        each =
            λ v. at_after t v.place (word_byte w)
            ∙ (ap (λ (m : ℕ). after_at m (number_of v.place) (at v.place t) (word_byte w)) k.count
            ∙ (ap (λ (h : Held). after_at n (number_of v.place) h (word_byte w)) (k.each v) ∙ after_alike s w v));
      }

  place_line : (t : Together) (s : Devices B) (x : Line) → Alike t s → (p : Place)
      → line_at n (number_of p) (at p t) (line_byte x) ≡ among (ltb (number_of p) n) (λ h. line_by B s x (dev n p h))
  place_line t s x k p =
      among_is (ltb (number_of p) n) (λ h. line_by B s x (dev n p h)) _
      (λ e h. line_here n (number_of p) (at p t) x e
      ∙ (ap (λ (z : Held). (done_in z (line_byte x)).line) (k.each (dev n p h)) ∙ own_line p (s (dev n p h)) (line
      x)))
      (λ e. line_away n (number_of p) (at p t) x e)

  and_alike : (a b c d a' b' c' d' : Bool) → a ≡ a' → b ≡ b' → c ≡ c' → d ≡ d'
      → (a && (b && (c && d))) ≡ (a' && (b' && (c' && d')))
  and_alike a b c d a' b' c' d' p q r s = λ i. p i && (q i && (r i && s i))

  line_alike : (t : Together) (s : Devices B) (w : Word (Device n) Tock) → Alike t s → line_to t (word_byte w) ≡
      wire_line B s w
  line_alike t s (says a x) k =
      ap (λ (m : ℕ). line_at m 0 (at first t) (line_byte x) && (line_at m 1 (at second t) (line_byte x) && (line_at m 2
      (at third t) (line_byte x) && line_at m 3 (at fourth t) (line_byte x)))) k.count
      ∙ and_alike _ _ _ _ _ _ _ _ (place_line t s x k first) (place_line t s x k second) (place_line t s x k third)
      (place_line t s x k fourth)
  line_alike t s (ticks z) k =
      let m = t.set.count in
      rw (
        tock_line m 0 (at first t) z,
        tock_line m 1 (at second t) z,
        tock_line m 2 (at third t) z,
        tock_line m 3
            (at fourth t) z,
      ) refl

  set_run : (t : Together) (s : Devices B) (l : List (Word (Device n) Tock)) → Alike t s → (v : Device n)
      → at v.place (after_events t (word_bytes l)) ≡ held_m v.place (run_wire B s l v)
  set_run t s [] k v = k.each v
  set_run t s (w ∷ l) k v = set_run (after_event t (word_byte w)) (step_wire B s w) l (alike_next t s w k) v

  set_lines : (t : Together) (s : Devices B) (l : List (Word (Device n) Tock)) → Alike t s → lines_to t (word_bytes l)
      ≡ wire_lines B s l
  set_lines t s [] k = refl
  set_lines t s (w ∷ l) k =
      let this = line_alike t s w k in
      let rest = set_lines (after_event t (word_byte w)) (step_wire B s w) l (alike_next t s w k) in
      λ i. this i ∷ rest i

  machine_at : (p : Place) → S p
  machine_at p =
      record {
        phase = (at p t₀).member.state.bus.phase;
        memory = lent (at p t₀).memory (at p t₀).member.state.bus.address;
        companion = (at p t₀).member.state.counters;
      }

  powered_is : (p : Place) → (at p t₀).member.state.bus.power ≡ On → at p t₀ ≡ held_m p (machine_at p)
  unfolding machine_at
  powered_is p e =
      λ i. held
      (record {
        size = (at p t₀).member.size;
        select = (at p t₀).member.select;
        state = record {
          bus = record {
            power = e i;
            phase = (at p t₀).member.state.bus.phase;
            address = (at p t₀).member.state.bus.address;
          };
          counters = (at p t₀).member.state.counters;
        };
      })
      (at p t₀).memory

pub demand_three : DemandThree
unfolding machine_at
demand_three t v a l on b u w steady =
    let n = t.set.count in
    let p = v.place in
    let s : Devices (bench t) = λ x. machine_at t x.place in
    let each : (x : Device n) → at x.place t ≡ held_m t x.place (machine_at t x.place) = λ x. powered_is t
    x.place (on x) in
    let k : Alike t t s = record { count = refl; each = each } in
    let xs = memory_list (bench t) v l in
    let ys = companion_list (bench t) v l in
    let o : OnWire (bench t) v s l =
    on_wire_lem (bench t) (lawful t u) v (only_writes (size_in (at p t)) (select_in (at p t))) a s l
    (λ x. b x.place (told_true (ltb (number_of x.place) n) x.here)) w
    (steady_is t p (machine_at t p) ys (subst (λ (z : Held). WritesSteadyIn z ys) (each v) steady)) in
    let r = set_run t t s l k v in
    let c = set_lines t t s l k in
    let x : alone (at p t) (own_bytes xs) ≡ held_m t p (run (part_at t p) (machine_at t p) xs) =
    ap (λ (h : Held). alone h (own_bytes xs)) (each v) ∙ alone_run t p (machine_at t p) xs in
    let y : alone (at p t) (own_bytes ys) ≡ held_m t p (run (part_at t p) (machine_at t p) ys) =
    ap (λ (h : Held). alone h (own_bytes ys)) (each v) ∙ alone_run t p (machine_at t p) ys in
    let xl = ap (λ (h : Held). alone_lines h (own_bytes xs)) (each v) ∙ alone_lines_lem t p (machine_at t p) xs in
    let yl = ap (λ (h : Held). alone_lines h (own_bytes ys)) (each v) ∙ alone_lines_lem t p (machine_at t p) ys in
    record {
      memory = ap (λ (h : Held). h.memory) r ∙ (ap (λ m. m.bytes) o.memory ∙ sym (ap (λ (h : Held). h.memory)
          x));
      memory_address =
          ap (λ (h : Held). h.member.state.bus.address) r
          ∙ (ap (λ m. m.address) o.memory ∙ sym (ap (λ (h : Held). h.member.state.bus.address) x));
      memory_lines = ap (picked_for (bench t) v is_memory l) c ∙ (o.memory_lines ∙ sym xl);
      companion = ap counters_in r ∙ (o.companion ∙ sym (ap counters_in y));
      companion_lines = ap (picked_for (bench t) v is_companion l) c ∙ (o.companion_lines ∙ sym yl);
    }

pub demand_three_merged : DemandThreeMerged
unfolding machine_at
demand_three_merged t v a l on b u w steady =
    let n = t.set.count in
    let p = v.place in
    let s : Devices (bench t) = λ x. machine_at t x.place in
    let e = powered_is t p (on v) in
    let ys = companion_list (bench t) v l in
    let all = heard_list (bench t) v l in
    let k : WritesSteadyIn (held_m t p (machine_at t p)) ys =
    steady_back t p (machine_at t p) ys
    (steady_heard (bench t) (lawful t u) v (only_writes (size_in (at p t)) (select_in (at p t))) a s l
    (λ x. b x.place (told_true (ltb (number_of x.place) n) x.here)) w
    (steady_is t p (machine_at t p) all (subst (λ (z : Held). WritesSteadyIn z all) e steady))) in
    demand_three t v a l on b u w (subst (λ (z : Held). WritesSteadyIn z ys) (sym e) k)
