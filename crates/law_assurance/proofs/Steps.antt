-- SPDX-License-Identifier: Apache-2.0
-- One event on two devices that are near: of the master, on both; of the other, on the first; a tick or a power event, on
-- both.
use Prim.Native.Nat.{ℕ}
use mathlib.Core.Path.{◌≡◌, refl, sym, ap, subst, ◌∙◌}
use mathlib.Core.Bool.{Bool, true, false, true≢false, false≢true}
use mathlib.Core.List.{List}
use lib.Dec.{leb}
use borrow.Author.Tests.{leb-true}
use Rattle.bits.specs.Weight.{has}
use Rattle.wire.specs.Memory.{Cells, lent}
use Rattle.wire.specs.Machine.{Line, start, stop, clock, clocked, lined}
use Rattle.wire.specs.declared.Side.TheVariants.{Memory, Companion}
use Rattle.wire.specs.declared.Phase.{Phase}
use Rattle.wire.specs.declared.Phase.TheVariants.{Idle, Slave, AddressHigh, AddressLow, Pointer, Write, Read}
use Rattle.wire.proofs.Tests.{by_test}
use Rattle.bus_limits.specs.Limits.{is_idle, power_within}
use Rattle.bus.specs.declared.Power.{Power}
use Rattle.bus.specs.declared.Power.TheVariants.{On, Backup, Off}
use Rattle.fm3130_registers.specs.Map.{OSCEN}
use Rattle.fm3130_companion.specs.Change.{with_address}
use Rattle.fm3130_companion.specs.Part.{tick_of, returned_of}
use Rattle.fm3130_companion.specs.declared.Companion.{Companion as Desk}
use Rattle.fm3130.specs.Chip.{fm3130}
use Rattle.fm3130.specs.Event.{Happening, on_wire, beat, lost, gone, returned, happening, event_on, event_of}
use Rattle.fm3130.specs.declared.State.{State}
use Rattle.masters_hold.specs.Bus.{is_bus, freed_by}
use Rattle.law_assurance.specs.Same.{ninth_of, marked, ReadSet, Harmless}
use Rattle.law_assurance.proofs.Near.{Near, Phases, equal, Placed, weaken}
use Rattle.law_assurance.proofs.Mine.{clock_met}
use Rattle.law_assurance.proofs.Theirs.{clock_far}

-- a state's memory
abbrev pub cells_of : State → List ℕ → Cells
cells_of s m = lent m s.address

pub record Alike (A : ℕ → Bool) (t : Bool) (h : State) (m : List ℕ) (r : State) (n : List ℕ) : Type 0 where
  pub power : h.power ≡ r.power
  pub near : Near A t (cells_of h m) h.companion (cells_of r n) r.companion
  pub dark : power_within h.power h.phase ≡ true
  pub dark₂ : power_within r.power r.phase ≡ true

abbrev pub PlacedAt : State → List ℕ → State → List ℕ → Type 0
PlacedAt h m r n = Placed h.phase (cells_of h m) h.companion (cells_of r n) r.companion

pub record Together (A : ℕ → Bool) (t : Bool) (h : State) (m : List ℕ) (r : State) (n : List ℕ) : Type 0 where
  pub alike : Alike A t h m r n
  pub phases : Phases h.phase r.phase
  pub placed : PlacedAt h m r n

pub record Apart (A : ℕ → Bool) (h : State) (m : List ℕ) (r : State) (n : List ℕ) : Type 0 where
  pub alike : Alike A false h m r n
  pub rest : r.phase ≡ Idle

-- what a tick or a power event does to both
record Both (A : ℕ → Bool) (t : Bool) (h : State) (m : List ℕ) (r : State) (n : List ℕ)
    (h' : State) (m' : List ℕ) (r' : State) (n' : List ℕ) : Type 0 where
  alike : Alike A t h' m' r' n'
  phases : Phases h.phase r.phase → Phases h'.phase r'.phase
  placed : PlacedAt h m r n → PlacedAt h' m' r' n'
  rest : r.phase ≡ Idle → r'.phase ≡ Idle

-- the companion by itself
tick_registers : (e : Desk) (x : ℕ) → (tick_of (with_address e x)).registers ≡ (tick_of e).registers
unfolding tick_of
tick_registers e x = by_test (has e.registers.trim OSCEN) (λ q. rw q refl) (λ q. rw q refl)

tick_core : (e : Desk) (x : ℕ) → (tick_of (with_address e x)).core ≡ (tick_of e).core
unfolding tick_of
tick_core e x = by_test (has e.registers.trim OSCEN) (λ q. rw q refl) (λ q. rw q refl)

tick_address : (e : Desk) → (tick_of e).address ≡ e.address
unfolding tick_of
tick_address e = by_test (has e.registers.trim OSCEN) (λ q. rw q refl) (λ q. rw q refl)

module _ {A : ℕ → Bool} {t : Bool} {m n : Cells} {c e : Desk} (h : Near A t m c n e) where
  but_address : c ≡ with_address e c.address
  but_address = λ k. record { registers = h.registers k; core = h.core k; address = c.address }

  tick_near : Near A t m (tick_of c) n (tick_of e)
  tick_near =
      record {
        bytes = h.bytes;
        size = h.size;
        registers = ap (λ (x : Desk). (tick_of x).registers) but_address ∙ tick_registers e c.address;
        core = ap (λ (x : Desk). (tick_of x).core) but_address ∙ tick_core e c.address;
        address = λ z. tick_address c ∙ (h.address z ∙ sym (tick_address e));
      }

  returned_near : Near A t m (returned_of c) n (returned_of e)
  unfolding returned_of
  returned_near =
      record { bytes = h.bytes; size = h.size; registers = rw h.registers refl; core = h.core; address = h.address }

returned_address : (e : Desk) → (returned_of e).address ≡ e.address
unfolding returned_of
returned_address e = refl

placed_moves : (p : Phase) (m n : Cells) (c c' e e' : Desk) → c'.address ≡ c.address → e'.address ≡ e.address
    → Placed p m c n e → Placed p m c' n e'
placed_moves Idle m n c c' e e' q u p = tt
placed_moves (Slave k b) m n c c' e e' q u p = tt
placed_moves (AddressHigh k b) m n c c' e e' q u p = tt
placed_moves (AddressLow x k b) m n c c' e e' q u p = p
placed_moves (Pointer k b) m n c c' e e' q u p = λ z. q ∙ (p z ∙ sym u)
placed_moves (Write Memory k b) m n c c' e e' q u p = p
placed_moves (Write Companion k b) m n c c' e e' q u p = q ∙ (p ∙ sym u)
placed_moves (Read s k b) m n c c' e e' q u p = tt

module _ (A : ℕ → Bool) (t : Bool) (h : State) (m : List ℕ) (r : State) (n : List ℕ) (a : Alike A t h m r n) where
  both_same : Both A t h m r n h m r n
  both_same = record { alike = a; phases = λ z. z; placed = λ z. z; rest = λ z. z }

  ticks : Near A t (cells_of h m) (tick_of h.companion) (cells_of r n) (tick_of r.companion)
  ticks = tick_near a.near

  placed_ticks : PlacedAt h m r n → Placed h.phase (cells_of h m) (tick_of h.companion) (cells_of r n) (tick_of r.companion)
  placed_ticks =
      placed_moves h.phase (cells_of h m) (cells_of r n) h.companion (tick_of h.companion) r.companion
      (tick_of r.companion) (tick_address h.companion) (tick_address r.companion)

  placed_returns : PlacedAt h m r n → Placed h.phase (cells_of h m) (returned_of h.companion) (cells_of r n) (returned_of r.companion)
  placed_returns =
      placed_moves h.phase (cells_of h m) (cells_of r n) h.companion (returned_of h.companion) r.companion
      (returned_of r.companion) (returned_address h.companion) (returned_address r.companion)

  -- both supplies gone
  gone_near : (x y : ℕ) (c : Desk) → Near A t (lent m x) c (lent n y) c
  gone_near x y c = record { bytes = a.near.bytes; size = a.near.size; registers = refl; core = refl; address = λ z. refl }

  world_on : (p : Power) (x : Happening) → is_bus x ≡ false → h.power ≡ p → r.power ≡ p
      → Both A t h m r n (event_on p x h m).state (event_on p x h m).memory (event_on p x r n).state (event_on p x r n).memory
  unfolding event_on power_within
  world_on On (on_wire x) b q u = absurd (true≢false b)
  world_on On (beat t') b q u =
      record {
        alike = record { power = a.power; near = ticks; dark = a.dark; dark₂ = a.dark₂ };
        phases = λ z. z;
        placed = placed_ticks;
        rest = λ z. z;
      }
  world_on On lost b q u =
      record {
        alike =
            record {
              power = refl;
              near =
                  record {
                    bytes = a.near.bytes;
                    size = a.near.size;
                    registers = a.near.registers;
                    core = a.near.core;
                    address = λ z. refl;
                  };
              dark = refl;
              dark₂ = refl;
            };
        phases = λ z. equal;
        placed = λ z. tt;
        rest = λ z. refl;
      }
  world_on On gone b q u =
      record {
        alike = record { power = refl; near = gone_near 0 0 _; dark = refl; dark₂ = refl };
        phases = λ z. equal;
        placed = λ z. tt;
        rest = λ z. refl;
      }
  world_on On returned b q u = both_same
  world_on Backup (on_wire x) b q u = absurd (true≢false b)
  world_on Backup (beat t') b q u =
      record {
        alike = record { power = a.power; near = ticks; dark = a.dark; dark₂ = a.dark₂ };
        phases = λ z. z;
        placed = placed_ticks;
        rest = λ z. z;
      }
  world_on Backup lost b q u = both_same
  world_on Backup gone b q u =
      record {
        alike = record { power = refl; near = gone_near 0 0 _; dark = refl; dark₂ = refl };
        phases = λ z. equal;
        placed = λ z. tt;
        rest = λ z. refl;
      }
  world_on Backup returned b q u =
      record {
        alike = record { power = refl; near = returned_near a.near; dark = refl; dark₂ = refl };
        phases = λ z. z;
        placed = placed_returns;
        rest = λ z. z;
      }
  world_on Off (on_wire x) b q u = absurd (true≢false b)
  world_on Off (beat t') b q u = both_same
  world_on Off lost b q u = both_same
  world_on Off gone b q u = both_same
  world_on Off returned b q u =
      record {
        alike = record { power = refl; near = a.near; dark = refl; dark₂ = refl };
        phases = λ z. z;
        placed = λ z. z;
        rest = λ z. z;
      }

-- no more is known of an address than was
pub lessen : {A : ℕ → Bool} {t : Bool} {h : State} {m : List ℕ} {r : State} {n : List ℕ} (u : Bool)
    → (u ≡ true → h.companion.address ≡ r.companion.address) → Alike A t h m r n → Alike A u h m r n
lessen u f a = record { power = a.power; near = weaken u f a.near; dark = a.dark; dark₂ = a.dark₂ }

pub lessened : {A : ℕ → Bool} {t : Bool} {h : State} {m : List ℕ} {r : State} {n : List ℕ} (u : Bool)
    → (u ≡ true → h.companion.address ≡ r.companion.address) → Together A t h m r n → Together A u h m r n
lessened u f g = record { alike = lessen u f g.alike; phases = g.phases; placed = g.placed }

never : {X : Type 0} → false ≡ true → X
never e = absurd (false≢true e)

module _ (A : ℕ → Bool) (h : State) (m : List ℕ) (r : State) (n : List ℕ) where
  pub world_together : (t : Bool) (x : Happening) → is_bus x ≡ false → Together A t h m r n
      → Together A t (event_on h.power x h m).state (event_on h.power x h m).memory
      (event_on h.power x r n).state (event_on h.power x r n).memory
  world_together t x b g =
      let w = world_on A t h m r n g.alike h.power x b refl (sym g.alike.power) in
      record { alike = w.alike; phases = w.phases g.phases; placed = w.placed g.placed }

  pub world_apart : (x : Happening) → is_bus x ≡ false → Apart A h m r n
      → Apart A (event_on h.power x h m).state (event_on h.power x h m).memory
      (event_on h.power x r n).state (event_on h.power x r n).memory
  world_apart x b g =
      let w = world_on A false h m r n g.alike h.power x b refl (sym g.alike.power) in
      record { alike = w.alike; rest = w.rest g.rest }

  -- a ninth clock that is not heard
  ninth_known : (t : Bool) (p : Phase) (s u : Cells) (c e : Desk) → (t ≡ true → c.address ≡ e.address) → Placed p s c u e
      → ninth_of t p ≡ true → c.address ≡ e.address
  ninth_known t Idle s u c e f l z = f z
  ninth_known t (Slave k b) s u c e f l z = f z
  ninth_known t (AddressHigh k b) s u c e f l z = f z
  ninth_known t (AddressLow x k b) s u c e f l z = f z
  ninth_known t (Pointer k b) s u c e f l z =
      by_test (leb 8 k) (λ q. l (leb-true 8 k q)) (λ q. f (rw q at z))
  ninth_known t (Write x k b) s u c e f l z = f z
  ninth_known t (Read x k b) s u c e f l z = f z

  -- the master's own event
  module _ (t : Bool) (g : Together A t h m r n) where
    abbrev Next : Bool → Power → Happening → Type 0
    Next u p x =
        Together A u (event_on p x h m).state (event_on p x h m).memory (event_on p x r n).state (event_on p x r n).memory

    unheard_mine : (x : Line) → Together A (marked t h.phase (on_wire x)) h m r n
    unheard_mine start = g
    unheard_mine stop = lessened false never g
    unheard_mine (clock d) =
        lessened (ninth_of t h.phase)
        (ninth_known t h.phase (cells_of h m) (cells_of r n) h.companion r.companion g.alike.near.address g.placed) g

    wire_on : (p : Power) (x : Line) → ReadSet t h.phase (on_wire x) → Next (marked t h.phase (on_wire x)) p (on_wire x)
    unfolding event_on lined power_within
    wire_on On start s =
        record { alike = record { power = refl; near = g.alike.near; dark = refl; dark₂ = refl }; phases = equal; placed = tt }
    wire_on On stop s =
        record { alike = record { power = refl; near = weaken false never g.alike.near; dark = refl; dark₂ = refl }; phases = equal; placed = tt }
    wire_on On (clock d) s =
        let o = clock_met A t (cells_of h m) (cells_of r n) h.companion r.companion g.alike.near d g.phases g.placed s in
        record { alike = record { power = refl; near = o.near; dark = refl; dark₂ = refl }; phases = o.phases; placed = o.placed }
    wire_on Backup x s = unheard_mine x
    wire_on Off x s = unheard_mine x

    mine_on : (x : Happening) → ReadSet t h.phase x → Next (marked t h.phase x) h.power x
    mine_on (on_wire x) s = wire_on h.power x s
    mine_on (beat t') s = world_together t (beat t') refl g
    mine_on lost s = lessened false never (world_together t lost refl g)
    mine_on gone s = lessened false never (world_together t gone refl g)
    mine_on returned s = world_together t returned refl g

    pub mine : (i : ℕ) → ReadSet t h.phase (happening i)
        → Together A (marked t h.phase (happening i)) (event_of h m i).state (event_of h m i).memory (event_of r n i).state (event_of r n i).memory
    mine i s =
        subst (λ (p : Power). Together A (marked t h.phase (happening i)) (event_of h m i).state (event_of h m i).memory
        (event_on p (happening i) r n).state (event_on p (happening i) r n).memory) g.alike.power (mine_on (happening i) s)

    pub worlds : (i : ℕ) → is_bus (happening i) ≡ false
        → Together A t (event_of h m i).state (event_of h m i).memory (event_of r n i).state (event_of r n i).memory
    worlds i b =
        subst (λ (p : Power). Together A t (event_of h m i).state (event_of h m i).memory
        (event_on p (happening i) r n).state (event_on p (happening i) r n).memory) g.alike.power (world_together t (happening i) b g)

  -- the other's event
  module _ (g : Apart A h m r n) where
    pub worlds_apart : (i : ℕ) → is_bus (happening i) ≡ false
        → Apart A (event_of h m i).state (event_of h m i).memory (event_of r n i).state (event_of r n i).memory
    worlds_apart i b =
        subst (λ (p : Power). Apart A (event_of h m i).state (event_of h m i).memory
        (event_on p (happening i) r n).state (event_on p (happening i) r n).memory) g.alike.power (world_apart (happening i) b g)

    their_wire : (p : Power) (x : Line) → h.power ≡ p → Harmless A h (on_wire x)
        → Apart A (event_on p (on_wire x) h m).state (event_on p (on_wire x) h m).memory r n
    unfolding event_on lined power_within
    their_wire On start q s =
        record { alike = record { power = sym q ∙ g.alike.power; near = g.alike.near; dark = refl; dark₂ = g.alike.dark₂ }; rest = g.rest }
    their_wire On stop q s =
        record { alike = record { power = sym q ∙ g.alike.power; near = g.alike.near; dark = refl; dark₂ = g.alike.dark₂ }; rest = g.rest }
    their_wire On (clock d) q s =
        record {
          alike =
              record {
                power = sym q ∙ g.alike.power;
                near = clock_far A h m (cells_of r n) r.companion g.alike.near d h.phase s;
                dark = refl;
                dark₂ = g.alike.dark₂;
              };
          rest = g.rest;
        }
    their_wire Backup x q s = g
    their_wire Off x q s = g

    their_on : (x : Happening) → is_bus x ≡ true → Harmless A h x
        → Apart A (event_on h.power x h m).state (event_on h.power x h m).memory r n
    their_on (on_wire x) b s = their_wire h.power x refl s
    their_on (beat t') b s = never b
    their_on lost b s = never b
    their_on gone b s = never b
    their_on returned b s = never b

    pub theirs : (i : ℕ) → is_bus (happening i) ≡ true → Harmless A h (happening i) → Apart A (event_of h m i).state (event_of h m i).memory r n
    theirs i b s = their_on (happening i) b s

-- where the bus would be freed the device is between transfers
pub idle_of : (p : Phase) → is_idle p ≡ true → p ≡ Idle
idle_of Idle e = refl
idle_of (Slave k b) e = never e
idle_of (AddressHigh k b) e = never e
idle_of (AddressLow x k b) e = never e
idle_of (Pointer k b) e = never e
idle_of (Write s k b) e = never e
idle_of (Read s k b) e = never e

abbrev pub Resting : Bool → Bool → Phase → Type 0
Resting f t p = f ≡ true → (p ≡ Idle) × (t ≡ false)

module _ (h : State) (m : List ℕ) (f t : Bool) (d : power_within h.power h.phase ≡ true) (q : Resting f t h.phase) where
  clock_rests : (p : Phase) (b : Bool) → p ≡ Idle → t ≡ false
      → ((clocked fm3130 p (cells_of h m) h.companion b).state.phase ≡ Idle) × (ninth_of t p ≡ false)
  unfolding clocked
  clock_rests p b e z = rw (e, z) (refl, refl)

  off_rests : (x : Line) → h.phase ≡ Idle → Resting (freed_by f (on_wire x)) (marked t h.phase (on_wire x)) h.phase
  off_rests start e = never
  off_rests stop e = λ z. (e, refl)
  off_rests (clock b) e = λ z. (e, rw e (q z).1)

  rests_on : (p : Power) (x : Happening) → h.power ≡ p
      → Resting (freed_by f x) (marked t h.phase x) (event_on p x h m).state.phase
  unfolding event_on lined power_within
  rests_on On (on_wire start) e = never
  rests_on On (on_wire stop) e = λ z. (refl, refl)
  rests_on On (on_wire (clock b)) e = λ z. clock_rests h.phase b (q z).0 (q z).1
  rests_on On (beat t') e = q
  rests_on On lost e = λ z. (refl, refl)
  rests_on On gone e = λ z. (refl, refl)
  rests_on On returned e = q
  rests_on Backup (on_wire x) e = off_rests x (idle_of h.phase (rw e at d))
  rests_on Backup (beat t') e = q
  rests_on Backup lost e = λ z. (idle_of h.phase (rw e at d), refl)
  rests_on Backup gone e = λ z. (refl, refl)
  rests_on Backup returned e = q
  rests_on Off (on_wire x) e = off_rests x (idle_of h.phase (rw e at d))
  rests_on Off (beat t') e = q
  rests_on Off lost e = λ z. (idle_of h.phase (rw e at d), refl)
  rests_on Off gone e = λ z. (idle_of h.phase (rw e at d), refl)
  rests_on Off returned e = q

  pub rests : (i : ℕ) → Resting (freed_by f (happening i)) (marked t h.phase (happening i)) (event_of h m i).state.phase
  rests i = rests_on h.power (happening i) refl
