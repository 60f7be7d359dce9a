-- SPDX-License-Identifier: Apache-2.0
-- A list of events from a Start on, all of whose reads have their address set, on two near devices: the answers are the
-- same. Events one by one, with what was set of the two addresses.
use Prim.Native.Nat.{ℕ, ◌≤◌}
use mathlib.Core.Path.{◌≡◌, refl, sym, ap, subst, ◌∙◌}
use mathlib.Core.Bool.{Bool, true, false, cond, false≢true}
use mathlib.Core.List.{List, [], ◌∷◌}
use lib.Dec.{leb}
use borrow.Author.Tests.{leb-true}
use Rattle.wire.proofs.Tests.{by_test}
use Rattle.wire.specs.Machine.{Line, start, stop, clock, lined}
use Rattle.wire.specs.declared.Side.TheVariants.{Memory, Companion}
use Rattle.wire.specs.declared.Phase.{Phase}
use Rattle.wire.specs.declared.Phase.TheVariants.{Idle, Slave, AddressHigh, AddressLow, Pointer, Write, Read}
use Rattle.bus.specs.declared.Power.{Power}
use Rattle.bus.specs.declared.Power.TheVariants.{On, Backup, Off}
use Rattle.fm3130_companion.specs.Part.{pin_of}
use Rattle.fm3130_companion.specs.declared.Companion.{Companion as Desk}
use Rattle.fm3130.specs.Event.{Happening, on_wire, beat, lost, gone, returned, happening, event_on, event_of}
use Rattle.fm3130.specs.Answer.{pin_shown, answer_byte}
use Rattle.fm3130.specs.declared.State.{State}
use Rattle.fm3130_list.specs.Run.{run_of}
use Rattle.law_assurance.specs.Same.{marked, ReadAt, ReadSet, ninth_low, placed_by, ReadInAt, ReadIn, ReadsIn}
use Rattle.law_assurance.proofs.Near.{Placed}
use Rattle.law_assurance.proofs.Steps.{cells_of, Alike, Together, mine}
use Rattle.law_assurance.proofs.Exact.{clock_exact}

-- near, in one phase; the memory address where it was set
pub record Strict (A : ℕ → Bool) (t v : Bool) (h : State) (m : List ℕ) (r : State) (n : List ℕ) : Type 0 where
  pub near : Together A t h m r n
  pub phase : h.phase ≡ r.phase
  pub place : v ≡ true → h.address ≡ r.address

-- what is asked here is what was asked there
read_at : (A : ℕ → Bool) (t v : Bool) (s : State) (p : Phase) → ReadInAt A t v s p → ReadAt t p
read_at A t v s Idle g = tt
read_at A t v s (Slave k b) g = tt
read_at A t v s (AddressHigh k b) g = tt
read_at A t v s (AddressLow h k b) g = tt
read_at A t v s (Pointer k b) g = tt
read_at A t v s (Write x k b) g = tt
read_at A t v s (Read Memory k b) g = tt
read_at A t v s (Read Companion k b) g = g

read_set : (A : ℕ → Bool) (t v : Bool) (s : State) (x : Happening) → ReadIn A t v s x → ReadSet t s.phase x
read_set A t v s (on_wire start) g = tt
read_set A t v s (on_wire stop) g = tt
read_set A t v s (on_wire (clock d)) g = read_at A t v s s.phase g
read_set A t v s (beat t') g = tt
read_set A t v s lost g = tt
read_set A t v s gone g = tt
read_set A t v s returned g = tt

never : {X : Type 0} → false ≡ true → X
never e = absurd (false≢true e)

-- what an event shows and leaves, beside `mine`
record Shows (v : Bool) (h : State) (a : Bool) (r : State) (b : Bool) : Type 0 where
  line : a ≡ b
  phase : h.phase ≡ r.phase
  place : v ≡ true → h.address ≡ r.address

module _ (A : ℕ → Bool) (t v : Bool) (h : State) (m : List ℕ) (r : State) (n : List ℕ) (g : Strict A t v h m r n) where
  abbrev ShowsOn : Power → Happening → Type 0
  ShowsOn p x =
      Shows (placed_by v h.phase x) (event_on p x h m).state (event_on p x h m).line (event_on p x r n).state (event_on p x r n).line

  low_known : (p : Phase) → Placed p (cells_of h m) h.companion (cells_of r n) r.companion → ninth_low v p ≡ true → h.address ≡ r.address
  low_known Idle l z = g.place z
  low_known (Slave k b) l z = g.place z
  low_known (AddressHigh k b) l z = g.place z
  low_known (AddressLow x k b) l z = by_eight k l z
    where
      by_eight : (k : ℕ) → (8 ≤ k → h.address ≡ r.address) → cond (leb 8 k) true v ≡ true → h.address ≡ r.address
      by_eight k l z = by_test (leb 8 k) (λ q. l (leb-true 8 k q)) (λ q. g.place (rw q at z))
  low_known (Pointer k b) l z = g.place z
  low_known (Write x k b) l z = g.place z
  low_known (Read x k b) l z = g.place z

  unheard_shows : (x : Line) (a : Bool) → Shows (placed_by v h.phase (on_wire x)) h a r a
  unheard_shows start a = record { line = refl; phase = g.phase; place = g.place }
  unheard_shows stop a = record { line = refl; phase = g.phase; place = never }
  unheard_shows (clock d) a = record { line = refl; phase = g.phase; place = low_known h.phase g.near.placed }

  clock_shows : (d : Bool) → ReadInAt A t v h h.phase → ShowsOn On (on_wire (clock d))
  unfolding event_on lined
  clock_shows d s =
      let o = clock_exact A t v h (cells_of h m) (cells_of r n) h.companion r.companion g.near.alike.near g.place d
      h.phase g.near.placed refl s in
      rw (← g.phase) (record { line = o.line; phase = o.phase; place = o.place })

  shows_on : (p : Power) (x : Happening) → ReadIn A t v h x → ShowsOn p x
  unfolding event_on lined
  shows_on On (on_wire start) s = record { line = refl; phase = refl; place = g.place }
  shows_on On (on_wire stop) s = record { line = refl; phase = refl; place = never }
  shows_on On (on_wire (clock d)) s = clock_shows d s
  shows_on On (beat t') s = record { line = refl; phase = g.phase; place = g.place }
  shows_on On lost s = record { line = refl; phase = refl; place = never }
  shows_on On gone s = record { line = refl; phase = refl; place = never }
  shows_on On returned s = record { line = refl; phase = g.phase; place = g.place }
  shows_on Backup (on_wire x) s = unheard_shows x _
  shows_on Backup (beat t') s = record { line = refl; phase = g.phase; place = g.place }
  shows_on Backup lost s = record { line = refl; phase = g.phase; place = never }
  shows_on Backup gone s = record { line = refl; phase = refl; place = never }
  shows_on Backup returned s = record { line = refl; phase = g.phase; place = g.place }
  shows_on Off (on_wire x) s = unheard_shows x _
  shows_on Off (beat t') s = record { line = refl; phase = g.phase; place = g.place }
  shows_on Off lost s = record { line = refl; phase = g.phase; place = never }
  shows_on Off gone s = record { line = refl; phase = g.phase; place = never }
  shows_on Off returned s = record { line = refl; phase = g.phase; place = g.place }

  shows : (i : ℕ) → ReadIn A t v h (happening i)
      → Shows (placed_by v h.phase (happening i)) (event_of h m i).state (event_of h m i).line (event_of r n i).state (event_of r n i).line
  shows i s =
      subst (λ (p : Power). Shows (placed_by v h.phase (happening i)) (event_of h m i).state (event_of h m i).line
      (event_on p (happening i) r n).state (event_on p (happening i) r n).line) g.near.alike.power (shows_on h.power (happening i) s)

  pub strict : (i : ℕ) → ReadIn A t v h (happening i)
      → Strict A (marked t h.phase (happening i)) (placed_by v h.phase (happening i)) (event_of h m i).state (event_of h m i).memory
      (event_of r n i).state (event_of r n i).memory
  strict i s =
      let o = shows i s in
      record { near = mine A h m r n t g.near i (read_set A t v h (happening i) s); phase = o.phase; place = o.place }

-- the answer byte
pub pin_same : (c e : Desk) → c.registers ≡ e.registers → pin_of c ≡ pin_of e
unfolding pin_of
pin_same c e q = rw q refl

shown_same : (p : Power) (c e : Desk) → c.registers ≡ e.registers → pin_shown p c ≡ pin_shown p e
shown_same On c e q = pin_same c e q
shown_same Backup c e q = pin_same c e q
shown_same Off c e q = refl

pub answer_same : (A : ℕ → Bool) (t : Bool) (h : State) (m : List ℕ) (r : State) (n : List ℕ) (a b : Bool) → Alike A t h m r n → a ≡ b
    → answer_byte h a ≡ answer_byte r b
answer_same A t h m r n a b g q =
    rw (q, ← g.power, shown_same h.power h.companion r.companion g.near.registers) refl

-- what is asked of the one run is so of the other
asked_there : (A : ℕ → Bool) (t v : Bool) (h r : State) (p : Phase) → (v ≡ true → h.address ≡ r.address)
    → ReadInAt A t v h p → ReadInAt A t v r p
asked_there A t v h r Idle q g = tt
asked_there A t v h r (Slave k b) q g = tt
asked_there A t v h r (AddressHigh k b) q g = tt
asked_there A t v h r (AddressLow x k b) q g = tt
asked_there A t v h r (Pointer k b) q g = tt
asked_there A t v h r (Write x k b) q g = tt
asked_there A t v h r (Read Memory k b) q g = (g.0, λ i. ap A (sym (q g.0)) ∙ g.1 i)
asked_there A t v h r (Read Companion k b) q g = g

there : (A : ℕ → Bool) (t v : Bool) (h r : State) (x : Happening) → h.phase ≡ r.phase → (v ≡ true → h.address ≡ r.address)
    → ReadIn A t v h x → ReadIn A t v r x
there A t v h r (on_wire start) e q g = tt
there A t v h r (on_wire stop) e q g = tt
there A t v h r (on_wire (clock d)) e q g = asked_there A t v h r r.phase q (subst (λ (p : Phase). ReadInAt A t v h p) e g)
there A t v h r (beat t') e q g = tt
there A t v h r lost e q g = tt
there A t v h r gone e q g = tt
there A t v h r returned e q g = tt

-- a list of events
pub record Answered (A : ℕ → Bool) (t v : Bool) (h : State) (m : List ℕ) (r : State) (n es : List ℕ) : Type 0 where
  pub answers : (run_of h m es).answers ≡ (run_of r n es).answers
  pub reads : ReadsIn A t v r n es

pub answered : (A : ℕ → Bool) (es : List ℕ) (t v : Bool) (h : State) (m : List ℕ) (r : State) (n : List ℕ) → Strict A t v h m r n
    → ReadsIn A t v h m es → Answered A t v h m r n es
unfolding run_of
answered A [] t v h m r n g s = record { answers = refl; reads = tt }
answered A (i ∷ es) t v h m r n g s =
    let k = strict A t v h m r n g i s.0 in
    let o = shows A t v h m r n g i s.0 in
    let rest = answered A es (marked t h.phase (happening i)) (placed_by v h.phase (happening i)) (event_of h m i).state
    (event_of h m i).memory (event_of r n i).state (event_of r n i).memory k s.1 in
    let first = answer_same A (marked t h.phase (happening i)) (event_of h m i).state (event_of h m i).memory (event_of r n i).state
    (event_of r n i).memory (event_of h m i).line (event_of r n i).line k.near.alike o.line in
    record {
      answers = λ j. first j ∷ rest.answers j;
      reads = (
        there A t v h r (happening i) g.phase g.place s.0,
        subst (λ (p : Phase). ReadsIn A (marked t p (happening i)) (placed_by v p (happening i))
            (event_of r n i).state (event_of r n i).memory es) g.phase rest.reads,
      );
    }
