-- SPDX-License-Identifier: Apache-2.0
-- The entry for one event: what each way through its tests gives, that a well-formed state is ready for an event, and that
-- no second outcome satisfies the contract.
use Prim.Native.Nat.{ℕ, ◌≤◌, ◌<◌}
use mathlib.Core.Path.{◌≡◌, refl, ap, sym, subst, ◌∙◌}
use mathlib.Core.Bool.{Bool, true, false, cond}
use mathlib.Core.List.{List}
use lib.Dec.{eqb, ltb}
use lib.ListN.{length}
use borrow.Author.Tests.{ltb-true, eqb-true, eq-eqb, ne_eqb, lt-ltb, le-ltb}
use Rattle.wire.specs.Slave.{slave_names}
use Rattle.wire.specs.Limits.{phase_within}
use Rattle.wire.specs.declared.Phase.{Phase}
use Rattle.wire.proofs.Tests.{and_split}
use Rattle.bus_limits.specs.Limits.{is_between, power_within}
use Rattle.bus.specs.Select.{lone}
use Rattle.bus.specs.Select.{slave_names_for}
use Rattle.bus_limits.proofs.Keeps.{from_zero}
use Rattle.bus.proofs.Lone.{lone_within}
use Rattle.fm3130_registers.specs.Map.{LAST}
use Rattle.fm3130_companion.specs.Part.{is_within}
use Rattle.fm3130_companion.proofs.LimitFacts.{within_address}
use Rattle.std.specs.Prelude.{Result, Ok, Err}
use Rattle.numbers.specs.Numbers.{wrong_memory, wrong_state, unknown_event}
use Rattle.numbers.specs.Refusal.{number_of}
use Rattle.numbers.specs.declared.Refusal.{Refusal}
use Rattle.numbers.specs.declared.Refusal.TheVariants.{WrongMemory, WrongState, UnknownEvent}
use Rattle.fm3130.specs.Chip.{memory_size}
use Rattle.fm3130.specs.Event.{event_of, rolled_in}
use Rattle.fm3130.specs.Limits.{is_legal, well_formed}
use Rattle.fm3130.specs.Step.{Step, Ready, admission, refused, answered, step_of, StepSettled}
use Rattle.fm3130.specs.declared.State.{State}
use Rattle.fm3130.specs.declared.Stepped.{Stepped}

-- a phase has the limits of one of a part whose companion's addresses begin at 0; and of one with select bits 00
pub legal_phase : (p : Phase) → phase_within slave_names (is_between 0 LAST) p ≡ phase_within slave_names is_legal p
legal_phase p = ap (λ legal. phase_within slave_names legal p) (from_zero LAST)

pub lone_phase : (p : Phase) → phase_within (slave_names_for lone) (is_between 0 LAST) p ≡ phase_within slave_names is_legal p
lone_phase p = lone_within (is_between 0 LAST) p ∙ legal_phase p

-- the limits of a state, one by one
pub record Limits (s : State) : Type 0 where
  pub address : s.address < memory_size
  pub companion : is_within s.companion ≡ true
  pub phase : phase_within slave_names is_legal s.phase ≡ true
  pub power : power_within s.power s.phase ≡ true

pub limits_of : (s : State) → well_formed s ≡ true → Limits s
unfolding well_formed
limits_of s e =
    let h = and_split _ (power_within s.power s.phase) e in
    let g = and_split _ (phase_within slave_names is_legal s.phase) h.0 in
    let f = and_split (ltb s.address memory_size) (is_within s.companion) g.0 in
    record { address = ltb-true s.address memory_size f.0; companion = f.1; phase = g.1; power = h.1 }

pub of_limits : (s : State) → Limits s → well_formed s ≡ true
unfolding well_formed
of_limits s l = rw (lt-ltb s.address memory_size l.address, l.companion, l.phase, l.power)

-- a well-formed state with all its memory is ready for an event
pub ready : (s : State) (m : List ℕ) → length m ≡ memory_size → well_formed s ≡ true → Ready s m
ready s m h w =
    let l = limits_of s w in
    record { memory = h; address = l.address; desk = within_address s.companion l.companion }

-- what the tests before an event say decides what the entry leaves
settled : {A : Type 0} → A → (Refusal → A) → Result (Unit {0}) Refusal → A
settled a f (Ok u) = a
settled a f (Err r) = f r

by_tests : {A : Type 0} (a : A) (f : Refusal → A) (p q t : Bool)
    → cond p (cond q (cond t a (f UnknownEvent)) (f WrongState)) (f WrongMemory)
    ≡ settled a f (cond p (cond q (cond t (Ok tt) (Err UnknownEvent)) (Err WrongState)) (Err WrongMemory))
unfolding settled
by_tests a f true true true = refl
by_tests a f true true false = refl
by_tests a f true false t = refl
by_tests a f false q t = refl

IsAdmitted : Result (Unit {0}) Refusal → Type 0
IsAdmitted (Ok u) = Unit {0}
IsAdmitted (Err r) = ⊥

passed : (p q t : Bool)
    → IsAdmitted (cond p (cond q (cond t (Ok tt) (Err UnknownEvent)) (Err WrongState)) (Err WrongMemory))
    → (p ≡ true) × (q ≡ true)
unfolding IsAdmitted
passed true true t h = (refl, refl)
passed true false t h = absurd h
passed false q t h = absurd h

module _ (s : State) (m : List ℕ) (e : ℕ) where
  pub step_refused : (r : Refusal) → admission s m e ≡ Err r → step_of s m e ≡ refused (number_of r) s m
  unfolding step_of settled
  step_refused r h = let f : Refusal → Step = λ r. refused (number_of r) s m in
      by_tests (answered (event_of s m e) (rolled_in s e)) f (eqb (length m) memory_size) (well_formed s) (ltb e 8)
      ∙ ap (settled (answered (event_of s m e) (rolled_in s e)) f) h

  pub step_admitted : (u : Unit {0}) → admission s m e ≡ Ok u → step_of s m e ≡ answered (event_of s m e) (rolled_in s e)
  unfolding step_of settled
  step_admitted u h = let f : Refusal → Step = λ r. refused (number_of r) s m in
      by_tests (answered (event_of s m e) (rolled_in s e)) f (eqb (length m) memory_size) (well_formed s) (ltb e 8)
      ∙ ap (settled (answered (event_of s m e) (rolled_in s e)) f) h

  pub admitted_ready : (u : Unit {0}) → admission s m e ≡ Ok u → Ready s m
  unfolding IsAdmitted
  admitted_ready u h =
      let t = passed (eqb (length m) memory_size) (well_formed s) (ltb e 8) (subst IsAdmitted (sym h) tt) in
      ready s m (eqb-true (length m) memory_size t.0) t.1

  pub step_wrong_memory : (length m ≡ memory_size → ⊥) → step_of s m e ≡ refused wrong_memory s m
  unfolding step_of
  step_wrong_memory h = rw (ne_eqb (length m) memory_size h)

  pub step_wrong_state : length m ≡ memory_size → well_formed s ≡ false → step_of s m e ≡ refused wrong_state s m
  unfolding step_of
  step_wrong_state h w = rw (eq-eqb (length m) memory_size h, w)

  pub step_unknown_event : length m ≡ memory_size → well_formed s ≡ true → 8 ≤ e → step_of s m e ≡ refused unknown_event s m
  unfolding step_of
  step_unknown_event h w l = rw (eq-eqb (length m) memory_size h, w, le-ltb e 8 l)

  pub step_answered : length m ≡ memory_size → well_formed s ≡ true → e < 8 → step_of s m e ≡ answered (event_of s m e) (rolled_in s e)
  unfolding step_of
  step_answered h w l = rw (eq-eqb (length m) memory_size h, w, lt-ltb e 8 l)

  -- no second outcome satisfies the contract
  pub step_unique : (r r₂ : Stepped) (m' m₂ : List ℕ) → StepSettled s m e r m' → StepSettled s m e r₂ m₂ → (r ≡ r₂) × (m' ≡ m₂)
  step_unique r r₂ m' m₂ p q =
      let same = p ∙ sym q in (
        λ i. record { number = (same i).number; state = (same i).state; answer = (same i).answer; rolled = (same i).rolled },
        λ i. (same i).memory,
      )
