-- SPDX-License-Identifier: Apache-2.0
-- The entry for one event: what each way through its tests gives, that a well-formed state is ready for an event, that
-- the fresh state is well-formed and every event keeps a well-formed state so, and that no second outcome satisfies the
-- contract.
use Prim.Native.Nat.{ℕ, ◌≤◌, ◌<◌}
use mathlib.Core.Path.{◌≡◌, refl, ap, sym, subst, ◌∙◌}
use mathlib.Core.Bool.{Bool, true, false, cond}
use mathlib.Core.List.{List}
use lib.Dec.{eqb, leb, lit<}
use lib.ListN.{length}
use borrow.Author.Tests.{eqb-true, eq-eqb, ne_eqb, le-leb, lt-leb}
use Rattle.wire.specs.Limits.{phase_within}
use Rattle.wire.proofs.Tests.{and_split, and_join}
use Rattle.fm31_counters.specs.Part.{is_within}
use Rattle.fm31_counters.specs.declared.Counters.{Counters}
use Rattle.fm31_counters.specs.Map.{FIRST, LAST}
use Rattle.fm31_counters.proofs.Within.{within_facts, aim_acknowledged, aim_within, store_within, loaded_within}
use Rattle.fm31_counters.proofs.Within.{edge_within, backed_within, lost_within, returned_within, blank_within}
use Rattle.bus.specs.Happening.{happening, edges}
use Rattle.bus_limits.specs.Limits.{power_within, bus_within}
use Rattle.bus.specs.declared.Beat.{Beat}
use Rattle.bus.specs.declared.Beat.TheVariants.{Second, Cnt1, Cnt2}
use Rattle.bus_limits.proofs.Keeps.{BusLimits, bus_limits_of, of_bus_limits, DeskKeeps, DoneOk, event_keeps}
use Rattle.std.specs.Prelude.{Result, Ok, Err}
use Rattle.numbers.specs.Numbers.{wrong_memory, wrong_state, unknown_event}
use Rattle.numbers.specs.Refusal.{number_of}
use Rattle.numbers.specs.declared.Refusal.{Refusal}
use Rattle.numbers.specs.declared.Refusal.TheVariants.{WrongMemory, WrongState, UnknownEvent}
use Rattle.fm31.specs.Chip.{last_event}
use Rattle.fm31.specs.Chip.{size_of, companion31, beaten, event_of, fresh}
use Rattle.fm31.specs.Limits.{well_formed}
use Rattle.fm31.specs.Step.{Step, Ready, state_of, admission, refused, answered, step_of, StepSettled}
use Rattle.fm31.specs.declared.Size.{Size}
use Rattle.fm31.specs.declared.Size.TheVariants.{Kb64, Kb256}
use Rattle.fm31.specs.declared.State.{State}
use Rattle.fm31.specs.declared.Stepped.{Stepped}
use Rattle.bus.specs.Select.{slave_names_for}

pub record Limits (size select : ℕ) (s : State) : Type 0 where
  pub bus : BusLimits size (slave_names_for select) FIRST LAST s.bus
  pub counters : is_within s.counters ≡ true

pub limits_of : (size select : ℕ) (s : State) → well_formed size select s ≡ true → Limits size select s
unfolding well_formed
limits_of size select s e =
    let h = and_split (bus_within size select FIRST LAST s.bus) (is_within s.counters) e in
    record { bus = bus_limits_of size select FIRST LAST s.bus h.0; counters = h.1 }

pub of_limits : (size select : ℕ) (s : State) → Limits size select s → well_formed size select s ≡ true
unfolding well_formed
of_limits size select s l = and_join _ _ (of_bus_limits size select FIRST LAST s.bus l.bus) l.counters

-- the fresh state is well-formed at every size
pub fresh_well_formed : (size select : ℕ) → 0 < size → well_formed size select fresh ≡ true
unfolding phase_within power_within
fresh_well_formed size select z =
    of_limits size select fresh
    (record { bus = record { address = z; phase = refl; power = refl }; counters = blank_within })

pub ready : (size select : ℕ) (s : State) (m : List ℕ) → length m ≡ size → well_formed size select s ≡ true → Ready size
    s m
ready size select s m h w =
    let l = limits_of size select s w in
    let c = within_facts s.counters l.counters in
    record { memory = h; address = l.bus.address; least = c.least; most = c.most }

-- what the tests before an event say decides what the entry leaves
settled : {A : Type 0} → A → (Refusal → A) → Result (Unit {0}) Refusal → A
settled a f (Ok u) = a
settled a f (Err r) = f r

by_tests : {A : Type 0} (a : A) (f : Refusal → A) (p q t : Bool)
    → cond p (cond q (cond t a (f UnknownEvent)) (f WrongState)) (f WrongMemory)
    ≡ settled a f (cond p (cond q (cond t (Ok tt) (Err UnknownEvent)) (Err WrongState)) (Err WrongMemory))
unfolding settled
by_tests a f true true true = refl
by_tests a f true true false = refl
by_tests a f true false t = refl
by_tests a f false q t = refl

IsAdmitted : Result (Unit {0}) Refusal → Type 0
IsAdmitted (Ok u) = Unit {0}
IsAdmitted (Err r) = ⊥

passed : (p q t : Bool)
    → IsAdmitted (cond p (cond q (cond t (Ok tt) (Err UnknownEvent)) (Err WrongState)) (Err WrongMemory))
    → (p ≡ true) × (q ≡ true)
unfolding IsAdmitted
passed true true t h = (refl, refl)
passed true false t h = absurd h
passed false q t h = absurd h

module _ (size select : ℕ) (s : State) (m : List ℕ) (e : ℕ) where
  pub step_refused : (r : Refusal) → admission size select s m e ≡ Err r
      → step_of size select s m e ≡ refused (number_of r) s m
  unfolding step_of settled
  step_refused r h = let f : Refusal → Step = λ r. refused (number_of r) s m in
      by_tests (answered (event_of size select s m e)) f (eqb (length m) size) (well_formed size select s) (leb e last_event)
      ∙ ap (settled (answered (event_of size select s m e)) f) h

  pub step_admitted : (u : Unit {0}) → admission size select s m e ≡ Ok u
      → step_of size select s m e ≡ answered (event_of size select s m e)
  unfolding step_of settled
  step_admitted u h = let f : Refusal → Step = λ r. refused (number_of r) s m in
      by_tests (answered (event_of size select s m e)) f (eqb (length m) size) (well_formed size select s) (leb e last_event)
      ∙ ap (settled (answered (event_of size select s m e)) f) h

  pub admitted_ready : (u : Unit {0}) → admission size select s m e ≡ Ok u → Ready size s m
  unfolding IsAdmitted
  admitted_ready u h =
      let t = passed (eqb (length m) size) (well_formed size select s) (leb e last_event) (subst IsAdmitted (sym h) tt) in
      ready size select s m (eqb-true (length m) size t.0) t.1

  pub step_wrong_memory : (length m ≡ size → ⊥) → step_of size select s m e ≡ refused wrong_memory s m
  unfolding step_of
  step_wrong_memory h = rw (ne_eqb (length m) size h)

  pub step_wrong_state : length m ≡ size → well_formed size select s ≡ false → step_of size select s m e ≡ refused
      wrong_state s m
  unfolding step_of
  step_wrong_state h w = rw (eq-eqb (length m) size h, w)

  pub step_unknown_event : length m ≡ size → well_formed size select s ≡ true → last_event < e
      → step_of size select s m e ≡ refused unknown_event s m
  unfolding step_of
  step_unknown_event h w l = rw (eq-eqb (length m) size h, w, lt-leb e last_event l)

  pub step_answered : length m ≡ size → well_formed size select s ≡ true → e ≤ last_event
      → step_of size select s m e ≡ answered (event_of size select s m e)
  unfolding step_of
  step_answered h w l = rw (eq-eqb (length m) size h, w, le-leb e last_event l)

-- the companion keeps its limits
beaten_within : (t : Beat) (c : Counters) → is_within c ≡ true → is_within (beaten t c) ≡ true
beaten_within Second c h = h
beaten_within Cnt1 c h = edge_within c h _
beaten_within Cnt2 c h = edge_within c h _

keeps : DeskKeeps FIRST LAST companion31
keeps =
    record {
      Ok = λ c. is_within c ≡ true;
      aim = λ c b o. aim_within c o b;
      aim_legal = λ c b g. sym (aim_acknowledged c b) ∙ g;
      store = λ c b l o. store_within c o b;
      loaded = λ c b o. loaded_within c o b;
      ticked = beaten_within;
      backed = backed_within;
      lost = lost_within;
      returned = returned_within;
    }

-- every event keeps a well-formed state well-formed, and the memory's length
pub record EventOk (size select : ℕ) (s : State) (m : List ℕ) (e : ℕ) : Type 0 where
  pub state : well_formed size select (state_of (event_of size select s m e)) ≡ true
  pub memory : length (event_of size select s m e).memory ≡ size

pub event_ok : (size select : ℕ) → 0 < size → (s : State) (m : List ℕ) (e : ℕ) → well_formed size select s ≡ true →
    length m ≡ size
    → EventOk size select s m e
unfolding keeps
event_ok size select z s m e w h =
    let l = limits_of size select s w in
    let k : DoneOk size (slave_names_for select) FIRST LAST z companion31 keeps (event_of size select s m e) =
    event_keeps size (slave_names_for select) FIRST LAST z companion31 keeps s.bus s.counters m l.bus
    l.counters h s.bus.power
    (happening edges e) in
    record { state = of_limits size select _ (record { bus = k.bus; counters = k.companion }); memory = k.memory }

pub size_positive : (k : Size) → 0 < size_of k
size_positive Kb64 = lit< tt
size_positive Kb256 = lit< tt

-- no second outcome satisfies the contract
pub step_unique : (k : Size) (select : ℕ) (s : State) (m : List ℕ) (e : ℕ) (r r₂ : Stepped) (m' m₂ : List ℕ)
    → StepSettled k select s m e r m' → StepSettled k select s m e r₂ m₂ → (r ≡ r₂) × (m' ≡ m₂)
step_unique k select s m e r r₂ m' m₂ p q =
    let same = p ∙ sym q in
    (λ i. record { number = (same i).number; state = (same i).state; answer = (same i).answer }, λ i. (same i).memory)
