-- SPDX-License-Identifier: Apache-2.0
-- A Clock that is no byte's eighth changes only where the transfer stands. Ticks and power events do not look at that, and
-- Start and Stop forget it: so such a Clock, followed by them, leaves nothing.
use Prim.Native.Nat.{ℕ}
use mathlib.Core.Path.{◌≡◌, refl, sym, subst}
use mathlib.Core.Bool.{Bool, true, false}
use mathlib.Core.List.{List, [], ◌∷◌, ◌++◌}
use lib.Dec.{eqb, leb}
use native.Mathlib.Omega.{arith}
use borrow.Author.Tests.{eqb-true, eqb-false, leb-true}
use Rattle.wire.specs.Machine.{lined, clocked}
use Rattle.wire.specs.Memory.{lent}
use Rattle.wire.specs.declared.Phase.{Phase}
use Rattle.wire.proofs.Tests.{and_split, by_test}
use Rattle.bus.specs.declared.Power.{Power}
use Rattle.bus.specs.declared.Power.TheVariants.{On, Backup, Off}
use Rattle.fm3130_companion.specs.declared.Companion.{Companion}
use Rattle.fm3130.specs.Chip.{fm3130}
use Rattle.fm3130.specs.Event.{happening, event_on, event_of}
use Rattle.c_line.specs.Wires.{is_eighth}
use Rattle.c_line.proofs.Wires.{clock_keeps}
use Rattle.pins_levels.specs.Wave.{clock_of, turn_of}
use Rattle.pins_levels.specs.Session.{ran, is_told, all_told, Lawful}
use Rattle.c_pins.specs.Chip.{Held, held, after, fm3130_on}

-- a device with main power
abbrev on : Phase → ℕ → Companion → List ℕ → Held
on p a c m = held (record { power = On; phase = p; address = a; companion = c }) m

-- two devices that are the same, but for where a transfer stands
data Near : Held → Held → Type 0 where
  equal : (h : Held) → Near h h
  phases : (p q : Phase) (a : ℕ) (c : Companion) (m : List ℕ) → Near (on p a c m) (on q a c m)

abbrev happens : Held → ℕ → Held
happens h e = after (event_of h.state h.memory e)

module _ (p : Phase) (a : ℕ) (c : Companion) (m : List ℕ) (x : is_eighth p ≡ false) where
  clock_on_lem : (d : Bool) → happens (on p a c m) (clock_of d) ≡ on (clocked fm3130 p (lent m a) c d).state.phase a c m
  unfolding event_on happening lined
  clock_on_lem true =
      let k = clock_keeps fm3130 p (lent m a) c true x in
      λ i. on (clocked fm3130 p (lent m a) c true).state.phase (k.memory i).address (k.companion i) (k.memory i).bytes
  clock_on_lem false =
      let k = clock_keeps fm3130 p (lent m a) c false x in
      λ i. on (clocked fm3130 p (lent m a) c false).state.phase (k.memory i).address (k.companion i) (k.memory i).bytes

clock_off : (w : Power) (p : Phase) (a : ℕ) (c : Companion) (m : List ℕ) (d : Bool) → is_eighth p ≡ false
    → Near (happens (held (record { power = w; phase = p; address = a; companion = c }) m) (clock_of d))
    (held (record { power = w; phase = p; address = a; companion = c }) m)
unfolding event_on happening
clock_off On p a c m d x =
    subst (λ (h : Held). Near h (on p a c m)) (sym (clock_on_lem p a c m x d))
    (phases (clocked fm3130 p (lent m a) c d).state.phase p a c m)
clock_off Backup p a c m true x = equal _
clock_off Backup p a c m false x = equal _
clock_off Off p a c m true x = equal _
clock_off Off p a c m false x = equal _

clock_near : (h : Held) (d : Bool) → is_eighth h.state.phase ≡ false → Near (happens h (clock_of d)) h
clock_near h d x =
    clock_off h.state.power h.state.phase h.state.address h.state.companion h.memory d x

-- a tick or a power event is one of four
told_cases : (X : ℕ → Type 0) (e : ℕ) → is_told e ≡ true → X 4 → X 5 → X 6 → X 7 → X e
told_cases X e h a b c d =
    let k = and_split (leb 4 e) (leb e 7) h in
    let l = leb-true 4 e k.0 in
    let u = leb-true e 7 k.1 in
    by_test (eqb e 4) (λ q. subst X (sym (eqb-true e 4 q)) a)
    (λ q₄. by_test (eqb e 5) (λ q. subst X (sym (eqb-true e 5 q)) b)
    (λ q₅. by_test (eqb e 6) (λ q. subst X (sym (eqb-true e 6 q)) c)
    (λ q₆. let n₄ = eqb-false e 4 q₄ in let n₅ = eqb-false e 5 q₅ in let n₆ = eqb-false e 6 q₆ in
    let z : e ≡ 7 = omega arith in subst X (sym z) d)))

near_four : (h g : Held) → Near h g → Near (happens h 4) (happens g 4)
unfolding event_on happening
near_four h g (equal x) = equal (happens x 4)
near_four h g (phases p q a c m) = phases p q a _ m

near_five : (h g : Held) → Near h g → Near (happens h 5) (happens g 5)
unfolding event_on happening
near_five h g (equal x) = equal (happens x 5)
near_five h g (phases p q a c m) = equal _

near_six : (h g : Held) → Near h g → Near (happens h 6) (happens g 6)
unfolding event_on happening
near_six h g (equal x) = equal (happens x 6)
near_six h g (phases p q a c m) = equal _

near_seven : (h g : Held) → Near h g → Near (happens h 7) (happens g 7)
unfolding event_on happening
near_seven h g (equal x) = equal (happens x 7)
near_seven h g (phases p q a c m) = phases p q a c m

told_near : (e : ℕ) → is_told e ≡ true → (h g : Held) → Near h g → Near (happens h e) (happens g e)
told_near e k h g n =
    told_cases (λ (x : ℕ). Near (happens h x) (happens g x)) e k
    (near_four h g n) (near_five h g n) (near_six h g n) (near_seven h g n)

turn_near : (e : Bool) (h g : Held) → Near h g → happens h (turn_of e) ≡ happens g (turn_of e)
unfolding event_on happening lined
turn_near true h g (equal x) = refl
turn_near true h g (phases p q a c m) = refl
turn_near false h g (equal x) = refl
turn_near false h g (phases p q a c m) = refl

near_run : (e : Bool) (ts : List ℕ) → all_told ts ≡ true → (h g : Held) → Near h g
    → ran fm3130_on h (ts ++ (turn_of e ∷ [])) ≡ ran fm3130_on g (ts ++ (turn_of e ∷ []))
unfolding ran all_told
near_run e [] k h g n = turn_near e h g n
near_run e (t ∷ ts) k h g n =
    let s = and_split (is_told t) (all_told ts) k in
    near_run e ts s.1 (happens h t) (happens g t) (told_near t s.0 h g n)

pub lawful : Lawful fm3130_on
unfolding ran
lawful = record { dropped = λ s d e ts k x. near_run e ts k (happens s (clock_of d)) s (clock_near s d x) }
