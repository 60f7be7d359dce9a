-- SPDX-License-Identifier: Apache-2.0
-- A clock's outcome by the phase that the bus is in, and an event's by its supply. Each law turns the case that a
-- `match` found into the definition at the matched value.
use Prim.Native.Nat.{ℕ, ◌/◌, ◌≤◌, ◌<◌}
use mathlib.Core.Path.{◌≡◌, refl}
use mathlib.Core.Bool.{Bool, true, false}
use mathlib.Core.List.{List}
use native.Mathlib.Omega.{arith}
use lib.Dec.{eqb}
use borrow.Author.Tests.{eqb-true, eqb-false}
use Rattle.bits.proofs.Cases.{Below, none, ◌then◌, below}
use Rattle.wire.specs.Memory.{Cells, lent}
use Rattle.wire.specs.Machine.{clock, out, clocked}
use Rattle.wire.specs.declared.Named.{Named}
use Rattle.wire.specs.declared.Phase.{Phase}
use Rattle.wire.specs.declared.Phase.TheVariants.{Idle}
use Rattle.bus.specs.Desk.{part_of}
use Rattle.bus.specs.Code.Desk.{hollow}
use Rattle.bus.specs.Happening.{Happening, on_wire, happening, edges}
use Rattle.bus.specs.Event.{event_on}
use Rattle.bus.specs.Code.Outcome.{Left, left, clocked_with, went_on}
use Rattle.bus.specs.declared.Power.{Power}
use Rattle.bus.specs.declared.Power.TheVariants.{On, Backup, Off}
use Rattle.bus.specs.declared.Bus.{Bus}
use Rattle.bus.specs.declared.Reply.{Reply}
use Rattle.bus.specs.declared.Went.{Went}

-- what is returned, and what is left
pub both : {r q : Went} {m n : List ℕ} → r ≡ q → m ≡ n → left r m ≡ left q n
both p e = λ i. left (p i) (e i)

pub went_is : {r q : Went} {m n : List ℕ} → left r m ≡ left q n → r ≡ q
went_is p = λ i. (p i).went

pub memory_is : {r q : Went} {m n : List ℕ} → left r m ≡ left q n → m ≡ n
memory_is p = λ i. (p i).memory

module _ (size : ℕ) (names : ℕ → Named) (guard : ℕ) (y : Reply) (u : Bus) (m : List ℕ) where
  pub at_phase : (high : Bool) {l : Left} {p q : Phase} → p ≡ q
      → l ≡ clocked_with size names guard y u m q high → l ≡ clocked_with size names guard y u m p high
  at_phase high e t = rw e t

  pub at_power : (x : Happening) {l : Left} {p q : Power} → p ≡ q
      → l ≡ went_on size names guard y q x u m → l ≡ went_on size names guard y p x u m
  at_power x e t = rw e t

  -- a Clock outside a transfer leaves the bus as it is
  idle_clocked : (p : Phase) (s : Cells) (d : Bool) → p ≡ Idle
      → clocked (part_of size names (hollow guard y)) p s tt d ≡ out (part_of size names (hollow guard y)) p s tt d
  unfolding clocked
  idle_clocked p s d e = rw e

  pub idle_clock : (high : Bool) → u.phase ≡ Idle
      → left (record { bus = u; line = high }) m ≡ clocked_with size names guard y u m u.phase high
  idle_clock high e = rw (idle_clocked u.phase (lent m u.address) high e)

  -- the events that change nothing of the bus, by the supplies
  abbrev Same : Power → ℕ → Type 0
  Same p e = left (record { bus = u; line = true }) m ≡ went_on size names guard y p (happening edges e) u m

  pub same_on : (e : ℕ) → e < 10 → (e / 2 ≡ 1 → ⊥) → (e ≡ 0 → ⊥) → (e ≡ 1 → ⊥) → (e ≡ 5 → ⊥) → (e ≡ 6 → ⊥) → Same On e
  unfolding happening event_on
  same_on e l =
      below (λ e. (e / 2 ≡ 1 → ⊥) → (e ≡ 0 → ⊥) → (e ≡ 1 → ⊥) → (e ≡ 5 → ⊥) → (e ≡ 6 → ⊥) → Same On e) each e l
    where
      each : Below (λ e. (e / 2 ≡ 1 → ⊥) → (e ≡ 0 → ⊥) → (e ≡ 1 → ⊥) → (e ≡ 5 → ⊥) → (e ≡ 6 → ⊥) → Same On e) 10
      each =
          none then (λ k a b c d. absurd (a refl)) then (λ k a b c d. absurd (b refl))
          then (λ k a b c d. absurd (k refl)) then (λ k a b c d. absurd (k refl))
          then (λ k a b c d. refl) then (λ k a b c d. absurd (c refl)) then (λ k a b c d. absurd (d refl))
          then (λ k a b c d. refl) then (λ k a b c d. refl) then (λ k a b c d. refl)

  pub same_backup : (e : ℕ) → e < 10 → (e / 2 ≡ 1 → ⊥) → (e ≡ 6 → ⊥) → (e ≡ 7 → ⊥) → Same Backup e
  unfolding happening event_on
  same_backup e l = below (λ e. (e / 2 ≡ 1 → ⊥) → (e ≡ 6 → ⊥) → (e ≡ 7 → ⊥) → Same Backup e) each e l
    where
      each : Below (λ e. (e / 2 ≡ 1 → ⊥) → (e ≡ 6 → ⊥) → (e ≡ 7 → ⊥) → Same Backup e) 10
      each =
          none then (λ k a b. refl) then (λ k a b. refl)
          then (λ k a b. absurd (k refl)) then (λ k a b. absurd (k refl))
          then (λ k a b. refl) then (λ k a b. refl) then (λ k a b. absurd (a refl)) then (λ k a b. absurd (b refl))
          then (λ k a b. refl) then (λ k a b. refl)

  pub same_off : (e : ℕ) → e < 10 → (e / 2 ≡ 1 → ⊥) → (e ≡ 7 → ⊥) → Same Off e
  unfolding happening event_on
  same_off e l = below (λ e. (e / 2 ≡ 1 → ⊥) → (e ≡ 7 → ⊥) → Same Off e) each e l
    where
      each : Below (λ e. (e / 2 ≡ 1 → ⊥) → (e ≡ 7 → ⊥) → Same Off e) 10
      each =
          none then (λ k a. refl) then (λ k a. refl) then (λ k a. absurd (k refl)) then (λ k a. absurd (k refl))
          then (λ k a. refl) then (λ k a. refl) then (λ k a. refl) then (λ k a. absurd (a refl))
          then (λ k a. refl) then (λ k a. refl)

-- an event byte of 2 or 3 is a Clock, with the master's line high at 3
clock_by : (e : ℕ) (t : Bool) → eqb e 3 ≡ t → e / 2 ≡ 1 → happening edges e ≡ on_wire (clock t)
unfolding happening
clock_by e true q h = rw (eqb-true e 3 q)
clock_by e false q h = let n = eqb-false e 3 q in let two : e ≡ 2 = omega arith in rw two

pub happening_clock : (e : ℕ) → e / 2 ≡ 1 → happening edges e ≡ on_wire (clock (eqb e 3))
happening_clock e h = clock_by e (eqb e 3) refl h

pub below_ten : (e : ℕ) → e ≤ 9 → e < 10
below_ten e h = omega arith
