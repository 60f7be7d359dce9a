-- SPDX-License-Identifier: Apache-2.0
-- Where a line of the log says that a byte was wholly read, a byte of the memory goes out with eight clocks done; and the
-- line has what looking back over the history tells.
use Prim.Native.Nat.{ℕ}
use mathlib.Core.Path.{◌≡◌, refl, sym, ap, ◌∙◌, subst}
use mathlib.Core.Bool.{Bool, true, false, cond}
use lib.Dec.{eqb}
use borrow.Author.Tests.{eqb-true}
use Rattle.wire.specs.Machine.{start, stop, clock}
use Rattle.wire.specs.declared.Side.TheVariants.{Memory, Companion}
use Rattle.wire.specs.declared.Phase.{Phase}
use Rattle.wire.specs.declared.Phase.TheVariants.{Idle, Slave, AddressHigh, AddressLow, Pointer, Write, Read}
use Rattle.wire.proofs.Tests.{by_test}
use Rattle.fm3130.specs.Event.{Happening, on_wire, beat, lost, gone, returned}
use Rattle.lamps.specs.History.{Moment, History, happened}
use Rattle.lamps.specs.Log.{clocks_of, due_of, refused_in, clocks_done, due_at, pulls, gave_at, gave_what, is_part, ninth, mark_from, mark_of}
use Rattle.lamps_eight.specs.declared.Mark.{Mark}
use Rattle.lamps_eight.specs.declared.Mark.TheVariants.{Failed, Ended, Ticked, Gave, Other}
use Rattle.lamps.specs.declared.Due.{Due}
use Rattle.lamps.specs.declared.Due.TheVariants.{Value, Silence, Acknowledge}
use Rattle.law_maintenance.proofs.Under.{no, At}

-- a line that says a byte was wholly read stands at its ninth clock
abbrev pub is_gave : Mark → Bool
is_gave Failed = false
is_gave Ended = false
is_gave Ticked = false
is_gave (Gave a v) = true
is_gave Other = false

abbrev is_value : Due → Bool
is_value Value = true
is_value Silence = false
is_value Acknowledge = false

ninth_value : (d : Due) (u : Bool) (a v : ℕ) → is_gave (ninth d u a v) ≡ true → is_value d ≡ true
ninth_value Value u a v e = refl
ninth_value Silence u a v e = no e
ninth_value Acknowledge true a v e = no e
ninth_value Acknowledge false a v e = no e

pub gave_at_lem : (y : Happening) (k : ℕ) (d : Due) (u : Bool) (a v : ℕ) → is_gave (mark_from y k d u a v) ≡ true
    → (k ≡ 8) × (is_value d ≡ true)
gave_at_lem (on_wire start) k d u a v e = by_test (is_part k) (λ q. no (rw q at e)) (λ q. no (rw q at e))
gave_at_lem (on_wire stop) k d u a v e = by_test (is_part k) (λ q. no (rw q at e)) (λ q. no (rw q at e))
gave_at_lem (on_wire (clock z)) k d u a v e =
    by_test (eqb k 8) (λ q. (eqb-true k 8 q, ninth_value d u a v (rw q at e))) (λ q. no (rw q at e))
gave_at_lem (beat t') k d u a v e = no e
gave_at_lem lost k d u a v e = no e
gave_at_lem gone k d u a v e = no e
gave_at_lem returned k d u a v e = no e

-- then the line has the address and the value
gave_is : (y : Happening) (k : ℕ) (d : Due) (u : Bool) (a v : ℕ) → is_gave (mark_from y k d u a v) ≡ true
    → mark_from y k d u a v ≡ Gave a v
gave_is (on_wire start) k d u a v e = by_test (is_part k) (λ q. no (rw q at e)) (λ q. no (rw q at e))
gave_is (on_wire stop) k d u a v e = by_test (is_part k) (λ q. no (rw q at e)) (λ q. no (rw q at e))
gave_is (on_wire (clock z)) k d u a v e =
    by_test (eqb k 8) (λ q. rw q (ninth_is d u a v (rw q at e))) (λ q. no (rw q at e))
  where
    ninth_is : (d : Due) (u : Bool) (a v : ℕ) → is_gave (ninth d u a v) ≡ true → ninth d u a v ≡ Gave a v
    ninth_is Value u a v e = refl
    ninth_is Silence u a v e = no e
    ninth_is Acknowledge true a v e = no e
    ninth_is Acknowledge false a v e = no e
gave_is (beat t') k d u a v e = no e
gave_is lost k d u a v e = no e
gave_is gone k d u a v e = no e
gave_is returned k d u a v e = no e

abbrev address_in : Mark → ℕ
address_in Failed = 0
address_in Ended = 0
address_in Ticked = 0
address_in (Gave a v) = a
address_in Other = 0

abbrev value_in : Mark → ℕ
value_in Failed = 0
value_in Ended = 0
value_in Ticked = 0
value_in (Gave a v) = v
value_in Other = 0

-- what is known where a line says that the byte at `a` was wholly read and gave `v`
pub record Ninth (Q : ℕ → ℕ → Type 0) (p : Phase) (h : History) (a v : ℕ) : Type 0 where
  pub byte : ℕ
  pub phase : p ≡ Read Memory 8 byte
  pub here : Q 8 byte
  pub address : gave_at h ≡ a
  pub value : gave_what h ≡ v

module _ (Q : ℕ → ℕ → Type 0) where
  pub record Eighth (p : Phase) : Type 0 where
    pub byte : ℕ
    pub phase : p ≡ Read Memory 8 byte
    pub here : Q 8 byte

  value_at : (r : Bool) (p : Phase) → cond r 8 (clocks_of p) ≡ 8 → is_value (cond r Acknowledge (due_of p)) ≡ true → At Q p → Eighth p
  value_at true p k d h = no d
  value_at false Idle k d h = no d
  value_at false (Slave i b) k d h = no d
  value_at false (AddressHigh i b) k d h = no d
  value_at false (AddressLow u i b) k d h = no d
  value_at false (Pointer i b) k d h = no d
  value_at false (Write s i b) k d h = no d
  value_at false (Read Companion i b) k d h = no d
  value_at false (Read Memory i b) k d h = record { byte = b; phase = ap (λ (n : ℕ). Read Memory n b) k; here = subst (λ (n : ℕ). Q n b) k h }

  pub ninth_of_lem : (x : Moment) (h : History) (a v : ℕ) → mark_of x h ≡ Gave a v → At Q x.state.phase → Ninth Q x.state.phase h a v
  ninth_of_lem x h a v q u =
      let is : is_gave (mark_of x h) ≡ true = ap is_gave q in
      let at = gave_at_lem (happened x) (clocks_done x h) (due_at x h) (pulls x) (gave_at h) (gave_what h) is in
      let same = sym (gave_is (happened x) (clocks_done x h) (due_at x h) (pulls x) (gave_at h) (gave_what h) is) ∙ q in
      let e = value_at (refused_in h) x.state.phase at.0 at.1 u in
      record { byte = e.byte; phase = e.phase; here = e.here; address = ap address_in same; value = ap value_in same }
