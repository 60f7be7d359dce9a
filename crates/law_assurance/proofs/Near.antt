-- SPDX-License-Identifier: Apache-2.0
-- Two devices that a master cannot tell apart by reads whose address it sets: alike in registers, core and some memory
-- bytes; in an address only where the master set it.
--   Near, Phases, Placed, Met      parts of the machine; phases; addresses that a phase needs; what a clock leaves
--   by_place                       a byte's clocks, by what was done of them
use Prim.Native.Nat.{ℕ, zero, suc, ◌≤◌, ◌<◌}
use mathlib.Core.Path.{◌≡◌, refl}
use mathlib.Core.Bool.{Bool, true}
use mathlib.Core.List.{List, [], ◌∷◌}
use native.Mathlib.Omega.{arith}
use lib.Dec.{ltb, eqb}
use lib.ListN.{length, get_or, set}
use borrow.Author.Tests.{ltb-true, ltb-false, eqb-true, eqb-false}
use Rattle.wire.specs.Memory.{Cells}
use Rattle.wire.specs.Machine.{Out}
use Rattle.wire.specs.declared.Side.TheVariants.{Memory, Companion}
use Rattle.wire.specs.declared.Phase.{Phase}
use Rattle.wire.specs.declared.Phase.TheVariants.{Idle, Slave, AddressHigh, AddressLow, Pointer, Write, Read}
use Rattle.wire.proofs.Tests.{by_test}
use Rattle.fm3130_companion.specs.declared.Companion.{Companion as Desk}
use Rattle.fm3130.specs.Chip.{fm3130}

pub record Near (A : ℕ → Bool) (t : Bool) (m : Cells) (c : Desk) (n : Cells) (e : Desk) : Type 0 where
  pub bytes : (a : ℕ) → A a ≡ true → get_or m.bytes a 0 ≡ get_or n.bytes a 0
  pub size : length m.bytes ≡ length n.bytes
  pub registers : c.registers ≡ e.registers
  pub core : c.core ≡ e.core
  pub address : t ≡ true → c.address ≡ e.address

-- the same phase, but for a memory byte that goes out
pub data Phases : Phase → Phase → Type 0 where
  equal : {p : Phase} → Phases p p
  sending : {k b z : ℕ} → Phases (Read Memory k b) (Read Memory k z)

-- a phase in which a byte is stored at an address has the address that the master set
abbrev pub Placed : Phase → Cells → Desk → Cells → Desk → Type 0
Placed Idle m c n e = Unit {0}
Placed (Slave k b) m c n e = Unit {0}
Placed (AddressHigh k b) m c n e = Unit {0}
Placed (AddressLow h k b) m c n e = 8 ≤ k → m.address ≡ n.address
Placed (Pointer k b) m c n e = 8 ≤ k → c.address ≡ e.address
Placed (Write Memory k b) m c n e = m.address ≡ n.address
Placed (Write Companion k b) m c n e = c.address ≡ e.address
Placed (Read s k b) m c n e = Unit {0}

pub record Met (A : ℕ → Bool) (t : Bool) (o u : Out fm3130) : Type 0 where
  pub near : Near A t o.state.memory o.state.companion u.state.memory u.state.companion
  pub phases : Phases o.state.phase u.state.phase
  pub placed : Placed o.state.phase o.state.memory o.state.companion u.state.memory u.state.companion

pub by_place : {X : Type 0} (k : ℕ) → (k < 7 → X) → (k ≡ 7 → X) → (7 ≤ k → (k ≡ 7 → ⊥) → X) → X
by_place k f g h =
    by_test (ltb k 7) (λ l. f (ltb-true k 7 l))
    (λ l. by_test (eqb k 7) (λ q. g (eqb-true k 7 q)) (λ q. h (ltb-false k 7 l) (eqb-false k 7 q)))

-- one byte stored in both
pub set_alike : (m n : List ℕ) (i b x : ℕ) → length m ≡ length n → get_or m x 0 ≡ get_or n x 0
    → get_or (set m i b) x 0 ≡ get_or (set n i b) x 0
set_alike [] [] i b x l q = refl
set_alike [] (z ∷ n) i b x l q = absurd (omega arith)
set_alike (y ∷ m) [] i b x l q = absurd (omega arith)
set_alike (y ∷ m) (z ∷ n) zero b zero l q = refl
set_alike (y ∷ m) (z ∷ n) zero b (suc x) l q = q
set_alike (y ∷ m) (z ∷ n) (suc i) b zero l q = q
set_alike (y ∷ m) (z ∷ n) (suc i) b (suc x) l q = set_alike m n i b x (omega arith) q

-- companions that are alike in their address too
pub whole : (A : ℕ → Bool) (t : Bool) (m n : Cells) (c e : Desk) → Near A t m c n e → c.address ≡ e.address → c ≡ e
whole A t m n c e h q = λ k. record { registers = h.registers k; core = h.core k; address = q k }

pub weaken : {A : ℕ → Bool} {t : Bool} {m n : Cells} {c e : Desk} (u : Bool) → (u ≡ true → c.address ≡ e.address)
    → Near A t m c n e → Near A u m c n e
weaken u f h = record { bytes = h.bytes; size = h.size; registers = h.registers; core = h.core; address = f }

pub phases_idle : {p q : Phase} → Phases p q → p ≡ Idle → q ≡ Idle
phases_idle equal e = e
phases_idle sending e = absurd (let z : ◌≡◌ {A = ℕ} 0 1 = cc in omega arith)
