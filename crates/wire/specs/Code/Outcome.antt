-- SPDX-License-Identifier: Apache-2.0
-- What the engine's functions return, in terms of the machine's halves.
use Rattle.std.specs.Prelude.{ℕ, ◌≡◌, Bool, List}
use Rattle.wire.specs.Clock.{Half, Taken, Receiver, Sender}
use Rattle.wire.specs.Memory.{Cells}
use Rattle.wire.specs.declared.Side.{Side}
use Rattle.wire.specs.declared.Phase.{Phase}
use Rattle.wire.specs.declared.Phase.TheVariants.{Read}
use Rattle.wire.specs.declared.Turned.{Turned}
use Rattle.wire.specs.declared.Moved.{Moved}
use Rattle.wire.specs.declared.Put.{Put}

-- Auxiliary: a clock that touched no device.
abbrev pub turned_of : Half (Unit {0}) → Turned
turned_of h = record { phase = h.phase; line = h.line }

-- Auxiliary: a byte that comes in, given its next phase, whether it is acknowledged, and the phase after its acknowledge; a
-- byte that goes out, given the byte at the address.
abbrev pub incoming : Phase → Bool → Phase → Receiver (Unit {0})
incoming p g q = record { here = λ k b. p; take = λ u b. record { next = u; good = g }; after = λ b. q }

abbrev pub outgoing : Side → ℕ → Sender (Unit {0})
outgoing s x = record { here = Read s; fetch = λ u. x; done = λ u b. u }

-- Auxiliary: a clock that served the memory; the bytes stay with their lender.
abbrev pub with_address : Turned → ℕ → Moved
with_address t a = record { phase = t.phase; address = a; line = t.line }

abbrev pub moved_of : Half Cells → Moved
moved_of h = record { phase = h.phase; address = h.part.address; line = h.line }

-- A clock that may change the bytes: what it returns, and the bytes as it leaves them.
pub record MovedWith (r : Moved) (m : List ℕ) (h : Half Cells) : Type 0 where
  pub result : r ≡ moved_of h
  pub bytes : m ≡ h.part.bytes

-- A whole data byte: what is returned of it, and the bytes as it leaves them.
pub record PutWith (r : Put) (m : List ℕ) (t : Taken Cells) : Type 0 where
  pub result : r ≡ record { address = t.next.address; acknowledged = t.good }
  pub bytes : m ≡ t.next.bytes
