-- SPDX-License-Identifier: Apache-2.0
-- What is kept of the companion, over any part: a property that an address byte, a data byte, a read and a tick keep is
-- kept by every event of the machine, in any phase. A clock changes what it was handed at one place of its byte only.
--   received_part, sent_part   one clock            DeskKeeps, step_desk   every event
use Prim.Native.Nat.{ℕ}
use mathlib.Core.Bool.{Bool}
use Rattle.wire.specs.Bits.{Place, first, within, last, ack, place_at, pushed}
use Rattle.wire.specs.Clock.{Receiver, received_at, Sender, sent_at}
use Rattle.wire.specs.Kinds.{pointer_byte, companion_byte, companion_read}
use Rattle.wire.specs.Machine.{Parts, start, stop, clock, Event, line, tick, State, clocked, lined, step}
use Rattle.wire.specs.declared.Side.TheVariants.{Memory, Companion}
use Rattle.wire.specs.declared.Phase.{Phase}
use Rattle.wire.specs.declared.Phase.TheVariants.{Idle, Slave, AddressHigh, AddressLow, Pointer, Write, Read}

-- a byte changes what it serves when it is taken, or when it has been sent, and not else
module _ {A : Type 0} (X : A → Type 0) (a : A) (before : X a) where
  pub received_part : (R : Receiver A) → ((b : ℕ) → X (R.take a b).next) → (l : Place) (k b : ℕ) (d : Bool)
      → X (received_at l R a k b d).part
  unfolding received_at
  received_part R taken first k b d = before
  received_part R taken within k b d = before
  received_part R taken last k b d = taken (pushed b d)
  received_part R taken ack k b d = before

  pub sent_part : (S : Sender A) → ((b : ℕ) → X (S.done a b)) → (l : Place) (k b : ℕ) (d : Bool)
      → X (sent_at l S a k b d).part
  unfolding sent_at
  sent_part S done first k b d = before
  sent_part S done within k b d = before
  sent_part S done last k b d = done b
  sent_part S done ack k b d = before

-- what is asked of a part
pub record DeskKeeps (P : Parts) (Ok : P.Desk → Type 0) : Type 0 where
  pub aim : (c : P.Desk) (b : ℕ) → Ok c → Ok (P.aim c b).next
  pub store : (c : P.Desk) (b : ℕ) → Ok c → Ok (P.store c b).next
  pub loaded : (c : P.Desk) (b : ℕ) → Ok c → Ok (P.loaded c b)
  pub ticked : (t : P.Tick) (c : P.Desk) → Ok c → Ok (P.ticked t c)

module _ (P : Parts) (Ok : P.Desk → Type 0) (K : DeskKeeps P Ok) where
  clocked_desk : (p : Phase) (m : P.Cells) (c : P.Desk) (d : Bool) → Ok c → Ok (clocked P p m c d).state.companion
  unfolding clocked
  clocked_desk Idle m c d o = o
  clocked_desk (Slave k b) m c d o = o
  clocked_desk (AddressHigh k b) m c d o = o
  clocked_desk (AddressLow h k b) m c d o = o
  clocked_desk (Pointer k b) m c d o =
      received_part Ok c o (pointer_byte P.aim) (λ x. K.aim c x o) (place_at k) k b d
  clocked_desk (Write Memory k b) m c d o = o
  clocked_desk (Write Companion k b) m c d o =
      received_part Ok c o (companion_byte P.store) (λ x. K.store c x o) (place_at k) k b d
  clocked_desk (Read Memory k b) m c d o = o
  clocked_desk (Read Companion k b) m c d o =
      sent_part Ok c o (companion_read P.load P.loaded) (λ x. K.loaded c x o) (place_at k) k b d

  pub step_desk : (s : State P) (e : Event P.Tick) → Ok s.companion → Ok (step P s e).state.companion
  unfolding lined
  step_desk s (line start) o = o
  step_desk s (line stop) o = o
  step_desk s (line (clock d)) o = clocked_desk s.phase s.memory s.companion d o
  step_desk s (tick t) o = K.ticked t s.companion o
