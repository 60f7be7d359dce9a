-- SPDX-License-Identifier: Apache-2.0
-- Where the master pulls the line of a Clock low it is low, whatever the device does: so it is in every place of a byte
-- that comes in and of one that goes out, hence in every phase. Over any part.
use Prim.Native.Nat.{ℕ}
use mathlib.Core.Path.{◌≡◌, refl}
use mathlib.Core.Bool.{false}
use Rattle.wire.specs.Bits.{Place, first, within, last, ack, place_at}
use Rattle.wire.specs.Clock.{Receiver, received_at, Sender, sent_at}
use Rattle.wire.specs.Kinds.{slave_byte, high_byte, low_byte, memory_byte, memory_read}
use Rattle.wire.specs.Kinds.{pointer_byte, companion_byte, companion_read}
use Rattle.wire.specs.Machine.{Parts, clocked}
use Rattle.wire.specs.declared.Side.TheVariants.{Memory, Companion}
use Rattle.wire.specs.declared.Phase.{Phase}
use Rattle.wire.specs.declared.Phase.TheVariants.{Idle, Slave, AddressHigh, AddressLow, Pointer, Write, Read}

received_low : {A : Type 0} (l : Place) (R : Receiver A) (a : A) (k b : ℕ) → (received_at l R a k b false).line ≡ false
unfolding received_at
received_low first R a k b = refl
received_low within R a k b = refl
received_low last R a k b = refl
received_low ack R a k b = refl

sent_low : {A : Type 0} (l : Place) (S : Sender A) (a : A) (k b : ℕ) → (sent_at l S a k b false).line ≡ false
unfolding sent_at
sent_low first S a k b = refl
sent_low within S a k b = refl
sent_low last S a k b = refl
sent_low ack S a k b = refl

pub clocked_low : (P : Parts) (p : Phase) (m : P.Cells) (c : P.Desk) → (clocked P p m c false).line ≡ false
unfolding clocked
clocked_low P Idle m c = refl
clocked_low P (Slave k b) m c = received_low (place_at k) (slave_byte P.names) tt k b
clocked_low P (AddressHigh k b) m c = received_low (place_at k) high_byte tt k b
clocked_low P (AddressLow h k b) m c = received_low (place_at k) (low_byte P.point h) m k b
clocked_low P (Pointer k b) m c = received_low (place_at k) (pointer_byte P.aim) c k b
clocked_low P (Write Memory k b) m c = received_low (place_at k) (memory_byte (P.put (P.guard c))) m k b
clocked_low P (Write Companion k b) m c = received_low (place_at k) (companion_byte P.store) c k b
clocked_low P (Read Memory k b) m c = sent_low (place_at k) (memory_read P.fetch P.step_on) m k b
clocked_low P (Read Companion k b) m c = sent_low (place_at k) (companion_read P.load P.loaded) c k b
