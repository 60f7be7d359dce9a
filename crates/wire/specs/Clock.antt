-- SPDX-License-Identifier: Apache-2.0
-- One clock of a byte that comes in, and of a byte that goes out (01, Transfers). A clock is handed the one thing that its
-- phase may touch, of any type A, and hands it back: what is not handed over cannot change.
--   Half     phase, the thing handed over, line            Taken   what taking a byte leaves
--   Receiver, received   a byte from the master            Sender, sent   a byte to the master
use Rattle.std.specs.Prelude.{ℕ, ◌+◌, Bool, true, false, ◌&&◌}
use Rattle.wire.specs.Bits.{pushed, sent_bit, Place, first, within, last, ack, place_at}
use Rattle.wire.specs.declared.Phase.{Phase}
use Rattle.wire.specs.declared.Phase.TheVariants.{Idle}

-- What a clock leaves; `line` is true when the wire is high.
pub record Half (A : Type 0) : Type 0 where
  pub phase : Phase
  pub part : A
  pub line : Bool

abbrev pub half : {A : Type 0} → Phase → A → Bool → Half A
half p a d = record { phase = p; part = a; line = d }

-- What taking a byte leaves, and whether it is acknowledged. A refused byte, too, leaves a next state.
pub record Taken (A : Type 0) : Type 0 where
  pub next : A
  pub good : Bool

-- A byte that comes in: its phase by the clocks done and the bits so far, what takes it at its eighth clock, and the phase
-- that its acknowledge leads to.
pub record Receiver (A : Type 0) : Type 0 where
  pub here : ℕ → ℕ → Phase
  pub take : A → ℕ → Taken A
  pub after : ℕ → Phase

-- "Is not acknowledged .. and the transfer ends": already at the eighth clock.
unfoldable pub kept : Bool → Phase → Phase
kept true p = p
kept false p = Idle

-- "A data byte is stored at its eighth clock"; "the ninth clock is the acknowledge": the device pulls the line low.
unfoldable pub received_at : {A : Type 0} → Place → Receiver A → A → ℕ → ℕ → Bool → Half A
received_at first R a k b d = half (R.here (k + 1) (pushed b d)) a d
received_at within R a k b d = half (R.here (k + 1) (pushed b d)) a d
received_at last R a k b d =
    let t = R.take a (pushed b d) in half (kept t.good (R.here 8 (pushed b d))) t.next d
received_at ack R a k b d = half (R.after b) a false

abbrev pub received : {A : Type 0} → Receiver A → A → ℕ → ℕ → Bool → Half A
received R a k b d = received_at (place_at k) R a k b d

-- A byte that goes out: its phase, the byte at the current address, and what sending the whole byte does.
pub record Sender (A : Type 0) : Type 0 where
  pub here : ℕ → ℕ → Phase
  pub fetch : A → ℕ
  pub done : A → ℕ → A

-- "The master's low ninth bit continues, high ends."
unfoldable pub more : Bool → Phase → Phase
more true p = Idle
more false p = p

-- "The byte is fixed at its first clock; the address steps on at the eighth." The line is low if either pulls it low.
unfoldable pub sent_at : {A : Type 0} → Place → Sender A → A → ℕ → ℕ → Bool → Half A
sent_at first S a k b d = half (S.here 1 (S.fetch a)) a (d && sent_bit 0 (S.fetch a))
sent_at within S a k b d = half (S.here (k + 1) b) a (d && sent_bit k b)
sent_at last S a k b d = half (S.here 8 b) (S.done a b) (d && sent_bit 7 b)
sent_at ack S a k b d = half (more d (S.here 0 0)) a d

abbrev pub sent : {A : Type 0} → Sender A → A → ℕ → ℕ → Bool → Half A
sent S a k b d = sent_at (place_at k) S a k b d
