-- SPDX-License-Identifier: Apache-2.0
-- The reader's place says what the phase can be (`Stands`), and an event keeps that (`stands_next`): a byte of any kind
-- leads only to its own phases, to the one after it, or to none (`received_at_lem`, `sent_at_lem`).
use Prim.Native.Nat.{ℕ, ◌+◌}
use mathlib.Core.Path.{◌≡◌, refl}
use mathlib.Core.Bool.{Bool, true, false}
use Rattle.wire.specs.Bits.{pushed, Place, first, within, last, ack, place_at}
use Rattle.wire.specs.Slave.{answers, opened}
use Rattle.wire.specs.Clock.{Receiver, received_at, kept, Sender, sent_at, more}
use Rattle.wire.specs.Kinds.{slave_byte, high_byte, low_byte, memory_byte, memory_read}
use Rattle.wire.specs.Kinds.{pointer_byte, companion_byte, companion_read}
use Rattle.wire.specs.Machine.{Parts, Line, start, stop, clock, clocked, lined}
use Rattle.wire.specs.declared.Side.{Side}
use Rattle.wire.specs.declared.Side.TheVariants.{Memory, Companion}
use Rattle.wire.specs.declared.Named.{Named}
use Rattle.wire.specs.declared.Named.TheVariants.{Nobody, Reads, Writes}
use Rattle.wire.specs.declared.Phase.{Phase}
use Rattle.wire.specs.declared.Phase.TheVariants.{Idle, Slave, AddressHigh, AddressLow, Pointer, Write, Read}
use Rattle.law_merging.specs.Merge.{Reader, between, calling, moving, onward, next, Calls, MayStand}
use Rattle.law_merging.specs.Party.{Party, to, foreign, Same, MayName}

-- a byte of any kind leads only to its own phases, to the one after it, or to none
module _ (X : Phase → Type 0) (idle : X Idle) where
  kept_phase : (g : Bool) (p : Phase) → X p → X (kept g p)
  unfolding kept
  kept_phase true p h = h
  kept_phase false p h = idle

  more_phase : (d : Bool) (p : Phase) → X p → X (more d p)
  unfolding more
  more_phase true p h = idle
  more_phase false p h = h

  received_at_lem : {A : Type 0} (R : Receiver A) → ((k b : ℕ) → X (R.here k b)) → ((b : ℕ) → X (R.after b))
      → (l : Place) (a : A) (k b : ℕ) (d : Bool) → X (received_at l R a k b d).phase
  unfolding received_at
  received_at_lem R here after first a k b d = here (k + 1) (pushed b d)
  received_at_lem R here after within a k b d = here (k + 1) (pushed b d)
  received_at_lem R here after last a k b d =
      kept_phase (R.take a (pushed b d)).good (R.here 8 (pushed b d)) (here 8 (pushed b d))
  received_at_lem R here after ack a k b d = after b

  sent_at_lem : {A : Type 0} (S : Sender A) → ((k b : ℕ) → X (S.here k b))
      → (l : Place) (a : A) (k b : ℕ) (d : Bool) → X (sent_at l S a k b d).phase
  unfolding sent_at
  sent_at_lem S here first a k b d = here 1 (S.fetch a)
  sent_at_lem S here within a k b d = here (k + 1) b
  sent_at_lem S here last a k b d = here 8 b
  sent_at_lem S here ack a k b d = more_phase d (S.here 0 0) (here 0 0)

module _ (P : Parts) where
  -- a slave byte that the party may say
  abbrev pub Byte : Party → ℕ → Type 0
  Byte i b = MayName i (P.names b)

  abbrev pub AtAck : Place → Type 0 → Type 0
  AtAck first X = ⊥
  AtAck within X = ⊥
  AtAck last X = ⊥
  AtAck ack X = X

  -- the phases past a complete slave byte that names a side; of one that names nobody
  abbrev pub Serves : Side → Phase → Type 0
  Serves x Idle = Unit {0}
  Serves x (Slave k b) = AtAck (place_at k) (Byte (to x) b)
  Serves x (AddressHigh k b) = Same x Memory
  Serves x (AddressLow h k b) = Same x Memory
  Serves x (Pointer k b) = Same x Companion
  Serves x (Write s k b) = Same x s
  Serves x (Read s k b) = Same x s

  abbrev pub Moves : Party → Phase → Type 0
  Moves (to x) p = Serves x p
  Moves foreign p = p ≡ Idle

  abbrev pub Stands : Party → Reader → Phase → Type 0
  Stands i between p = p ≡ Idle
  Stands i (calling k b) p = p ≡ Slave k b
  Stands i moving p = Moves i p

  -- the phase stays the party's
  called_moves : (i : Party) (n : Named) (v : ℕ) → MayName i n → Byte i v → Moves i (kept (answers n) (Slave 8 v))
  unfolding answers kept place_at
  called_moves (to x) Nobody v h w = absurd h
  called_moves (to x) (Reads s) v h w = w
  called_moves (to x) (Writes s) v h w = w
  called_moves foreign Nobody v h w = refl
  called_moves foreign (Reads s) v h w = absurd h
  called_moves foreign (Writes s) v h w = absurd h

  calls_moves : (i : Party) (l : Place) (k b : ℕ) (d : Bool) → Calls (Byte i) l b d
      → Stands i (onward l k b d) (received_at l (slave_byte P.names) tt k b d).phase
  unfolding received_at
  calls_moves i first k b d h = refl
  calls_moves i within k b d h = refl
  calls_moves i last k b d h = called_moves i (P.names (pushed b d)) (pushed b d) h h
  calls_moves i ack k b d h = absurd h

  module _ (x : Side) where
    opened_serves : (n : Named) → MayName (to x) n → Serves x (opened n)
    unfolding opened
    opened_serves Nobody h = tt
    opened_serves (Reads s) h = h
    opened_serves (Writes Memory) h = h
    opened_serves (Writes Companion) h = h

    slave_serves : (l : Place) (k b : ℕ) (d : Bool) → AtAck l (Byte (to x) b)
        → Serves x (received_at l (slave_byte P.names) tt k b d).phase
    unfolding received_at
    slave_serves first k b d h = absurd h
    slave_serves within k b d h = absurd h
    slave_serves last k b d h = absurd h
    slave_serves ack k b d h = opened_serves (P.names b) h

    clock_serves : (p : Phase) (m : P.Cells) (c : P.Desk) (d : Bool) → Serves x p
        → Serves x (clocked P p m c d).state.phase
    unfolding clocked
    clock_serves Idle m c d h = tt
    clock_serves (Slave k b) m c d h = slave_serves (place_at k) k b d h
    clock_serves (AddressHigh k b) m c d h =
        received_at_lem (Serves x) tt high_byte (λ k b. h) (λ b. h) (place_at k) tt k b d
    clock_serves (AddressLow y k b) m c d h =
        received_at_lem (Serves x) tt (low_byte P.point y) (λ k b. h) (λ b. h) (place_at k) m k b d
    clock_serves (Pointer k b) m c d h =
        received_at_lem (Serves x) tt (pointer_byte P.aim) (λ k b. h) (λ b. h) (place_at k) c k b d
    clock_serves (Write Memory k b) m c d h =
        received_at_lem (Serves x) tt (memory_byte (P.put (P.guard c))) (λ k b. h) (λ b. h) (place_at k) m k b d
    clock_serves (Write Companion k b) m c d h =
        received_at_lem (Serves x) tt (companion_byte P.store) (λ k b. h) (λ b. h) (place_at k) c k b d
    clock_serves (Read Memory k b) m c d h =
        sent_at_lem (Serves x) tt (memory_read P.fetch P.step_on) (λ k b. h) (place_at k) m k b d
    clock_serves (Read Companion k b) m c d h =
        sent_at_lem (Serves x) tt (companion_read P.load P.loaded) (λ k b. h) (place_at k) c k b d

  module _ (m : P.Cells) (c : P.Desk) where
    clock_moves : (i : Party) (p : Phase) (d : Bool) → Moves i p → Moves i (clocked P p m c d).state.phase
    unfolding clocked
    clock_moves (to x) p d h = clock_serves x p m c d h
    clock_moves foreign p d h = rw h refl

    clock_calls : (i : Party) (k b : ℕ) (d : Bool) → Calls (Byte i) (place_at k) b d
        → Stands i (onward (place_at k) k b d) (clocked P (Slave k b) m c d).state.phase
    unfolding clocked
    clock_calls i k b d h = calls_moves i (place_at k) k b d h

    pub stands_next : (i : Party) (q : Reader) (p : Phase) (x : Line) → MayStand (Byte i) q x → Stands i q p
        → Stands i (next q x) (lined P p m c x).state.phase
    unfolding lined
    stands_next i q p start w s = refl
    stands_next i q p stop w s = refl
    stands_next i between p (clock d) w s = absurd w
    stands_next i (calling k b) p (clock d) w s = rw s (clock_calls i k b d w)
    stands_next i moving p (clock d) w s = clock_moves i p d s
