-- SPDX-License-Identifier: Apache-2.0
-- Where only a written byte can change a part's protection, it is enough to ask that no written byte does. An event
-- hands the companion to a clock in three kinds of phase only, and of these an address byte and a read leave the
-- protection; in all other phases the companion stays as it was.
use mathlib.Core.Path.{◌≡◌, refl}
use mathlib.Core.Bool.{Bool}
use mathlib.Core.List.{List, [], ◌∷◌}
use Rattle.wire.specs.Bits.{place_at}
use Rattle.wire.specs.Kinds.{pointer_byte, companion_read}
use Rattle.wire.specs.Machine.{Parts, start, stop, clock, line, tick, State, clocked, lined, stepped, step}
use Rattle.wire.specs.declared.Side.TheVariants.{Memory, Companion}
use Rattle.wire.specs.declared.Phase.{Phase}
use Rattle.wire.specs.declared.Phase.TheVariants.{Idle, Slave, AddressHigh, AddressLow, Pointer, Write, Read}
use Rattle.wire.proofs.Desk.{received_part, sent_part}
use Rattle.law_merging.specs.Party.{BusEvent}
use Rattle.law_merging.specs.Apart.{Steady}
use Rattle.law_merging.specs.Demand.{WhereWritten, IfWritten, OnlyWrites, WritesSteady}

module _ (P : Parts) (only : OnlyWrites P) where
  abbrev Keeps : P.Desk → P.Desk → Type 0
  Keeps c c' = P.guard c' ≡ P.guard c

  clock_keeps : (p : Phase) (m : P.Cells) (c : P.Desk) (d : Bool)
      → WhereWritten p (Keeps c (clocked P p m c d).state.companion)
      → Keeps c (clocked P p m c d).state.companion
  unfolding clocked
  clock_keeps Idle m c d h = refl
  clock_keeps (Slave k b) m c d h = refl
  clock_keeps (AddressHigh k b) m c d h = refl
  clock_keeps (AddressLow y k b) m c d h = refl
  clock_keeps (Pointer k b) m c d h =
      received_part (Keeps c) c refl (pointer_byte P.aim) (only.address_keeps c) (place_at k) k b d
  clock_keeps (Write Memory k b) m c d h = refl
  clock_keeps (Write Companion k b) m c d h = h
  clock_keeps (Read Memory k b) m c d h = refl
  clock_keeps (Read Companion k b) m c d h =
      sent_part (Keeps c) c refl (companion_read P.load P.loaded) (only.read_keeps c) (place_at k) k b d

  event_keeps : (p : Phase) (m : P.Cells) (c : P.Desk) (e : BusEvent P)
      → IfWritten p e (Keeps c (stepped P p m c e).state.companion) → Keeps c (stepped P p m c e).state.companion
  unfolding lined
  event_keeps p m c (line start) h = refl
  event_keeps p m c (line stop) h = refl
  event_keeps p m c (line (clock d)) h = clock_keeps p m c d h
  event_keeps p m c (tick t) h = only.tick_keeps t c

  pub steady_of_writes : (s : State P) (es : List (BusEvent P)) → WritesSteady P s es → Steady P s es
  steady_of_writes s [] h = tt
  steady_of_writes s (e ∷ es) h =
      (event_keeps s.phase s.memory s.companion e h.0, steady_of_writes (step P s e).state es h.1)

-- what holds of every event holds of those that write
module _ (P : Parts) where
  where_written : (p : Phase) {X : Type 0} → X → WhereWritten p X
  where_written Idle x = tt
  where_written (Slave k b) x = tt
  where_written (AddressHigh k b) x = tt
  where_written (AddressLow y k b) x = tt
  where_written (Pointer k b) x = tt
  where_written (Write Memory k b) x = tt
  where_written (Write Companion k b) x = x
  where_written (Read y k b) x = tt

  if_written : (p : Phase) (e : BusEvent P) {X : Type 0} → X → IfWritten p e X
  if_written p (line start) x = tt
  if_written p (line stop) x = tt
  if_written p (line (clock d)) x = where_written p x
  if_written p (tick t) x = tt

  pub writes_of_steady : (s : State P) (es : List (BusEvent P)) → Steady P s es → WritesSteady P s es
  writes_of_steady s [] h = tt
  writes_of_steady s (e ∷ es) h = (if_written s.phase e h.0, writes_of_steady (step P s e).state es h.1)
