-- SPDX-License-Identifier: Apache-2.0
-- One event of the bus, in the turn of any party. In a party's phases a clock is handed only that party's device, so
-- that the other device, whatever it is, stays as it was, and is not seen but for its protection (`memory_own`,
-- `companion_own`). In the phases of others' transactions no device is handed over, and the line is the master's
-- (`foreign_own`).
use Prim.Native.Nat.{ℕ}
use mathlib.Core.Path.{◌≡◌, refl, ap}
use mathlib.Core.Bool.{Bool}
use Rattle.wire.specs.Bits.{Place, first, within, last, ack, place_at}
use Rattle.wire.specs.Clock.{received_at, received}
use Rattle.wire.specs.Kinds.{slave_byte, memory_byte}
use Rattle.wire.specs.Machine.{Parts, Line, start, stop, clock, Out, out, neither, beside, clocked, lined, masters_line}
use Rattle.wire.specs.declared.Side.TheVariants.{Memory, Companion}
use Rattle.wire.specs.declared.Phase.{Phase}
use Rattle.wire.specs.declared.Phase.TheVariants.{Idle, Slave, AddressHigh, AddressLow, Pointer, Write, Read}
use Rattle.law_merging.specs.Merge.{Reader, between, calling, moving, Calls, MayStand}
use Rattle.law_merging.specs.Party.{to, foreign}
use Rattle.law_merging.proofs.Stands.{Byte, Serves, Stands}

module _ (P : Parts) where
  -- an outcome with another device in the place of the one that was not handed over
  abbrev pub with_desk : P.Desk → Out P → Out P
  with_desk c o = out P o.state.phase o.state.memory c o.line

  abbrev pub with_cells : P.Cells → Out P → Out P
  with_cells m o = out P o.state.phase m o.state.companion o.line

  -- the memory's own events see nothing of the companion but its protection
  memory_clock : (p : Phase) (m : P.Cells) (c g : P.Desk) (d : Bool) → P.guard c ≡ P.guard g → Serves P Memory p
      → clocked P p m c d ≡ with_desk c (clocked P p m g d)
  unfolding clocked
  memory_clock Idle m c g d v h = refl
  memory_clock (Slave k b) m c g d v h = refl
  memory_clock (AddressHigh k b) m c g d v h = refl
  memory_clock (AddressLow y k b) m c g d v h = refl
  memory_clock (Pointer k b) m c g d v h = absurd h
  memory_clock (Write Memory k b) m c g d v h =
      ap (λ (w : P.Guard). beside P c (received (memory_byte (P.put w)) m k b d)) v
  memory_clock (Write Companion k b) m c g d v h = absurd h
  memory_clock (Read Memory k b) m c g d v h = refl
  memory_clock (Read Companion k b) m c g d v h = absurd h

  pub memory_own : (q : Reader) (p : Phase) (m : P.Cells) (c g : P.Desk) (x : Line) → P.guard c ≡ P.guard g
      → MayStand (Byte P (to Memory)) q x → Stands P (to Memory) q p → lined P p m c x ≡ with_desk c (lined P p m g x)
  unfolding lined clocked
  memory_own q p m c g start v w s = refl
  memory_own q p m c g stop v w s = refl
  memory_own between p m c g (clock d) v w s = absurd w
  memory_own (calling k b) p m c g (clock d) v w s = rw s refl
  memory_own moving p m c g (clock d) v w s = memory_clock p m c g d v s

  -- the companion's own events see nothing of the memory
  companion_clock : (p : Phase) (m n : P.Cells) (c : P.Desk) (d : Bool) → Serves P Companion p
      → clocked P p m c d ≡ with_cells m (clocked P p n c d)
  unfolding clocked
  companion_clock Idle m n c d h = refl
  companion_clock (Slave k b) m n c d h = refl
  companion_clock (AddressHigh k b) m n c d h = refl
  companion_clock (AddressLow y k b) m n c d h = absurd h
  companion_clock (Pointer k b) m n c d h = refl
  companion_clock (Write Memory k b) m n c d h = absurd h
  companion_clock (Write Companion k b) m n c d h = refl
  companion_clock (Read Memory k b) m n c d h = absurd h
  companion_clock (Read Companion k b) m n c d h = refl

  pub companion_own : (q : Reader) (p : Phase) (m n : P.Cells) (c : P.Desk) (x : Line)
      → MayStand (Byte P (to Companion)) q x → Stands P (to Companion) q p
      → lined P p m c x ≡ with_cells m (lined P p n c x)
  unfolding lined clocked
  companion_own q p m n c start w s = refl
  companion_own q p m n c stop w s = refl
  companion_own between p m n c (clock d) w s = absurd w
  companion_own (calling k b) p m n c (clock d) w s = rw s refl
  companion_own moving p m n c (clock d) w s = companion_clock p m n c d s

  -- others' events move the phase alone, and the line is the master's
  module _ (m : P.Cells) (c : P.Desk) where
    foreign_calls : (l : Place) (k b : ℕ) (d : Bool) → Calls (Byte P foreign) l b d
        → neither P m c (received_at l (slave_byte P.names) tt k b d)
        ≡ out P (received_at l (slave_byte P.names) tt k b d).phase m c d
    unfolding received_at
    foreign_calls first k b d h = refl
    foreign_calls within k b d h = refl
    foreign_calls last k b d h = refl
    foreign_calls ack k b d h = absurd h

    pub foreign_own : (q : Reader) (p : Phase) (x : Line) → MayStand (Byte P foreign) q x → Stands P foreign q p
        → lined P p m c x ≡ out P (lined P p m c x).state.phase m c (masters_line x)
    unfolding lined clocked
    foreign_own q p start w s = refl
    foreign_own q p stop w s = refl
    foreign_own between p (clock d) w s = absurd w
    foreign_own (calling k b) p (clock d) w s = rw s (foreign_calls (place_at k) k b d w)
    foreign_own moving p (clock d) w s = rw s refl
