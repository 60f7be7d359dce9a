-- SPDX-License-Identifier: Apache-2.0
-- Every event keeps the limits: proved once, over any part whose memory and companion keep their own.
--   PartKeeps   what is asked of a part       StateOk   a state within its limits       step_keeps   the theorem
use Prim.Native.Nat.{ℕ, ◌<◌}
use mathlib.Core.Path.{◌≡◌, refl}
use mathlib.Core.Bool.{Bool, true, cond}
use lib.Dec.{eqb}
use Rattle.wire.specs.Slave.{answers}
use Rattle.wire.specs.Clock.{Half, Receiver, received}
use Rattle.wire.specs.Kinds.{slave_byte, high_byte, low_byte, memory_byte, memory_read, pointer_byte, companion_byte, companion_read}
use Rattle.wire.specs.Limits.{bits_fit, phase_within}
use Rattle.wire.specs.Machine.{Parts, start, stop, clock, Event, line, tick, State, beside, beyond, neither, clocked, lined, step}
use Rattle.wire.specs.declared.Side.TheVariants.{Memory, Companion}
use Rattle.wire.specs.declared.Phase.{Phase}
use Rattle.wire.specs.declared.Phase.TheVariants.{Idle, Slave, AddressHigh, AddressLow, Pointer, Write, Read}
use Rattle.wire.proofs.Tests.{and_split}
use Rattle.wire.proofs.Limits.{Any, Within, Kept, ReceiverKeeps, received_keeps, sent_keeps, slave_keeps, high_keeps, low_keeps, pointer_keeps, data_keeps, read_keeps}

-- What is asked of a part: that its memory and its companion keep their limits, and that only legal companion addresses are
-- acknowledged.
pub record PartKeeps (P : Parts) : Type 1 where
  pub CellsOk : P.Cells → Type 0
  pub DeskOk : P.Desk → Type 0
  pub legal : ℕ → Bool
  pub point : (m : P.Cells) (h b : ℕ) → CellsOk m → CellsOk (P.point m h b)
  pub put : (g : P.Guard) (m : P.Cells) (b : ℕ) → b < 256 → CellsOk m → CellsOk (P.put g m b).next
  pub step_on : (m : P.Cells) → CellsOk m → CellsOk (P.step_on m)
  pub aim : (c : P.Desk) (b : ℕ) → b < 256 → DeskOk c → DeskOk (P.aim c b).next
  pub aim_legal : (c : P.Desk) (b : ℕ) → (P.aim c b).good ≡ true → legal b ≡ true
  pub store : (c : P.Desk) (b : ℕ) → b < 256 → DeskOk c → DeskOk (P.store c b).next
  pub loaded : (c : P.Desk) (b : ℕ) → DeskOk c → DeskOk (P.loaded c b)
  pub ticked : (t : P.Tick) (c : P.Desk) → DeskOk c → DeskOk (P.ticked t c)

module _ (P : Parts) (K : PartKeeps P) where
  pub record StateOk (s : State P) : Type 0 where
    pub phase : Within P.names K.legal s.phase
    pub memory : K.CellsOk s.memory
    pub companion : K.DeskOk s.companion

  module _ (m : P.Cells) (c : P.Desk) (mo : K.CellsOk m) (co : K.DeskOk c) where
    beside_ok : {h : Half P.Cells} → Kept P.names K.legal K.CellsOk h → StateOk (beside P c h).state
    beside_ok r = record { phase = r.phase; memory = r.part; companion = co }

    beyond_ok : {h : Half P.Desk} → Kept P.names K.legal K.DeskOk h → StateOk (beyond P m h).state
    beyond_ok r = record { phase = r.phase; memory = mo; companion = r.part }

    neither_ok : {h : Half (Unit {0})} → Kept P.names K.legal Any h → StateOk (neither P m c h).state
    neither_ok r = record { phase = r.phase; memory = mo; companion = co }

    -- a byte of no device, of the memory, of the companion
    bare : (R : Receiver (Unit {0})) → ReceiverKeeps P.names K.legal Any R
        → (k b : ℕ) (d : Bool) → bits_fit k b ≡ true → StateOk (neither P m c (received R tt k b d)).state
    bare R r k b d w = neither_ok (received_keeps P.names K.legal Any R r tt k b d w tt)

    memory_in : (R : Receiver P.Cells) → ReceiverKeeps P.names K.legal K.CellsOk R
        → (k b : ℕ) (d : Bool) → bits_fit k b ≡ true → StateOk (beside P c (received R m k b d)).state
    memory_in R r k b d w = beside_ok (received_keeps P.names K.legal K.CellsOk R r m k b d w mo)

    companion_in : (R : Receiver P.Desk) → ReceiverKeeps P.names K.legal K.DeskOk R
        → (k b : ℕ) (d : Bool) → bits_fit k b ≡ true → StateOk (beyond P m (received R c k b d)).state
    companion_in R r k b d w = beyond_ok (received_keeps P.names K.legal K.DeskOk R r c k b d w co)

    clocked_keeps : (p : Phase) (d : Bool) → Within P.names K.legal p → StateOk (clocked P p m c d).state
    unfolding clocked phase_within
    clocked_keeps Idle d w = record { phase = refl; memory = mo; companion = co }
    clocked_keeps (Slave k b) d w =
        bare (slave_byte P.names) (slave_keeps P.names K.legal) k b d
        (and_split (bits_fit k b) (cond (eqb k 8) (answers (P.names b)) true) w).0
    clocked_keeps (AddressHigh k b) d w = bare high_byte (high_keeps P.names K.legal) k b d w
    clocked_keeps (AddressLow h k b) d w =
        memory_in (low_byte P.point h)
        (low_keeps P.names K.legal K.CellsOk P.point h (λ n x. K.point n h x)) k b d w
    clocked_keeps (Pointer k b) d w =
        companion_in (pointer_byte P.aim)
        (pointer_keeps P.names K.legal K.DeskOk P.aim K.aim K.aim_legal) k b d
        (and_split (bits_fit k b) (cond (eqb k 8) (K.legal b) true) w).0
    clocked_keeps (Write Memory k b) d w =
        memory_in (memory_byte (P.put (P.guard c)))
        (data_keeps P.names K.legal K.CellsOk Memory (P.put (P.guard c)) (K.put (P.guard c))) k b d w
    clocked_keeps (Write Companion k b) d w =
        companion_in (companion_byte P.store)
        (data_keeps P.names K.legal K.DeskOk Companion P.store K.store) k b d w
    clocked_keeps (Read Memory k b) d w =
        beside_ok (sent_keeps P.names K.legal K.CellsOk (memory_read P.fetch P.step_on)
        (read_keeps P.names K.legal K.CellsOk Memory P.fetch (λ n x. P.step_on n) (λ n x. K.step_on n)) m k b d mo)
    clocked_keeps (Read Companion k b) d w =
        beyond_ok (sent_keeps P.names K.legal K.DeskOk (companion_read P.load P.loaded)
        (read_keeps P.names K.legal K.DeskOk Companion P.load P.loaded K.loaded) c k b d co)

  -- every event of the machine
  pub step_keeps : (s : State P) (e : Event P.Tick) → StateOk s → StateOk (step P s e).state
  unfolding lined phase_within bits_fit
  step_keeps s (line start) o = record { phase = refl; memory = o.memory; companion = o.companion }
  step_keeps s (line stop) o = record { phase = refl; memory = o.memory; companion = o.companion }
  step_keeps s (line (clock d)) o = clocked_keeps s.memory s.companion o.memory o.companion s.phase d o.phase
  step_keeps s (tick t) o =
      record { phase = o.phase; memory = o.memory; companion = K.ticked t s.companion o.companion }
