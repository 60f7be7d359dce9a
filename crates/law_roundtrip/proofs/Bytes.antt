-- SPDX-License-Identifier: Apache-2.0
-- The kinds of byte that a master's transactions have beyond those of a written byte (transfers): the slave byte of a read,
-- a byte that is read, a byte that nobody takes, and Stop.
use Prim.Native.Nat.{ℕ}
use mathlib.Core.Path.{refl}
use mathlib.Core.Bool.{Bool, true, false}
use mathlib.Core.List.{List, [], ◌∷◌}
use lib.ListN.{get_or}
use Rattle.wire.specs.Bits.{pushed, sent_bit, place_at}
use Rattle.wire.specs.Slave.{slave_names, answers, opened}
use Rattle.wire.specs.Clock.{sent_at, more}
use Rattle.wire.specs.Memory.{lent, next}
use Rattle.wire.specs.Machine.{clocked, lined}
use Rattle.wire.specs.Whole.{nine_bits}
use Rattle.wire.specs.declared.Side.TheVariants.{Memory}
use Rattle.wire.specs.declared.Phase.{Phase}
use Rattle.wire.specs.declared.Phase.TheVariants.{Idle, Slave, Read}
use Rattle.wire.proofs.Whole.{slave_answered}
use Rattle.fm3130_companion.specs.Part.{pin_of}
use Rattle.fm3130_companion.specs.declared.Companion.{Companion}
use Rattle.fm3130.specs.Chip.{memory_size, fm3130}
use Rattle.fm3130.specs.Event.{happening, event_on}
use Rattle.fm3130.specs.declared.State.{State}
use Rattle.fm3130_list.specs.Run.{run_of}
use Rattle.wire_clocks.specs.Clocks.{nine_clocks}
use Rattle.law_transfers.proofs.Runs.{Leads, led, line_shown}
use Rattle.law_transfers.proofs.Written.{on_bus}

-- no event at all
pub none_leads : (s : State) (m : List ℕ) → Leads s m [] s m []
unfolding run_of
none_leads s m = record { state = refl; memory = refl; lines = refl }

module _ (c : Companion) (m : List ℕ) (a : ℕ) where
  pub slave_read : Leads (on_bus (Slave 0 0) a c) m (nine_clocks 0xA1 true) (on_bus (Read Memory 0 0) a c) m (nine_bits 0xA1 false)
  unfolding pushed sent_bit slave_names answers opened
  slave_read = led _ _ (nine_bits 0xA1 true) (nine_bits 0xA1 false) (slave_answered fm3130 (lent m a) c 0xA1 true refl)

  -- the master leaves the line high for eight clocks; its ninth goes on or ends
  pub byte_read : (d : Bool)
      → Leads (on_bus (Read Memory 0 0) a c) m (nine_clocks 0xFF d) (on_bus (more d (Read Memory 0 0)) (next memory_size a) c) m
      (nine_bits (get_or m a 0) d)
  unfolding lined clocked sent_at place_at sent_bit
  byte_read d =
      led (record { phase = Read Memory 0 0; memory = lent m a; companion = c })
      (record { phase = more d (Read Memory 0 0); memory = lent m (next memory_size a); companion = c })
      (nine_bits 0xFF d) (nine_bits (get_or m a 0) d) refl

  -- after a refused byte the transfer has ended: each line is the master's
  pub byte_unheard : (b : ℕ) (d : Bool)
      → Leads (on_bus Idle a c) m (nine_clocks b d) (on_bus Idle a c) m (nine_bits b d)
  unfolding lined clocked
  byte_unheard b d =
      led (record { phase = Idle; memory = lent m a; companion = c }) (record { phase = Idle; memory = lent m a; companion = c })
      (nine_bits b d) (nine_bits b d) refl

  pub stop_leads : (p : Phase) → Leads (on_bus p a c) m (1 ∷ []) (on_bus Idle a c) m (true ∷ [])
  unfolding run_of happening event_on lined
  stop_leads p = record { state = refl; memory = refl; lines = λ i. line_shown (pin_of c) true i ∷ [] }
