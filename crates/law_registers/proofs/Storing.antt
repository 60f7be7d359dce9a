-- SPDX-License-Identifier: Apache-2.0
-- A byte from the master for the companion: its nine clocks lead to what the companion makes of it. Over any part at a numeral
-- of clocks done the machine computes; at the FM3130 the byte that the bits make is the byte.
use Prim.Native.Nat.{ℕ, ◌≤◌, ◌<◌}
use mathlib.Core.Path.{◌≡◌, refl}
use mathlib.Core.Bool.{Bool, true, false}
use mathlib.Core.List.{List, [], ◌∷◌}
use native.Mathlib.Omega.{arith}
use borrow.Author.Tests.{le-leb}
use Rattle.wire.specs.Bits.{place_at, pushed, sent_bit}
use Rattle.wire.specs.Slave.{slave_names, answers, opened}
use Rattle.wire.specs.Clock.{kept, received_at}
use Rattle.wire.specs.Memory.{lent}
use Rattle.wire.specs.Machine.{Parts, clocked, lined}
use Rattle.wire.specs.Whole.{nine_bits, clocks_on}
use Rattle.wire.specs.declared.Side.TheVariants.{Companion}
use Rattle.wire.specs.declared.Phase.{Phase}
use Rattle.wire.specs.declared.Phase.TheVariants.{Idle, Slave, Pointer, Write, Read}
use Rattle.wire.proofs.Whole.{made_of, made, in_phase, slave_answered}
use Rattle.fm3130_companion.specs.Change.{with_address}
use Rattle.fm3130_companion.specs.Part.{aim_of, store_of, pin_of}
use Rattle.fm3130_companion.specs.declared.Companion as companion
use Rattle.fm3130.specs.Chip.{fm3130}
use Rattle.fm3130.specs.Event.{happening, event_on}
use Rattle.fm3130_list.specs.Run.{run_of}
use Rattle.wire_clocks.specs.Clocks.{nine_clocks}
use Rattle.law_transfers.proofs.Runs.{Leads, led, line_shown}
use Rattle.law_transfers.proofs.Written.{on_bus}

module _ (P : Parts) (m : P.Cells) (c : P.Desk) (b : ℕ) (d : Bool) where
  pointer_taken : (P.aim c (made_of b)).good ≡ true
      → clocks_on P (in_phase P m c (Pointer 0 0)) (nine_bits b d)
      ≡ record {
        state = record { phase = Write Companion 0 0; memory = m; companion = (P.aim c (made_of b)).next };
        lines = nine_bits b false;
      }
  unfolding lined clocked received_at place_at kept
  pointer_taken e = rw e

  byte_taken : (P.store c (made_of b)).good ≡ true
      → clocks_on P (in_phase P m c (Write Companion 0 0)) (nine_bits b d)
      ≡ record {
        state = record { phase = Write Companion 0 0; memory = m; companion = (P.store c (made_of b)).next };
        lines = nine_bits b false;
      }
  unfolding lined clocked received_at place_at kept
  byte_taken e = rw e

  byte_refused : (P.store c (made_of b)).good ≡ false
      → clocks_on P (in_phase P m c (Write Companion 0 0)) (nine_bits b d)
      ≡ record {
        state = record { phase = Idle; memory = m; companion = (P.store c (made_of b)).next };
        lines = nine_bits b d;
      }
  unfolding lined clocked received_at place_at kept
  byte_refused e = rw e

module _ (a : ℕ) (m : List ℕ) (c : companion.Companion) where
  pub slave_write : Leads (on_bus (Slave 0 0) a c) m (nine_clocks 0xD0 true) (on_bus (Pointer 0 0) a c) m (nine_bits 0xD0 false)
  unfolding pushed sent_bit slave_names answers opened
  slave_write = led _ _ (nine_bits 0xD0 true) (nine_bits 0xD0 false) (slave_answered fm3130 (lent m a) c 0xD0 true refl)

  pub slave_read : Leads (on_bus (Slave 0 0) a c) m (nine_clocks 0xD1 true) (on_bus (Read Companion 0 0) a c) m (nine_bits 0xD1 false)
  unfolding pushed sent_bit slave_names answers opened
  slave_read = led _ _ (nine_bits 0xD1 true) (nine_bits 0xD1 false) (slave_answered fm3130 (lent m a) c 0xD1 true refl)

  pub pointer_byte_lem : (b : ℕ) → b ≤ 14
      → Leads (on_bus (Pointer 0 0) a c) m (nine_clocks b true) (on_bus (Write Companion 0 0) a (with_address c b)) m (nine_bits b false)
  unfolding aim_of
  pointer_byte_lem b h =
      let l = le-leb b 14 h in
      rw (made b (omega arith), l) at
      (led _ _ (nine_bits b true) (nine_bits b false) (pointer_taken fm3130 (lent m a) c b true (rw (made b (omega arith), l) refl)))

  -- a data byte that is acknowledged, and one that is not
  pub byte_stored_lem : (b : ℕ) (d : Bool) → b < 256 → (store_of c b).acknowledged ≡ true
      → Leads (on_bus (Write Companion 0 0) a c) m (nine_clocks b d) (on_bus (Write Companion 0 0) a (store_of c b).companion) m
      (nine_bits b false)
  byte_stored_lem b d h e =
      rw (made b h) at
      (led _ _ (nine_bits b d) (nine_bits b false) (byte_taken fm3130 (lent m a) c b d (rw (made b h) e)))

  pub byte_left : (b : ℕ) (d : Bool) → b < 256 → (store_of c b).acknowledged ≡ false
      → Leads (on_bus (Write Companion 0 0) a c) m (nine_clocks b d) (on_bus Idle a (store_of c b).companion) m (nine_bits b d)
  byte_left b d h e =
      rw (made b h) at
      (led _ _ (nine_bits b d) (nine_bits b d) (byte_refused fm3130 (lent m a) c b d (rw (made b h) e)))

  pub stop_leads : (p : Phase) → Leads (on_bus p a c) m (1 ∷ []) (on_bus Idle a c) m (true ∷ [])
  unfolding run_of happening event_on lined
  stop_leads p = record { state = refl; memory = refl; lines = λ i. line_shown (pin_of c) true i ∷ [] }
