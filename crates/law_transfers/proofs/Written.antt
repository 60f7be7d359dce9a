-- SPDX-License-Identifier: Apache-2.0
-- A written memory byte in the words of the wire: Start, slave byte, two address bytes and the data byte lead from one state
-- to the next; the data byte is put or refused by the protection alone.
use Prim.Native.Nat.{ℕ, ◌+◌, ◌*◌, ◌<◌}
use mathlib.Core.Path.{◌≡◌, refl, ap, ◌∙◌}
use mathlib.Core.Bool.{Bool, true, false}
use mathlib.Core.List.{List, ◌∷◌, ◌++◌}
use native.Mathlib.Omega.{arith}
use native.Mathlib.Nat.{mod-lt}
use lib.ListN.{length, get_or, set}
use lib.Seq.{get_or-set_same}
use Rattle.wire.specs.Bits.{pushed, sent_bit}
use Rattle.wire.specs.Slave.{slave_names, answers, opened}
use Rattle.wire.specs.Memory.{lent, joined, next, is_protected, refused_byte, put_byte}
use Rattle.wire.specs.Whole.{nine_bits}
use Rattle.wire.specs.declared.Side.TheVariants.{Memory}
use Rattle.wire.specs.declared.Phase.{Phase}
use Rattle.wire.specs.declared.Phase.TheVariants.{Idle, Slave, AddressHigh, AddressLow, Write}
use Rattle.wire.proofs.Tests.{by_test}
use Rattle.wire.proofs.Whole.{made, slave_answered, high_taken, low_taken, data_taken, data_refused}
use Rattle.bus.specs.declared.Power.TheVariants.{On}
use Rattle.fm3130_companion.specs.Part.{guard_of}
use Rattle.fm3130_companion.specs.declared.Companion.{Companion}
use Rattle.fm3130.specs.Chip.{memory_size, fm3130}
use Rattle.fm3130.specs.declared.State.{State}
use Rattle.wire_clocks.specs.Clocks.{nine_clocks, write_to, last_line}
use Rattle.law_transfers.specs.Written.{address_of, stored, refused, WrittenOnTheWire}
use Rattle.law_transfers.proofs.Runs.{Leads, leads_then, led, start_leads}

-- on main power
abbrev pub on_bus : Phase → ℕ → Companion → State
on_bus p a c = record { power = On; phase = p; address = a; companion = c }

module _ (c : Companion) (m : List ℕ) (a : ℕ) where
  pub slave_write : Leads (on_bus (Slave 0 0) a c) m (nine_clocks 0xA0 true) (on_bus (AddressHigh 0 0) a c) m (nine_bits 0xA0 false)
  unfolding pushed sent_bit slave_names answers opened
  slave_write = led _ _ (nine_bits 0xA0 true) (nine_bits 0xA0 false) (slave_answered fm3130 (lent m a) c 0xA0 true refl)

  pub high_byte_lem : (b : ℕ) → b < 256
      → Leads (on_bus (AddressHigh 0 0) a c) m (nine_clocks b true) (on_bus (AddressLow b 0 0) a c) m (nine_bits b false)
  high_byte_lem b h = rw (made b h) at (led _ _ (nine_bits b true) (nine_bits b false) (high_taken fm3130 (lent m a) c b true))

  pub low_byte : (h b : ℕ) → b < 256
      → Leads (on_bus (AddressLow h 0 0) a c) m (nine_clocks b true) (on_bus (Write Memory 0 0) (joined memory_size h b) c) m
      (nine_bits b false)
  low_byte h b l = rw (made b l) at (led _ _ (nine_bits b true) (nine_bits b false) (low_taken fm3130 (lent m a) c h b true))

  -- a data byte that is put, and one that is refused
  pub data_stored : (b : ℕ) (d : Bool) → b < 256 → is_protected memory_size (guard_of c) a ≡ false
      → Leads (on_bus (Write Memory 0 0) a c) m (nine_clocks b d) (on_bus (Write Memory 0 0) (next memory_size a) c) (set m a b)
      (nine_bits b false)
  unfolding put_byte
  data_stored b d h e =
      rw (made b h, e) at
      (led _ _ (nine_bits b d) (nine_bits b false) (data_taken fm3130 (lent m a) c b d (rw e refl)))

  pub data_left : (b : ℕ) (d : Bool) → is_protected memory_size (guard_of c) a ≡ true
      → Leads (on_bus (Write Memory 0 0) a c) m (nine_clocks b d)
      (on_bus Idle (refused_byte memory_size (lent m a)).next.address c) (refused_byte memory_size (lent m a)).next.bytes
      (nine_bits b d)
  unfolding put_byte refused_byte
  data_left b d e =
      rw e at (led _ _ (nine_bits b d) (nine_bits b d) (data_refused fm3130 (lent m a) c b d (rw e refl)))

-- Start, slave byte, the two address bytes
pub write_opens : (s : State) (m : List ℕ) (high low : ℕ) → s.power ≡ On → high < 256 → low < 256
    → Leads s m (write_to high low) (on_bus (Write Memory 0 0) (joined memory_size high low) s.companion) m
    (true ∷ (nine_bits 0xA0 false ++ (nine_bits high false ++ nine_bits low false)))
write_opens s m high low on h l =
    let c = s.companion in
    let a = s.address in
    leads_then (start_leads s m on)
    (leads_then (slave_write c m a) (leads_then (high_byte_lem c m a high h) (low_byte c m a high low l)))

pub written_on_the_wire : WrittenOnTheWire
unfolding refused_byte
written_on_the_wire s m high low byte d on length-m h l w =
    let c = s.companion in
    let a = address_of high low in
    let opens = write_opens s m high low on h l in
    by_test (is_protected memory_size (guard_of c) a)
    (λ e. let r = leads_then opens (data_left c m a byte d e) in refused e r.memory (ap last_line r.lines) (ap (λ (z : State). z.address) r.state))
    (λ e. let r = leads_then opens (data_stored c m a byte d w e) in
    let in-range : a < length m = rw length-m (mod-lt (high * 256 + low) (omega arith)) in
    stored e r.memory (ap (λ (x : List ℕ). get_or x a 0) r.memory ∙ get_or-set_same m a byte 0 in-range)
    (ap last_line r.lines) (ap (λ (z : State). z.address) r.state))
