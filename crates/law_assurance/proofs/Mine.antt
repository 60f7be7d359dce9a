-- SPDX-License-Identifier: Apache-2.0
-- A Clock of the master on both devices: they stay near.
use Prim.Native.Nat.{ℕ, ◌+◌}
use mathlib.Core.Path.{◌≡◌, refl, sym, ◌∙◌}
use mathlib.Core.Bool.{Bool, true, false}
use native.Mathlib.Omega.{arith}
use lib.Dec.{leb, eqb}
use lib.ListN.{length-set}
use borrow.Author.Tests.{lt-leb, le-leb, eqb-true, eqb-false}
use Rattle.wire.specs.Bits.{pushed}
use Rattle.wire.specs.Slave.{slave_names, answers, opened}
use Rattle.wire.specs.Clock.{half, received, kept, sent, more}
use Rattle.wire.specs.Kinds.{slave_byte, high_byte, low_byte, memory_byte, memory_read, pointer_byte, companion_byte, companion_read}
use Rattle.wire.specs.Memory.{Cells, pointed, next, is_protected, refused_byte, put_byte, byte_at, stepped_on}
use Rattle.wire.specs.Machine.{neither, beside, beyond, clocked}
use Rattle.wire.specs.declared.Side.TheVariants.{Memory, Companion}
use Rattle.wire.specs.declared.Named.{Named}
use Rattle.wire.specs.declared.Named.TheVariants.{Nobody, Reads, Writes}
use Rattle.wire.specs.declared.Phase.{Phase}
use Rattle.wire.specs.declared.Phase.TheVariants.{Idle, Slave, AddressHigh, AddressLow, Pointer, Write, Read}
use Rattle.wire.proofs.Clock.{received_inside, received_last, received_ack, sent_first, sent_within, sent_last, sent_ack}
use Rattle.wire.proofs.Tests.{by_test}
use Rattle.fm3130_companion.specs.Part.{guard_of, aim_of, load_of, loaded_of}
use Rattle.fm3130_companion.specs.declared.Companion.{Companion as Desk}
use Rattle.fm3130.specs.Desk.{aims, stores}
use Rattle.fm3130.specs.Chip.{memory_size, fm3130}
use Rattle.law_assurance.specs.Same.{ninth_of, ReadAt}
use Rattle.law_assurance.proofs.Near.{Near, Phases, equal, sending, Placed, Met, by_place, set_alike, whole, weaken}

module _ (A : ℕ → Bool) (t : Bool) (m n : Cells) (c e : Desk) (h : Near A t m c n e) (d : Bool) where
  -- a clock that touches no device
  still : (p : Phase) → Placed p m c n e → (s : Bool) → Met A t (neither fm3130 m c (half p tt s)) (neither fm3130 n e (half p tt s))
  still p q s = record { near = h; phases = equal; placed = q }

  opened_placed : (x : Named) → Placed (opened x) m c n e
  unfolding opened
  opened_placed Nobody = tt
  opened_placed (Reads s) = tt
  opened_placed (Writes Memory) = tt
  opened_placed (Writes Companion) = λ l. absurd (omega arith)

  kept_slave : (g : Bool) (k b : ℕ) → Placed (kept g (Slave k b)) m c n e
  unfolding kept
  kept_slave true k b = tt
  kept_slave false k b = tt

  slave_met : (k b : ℕ)
      → Met A t (neither fm3130 m c (received (slave_byte slave_names) tt k b d)) (neither fm3130 n e (received (slave_byte slave_names) tt k b d))
  slave_met k b =
      let R = slave_byte slave_names in
      by_place k (λ l. rw (received_inside R tt k b d l) (still (Slave (k + 1) (pushed b d)) tt d))
      (λ q. rw (received_last R tt k b d q) (still (kept (answers (slave_names (pushed b d))) (Slave 8 (pushed b d)))
      (kept_slave (answers (slave_names (pushed b d))) 8 (pushed b d)) d))
      (λ l q. rw (received_ack R tt k b d l q) (still (opened (slave_names b)) (opened_placed (slave_names b)) false))

  high_met : (k b : ℕ)
      → Met A t (neither fm3130 m c (received high_byte tt k b d)) (neither fm3130 n e (received high_byte tt k b d))
  unfolding kept
  high_met k b =
      let R = high_byte in
      by_place k (λ l. rw (received_inside R tt k b d l) (still (AddressHigh (k + 1) (pushed b d)) tt d))
      (λ q. rw (received_last R tt k b d q) (still (AddressHigh 8 (pushed b d)) tt d))
      (λ l q. rw (received_ack R tt k b d l q) (still (AddressLow b 0 0) (λ z. absurd (omega arith)) false))

  low_met : (u k b : ℕ) → Placed (AddressLow u k b) m c n e
      → Met A t (beside fm3130 c (received (low_byte (pointed memory_size) u) m k b d))
      (beside fm3130 e (received (low_byte (pointed memory_size) u) n k b d))
  unfolding kept
  low_met u k b p =
      let R = low_byte (pointed memory_size) u in
      by_place k
      (λ l. rw (received_inside R m k b d l, received_inside R n k b d l)
      (record { near = h; phases = equal; placed = λ z. absurd (omega arith) }))
      (λ q. rw (received_last R m k b d q, received_last R n k b d q)
      (record {
        near = record { bytes = h.bytes; size = h.size; registers = h.registers; core = h.core; address = h.address };
        phases = equal;
        placed = λ z. refl;
      }))
      (λ l q. rw (received_ack R m k b d l q, received_ack R n k b d l q)
      (record { near = h; phases = equal; placed = p (omega arith) }))

  -- the companion's address byte
  aimed_met : (b : ℕ) (s : Bool) → leb b 14 ≡ s
      → Met A t (beyond fm3130 m (half (kept (aims c b).good (Pointer 8 b)) (aims c b).next d))
      (beyond fm3130 n (half (kept (aims e b).good (Pointer 8 b)) (aims e b).next d))
  unfolding kept aim_of
  aimed_met b true q =
      rw q (record {
        near = record { bytes = h.bytes; size = h.size; registers = h.registers; core = h.core; address = λ z. refl };
        phases = equal;
        placed = λ z. refl;
      })
  aimed_met b false q = rw q (record { near = h; phases = equal; placed = tt })

  pointer_met : (k b : ℕ) → Placed (Pointer k b) m c n e
      → Met A (ninth_of t (Pointer k b)) (beyond fm3130 m (received (pointer_byte aims) c k b d))
      (beyond fm3130 n (received (pointer_byte aims) e k b d))
  pointer_met k b p =
      let R = pointer_byte aims in
      by_place k
      (λ l. rw (received_inside R c k b d l, received_inside R e k b d l, lt-leb 8 k (omega arith))
      (record { near = h; phases = equal; placed = λ z. absurd (omega arith) }))
      (λ q. rw (received_last R c k b d q, received_last R e k b d q, lt-leb 8 k (omega arith))
      (aimed_met (pushed b d) (leb (pushed b d) 14) refl))
      (λ l q. let z = p (omega arith) in rw (received_ack R c k b d l q, received_ack R e k b d l q, le-leb 8 k (omega arith))
      (record { near = weaken true (λ y. z) h; phases = equal; placed = z }))

  -- a memory data byte
  put_met : (b : ℕ) → m.address ≡ n.address → (s : Bool) → is_protected memory_size (guard_of e) n.address ≡ s
      → Met A t (beside fm3130 c (half (kept (put_byte memory_size (guard_of c) m b).good (Write Memory 8 b)) (put_byte memory_size (guard_of c) m b).next d))
      (beside fm3130 e (half (kept (put_byte memory_size (guard_of e) n b).good (Write Memory 8 b)) (put_byte memory_size (guard_of e) n b).next d))
  unfolding kept put_byte refused_byte
  put_met b p true q =
      rw (h.registers, p, q) (record {
        near = record { bytes = h.bytes; size = h.size; registers = refl; core = h.core; address = h.address };
        phases = equal;
        placed = tt;
      })
  put_met b p false q =
      rw (h.registers, p, q) (record {
        near =
            record {
              bytes = λ a z. set_alike m.bytes n.bytes n.address b a h.size (h.bytes a z);
              size = length-set m.bytes n.address b ∙ h.size ∙ sym (length-set n.bytes n.address b);
              registers = refl;
              core = h.core;
              address = h.address;
            };
        phases = equal;
        placed = refl;
      })

  data_met : (k b : ℕ) → m.address ≡ n.address
      → Met A t (beside fm3130 c (received (memory_byte (put_byte memory_size (guard_of c))) m k b d))
      (beside fm3130 e (received (memory_byte (put_byte memory_size (guard_of e))) n k b d))
  data_met k b p =
      let R = memory_byte (put_byte memory_size (guard_of c)) in
      let S = memory_byte (put_byte memory_size (guard_of e)) in
      by_place k
      (λ l. rw (received_inside R m k b d l, received_inside S n k b d l) (record { near = h; phases = equal; placed = p }))
      (λ q. rw (received_last R m k b d q, received_last S n k b d q)
      (put_met (pushed b d) p (is_protected memory_size (guard_of e) n.address) refl))
      (λ l q. rw (received_ack R m k b d l q, received_ack S n k b d l q) (record { near = h; phases = equal; placed = p }))

  -- a memory byte that goes out
  more_placed : (s : Bool) (k b : ℕ) → Placed (more s (Read Memory k b)) m c n e
  unfolding more
  more_placed true k b = tt
  more_placed false k b = tt

  read_met : (k b z : ℕ)
      → Met A t (beside fm3130 c (sent (memory_read byte_at (stepped_on memory_size)) m k b d))
      (beside fm3130 e (sent (memory_read byte_at (stepped_on memory_size)) n k z d))
  read_met k b z =
      let S = memory_read byte_at (stepped_on memory_size) in
      by_test (eqb k 0)
      (λ q. rw (sent_first S m k b d (eqb-true k 0 q), sent_first S n k z d (eqb-true k 0 q))
      (record { near = h; phases = sending; placed = tt }))
      (λ q. let some = eqb-false k 0 q in by_place k
      (λ l. rw (sent_within S m k b d some l, sent_within S n k z d some l) (record { near = h; phases = sending; placed = tt }))
      (λ l. rw (sent_last S m k b d l, sent_last S n k z d l)
      (record {
        near = record { bytes = h.bytes; size = h.size; registers = h.registers; core = h.core; address = h.address };
        phases = sending;
        placed = tt;
      }))
      (λ l g. rw (sent_ack S m k b d l g, sent_ack S n k z d l g)
      (record { near = h; phases = equal; placed = more_placed d 0 0 })))

-- where the companions are one
module _ (A : ℕ → Bool) (t : Bool) (m n : Cells) (c e : Desk) (h : Near A t m c n e) (d : Bool) where
  one_near : (u : Desk) → Near A t m u n u
  one_near u = record { bytes = h.bytes; size = h.size; registers = refl; core = refl; address = λ z. refl }

  kept_register : (g : Bool) (k b : ℕ) (u : Desk) → Placed (kept g (Write Companion k b)) m u n u
  unfolding kept
  kept_register true k b u = refl
  kept_register false k b u = tt

  register_met : (k b : ℕ) (u : Desk)
      → Met A t (beyond fm3130 m (received (companion_byte stores) u k b d)) (beyond fm3130 n (received (companion_byte stores) u k b d))
  register_met k b u =
      let R = companion_byte stores in
      by_place k
      (λ l. rw (received_inside R u k b d l) (record { near = one_near u; phases = equal; placed = refl }))
      (λ q. let o = stores u (pushed b d) in
      rw (received_last R u k b d q)
      (record { near = one_near o.next; phases = equal; placed = kept_register o.good 8 (pushed b d) o.next }))
      (λ l q. rw (received_ack R u k b d l q) (record { near = one_near u; phases = equal; placed = refl }))

  more_register : (s : Bool) (k b : ℕ) (u : Desk) → Placed (more s (Read Companion k b)) m u n u
  unfolding more
  more_register true k b u = tt
  more_register false k b u = tt

  load_met : (k b : ℕ) (u : Desk)
      → Met A t (beyond fm3130 m (sent (companion_read load_of loaded_of) u k b d)) (beyond fm3130 n (sent (companion_read load_of loaded_of) u k b d))
  load_met k b u =
      let S = companion_read load_of loaded_of in
      by_test (eqb k 0)
      (λ q. rw (sent_first S u k b d (eqb-true k 0 q)) (record { near = one_near u; phases = equal; placed = tt }))
      (λ q. let some = eqb-false k 0 q in by_place k
      (λ l. rw (sent_within S u k b d some l) (record { near = one_near u; phases = equal; placed = tt }))
      (λ l. rw (sent_last S u k b d l) (record { near = one_near (loaded_of u b); phases = equal; placed = tt }))
      (λ l g. rw (sent_ack S u k b d l g) (record { near = one_near u; phases = equal; placed = more_register d 0 0 u })))

  -- a Clock, by phase
  clock_same : (p : Phase) → Placed p m c n e → ReadAt t p → Met A (ninth_of t p) (clocked fm3130 p m c d) (clocked fm3130 p n e d)
  unfolding clocked
  clock_same Idle p r = record { near = h; phases = equal; placed = tt }
  clock_same (Slave k b) p r = slave_met A t m n c e h d k b
  clock_same (AddressHigh k b) p r = high_met A t m n c e h d k b
  clock_same (AddressLow u k b) p r = low_met A t m n c e h d u k b p
  clock_same (Pointer k b) p r = pointer_met A t m n c e h d k b p
  clock_same (Write Memory k b) p r = data_met A t m n c e h d k b p
  clock_same (Write Companion k b) p r = rw (whole A t m n c e h p) (register_met k b e)
  clock_same (Read Memory k b) p r = read_met A t m n c e h d k b b
  clock_same (Read Companion k b) p r = rw (whole A t m n c e h (h.address r)) (load_met k b e)

  pub clock_met : {p q : Phase} → Phases p q → Placed p m c n e → ReadAt t p
      → Met A (ninth_of t p) (clocked fm3130 p m c d) (clocked fm3130 q n e d)
  unfolding clocked
  clock_met {p} equal l r = clock_same p l r
  clock_met (sending {k = k} {b = b} {z = z}) l r = read_met A t m n c e h d k b z
