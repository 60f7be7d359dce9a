-- SPDX-License-Identifier: Apache-2.0
-- A Clock of a transaction all of whose reads have their address set, on two near devices in one phase: the line and the
-- next phase are the same, and the memory address where it was set.
use Prim.Native.Nat.{ℕ, ◌+◌}
use mathlib.Core.Path.{◌≡◌, refl, sym, ap, ◌∙◌}
use mathlib.Core.Bool.{Bool, true, ◌&&◌}
use native.Mathlib.Omega.{arith}
use lib.Dec.{leb, eqb}
use lib.ListN.{get_or}
use borrow.Author.Tests.{lt-leb, eqb-true, eqb-false}
use Rattle.wire.specs.Bits.{pushed, sent_bit}
use Rattle.wire.specs.Clock.{Half, Receiver, received, sent}
use Rattle.wire.specs.Kinds.{low_byte, memory_byte, memory_read, pointer_byte}
use Rattle.wire.specs.Memory.{Cells, pointed, next, is_protected, refused_byte, put_byte, byte_at, stepped_on}
use Rattle.wire.specs.Machine.{Out, clocked}
use Rattle.wire.specs.declared.Side.TheVariants.{Memory, Companion}
use Rattle.wire.specs.declared.Phase.{Phase}
use Rattle.wire.specs.declared.Phase.TheVariants.{Idle, Slave, AddressHigh, AddressLow, Pointer, Write, Read}
use Rattle.wire.proofs.Clock.{received_inside, received_last, received_ack, sent_first, sent_within, sent_last, sent_ack}
use Rattle.wire.proofs.Cells.{put_steps}
use Rattle.wire.proofs.Tests.{by_test}
use Rattle.fm3130_companion.specs.Part.{guard_of, aim_of}
use Rattle.fm3130_companion.specs.declared.Companion.{Companion as Desk}
use Rattle.fm3130.specs.Desk.{aims}
use Rattle.fm3130.specs.Chip.{memory_size, fm3130}
use Rattle.fm3130.specs.declared.State.{State}
use Rattle.law_assurance.specs.Same.{ninth_low, ReadInAt}
use Rattle.law_assurance.proofs.Near.{Near, Placed, by_place, whole}

pub record Exact (v : Bool) (o u : Out fm3130) : Type 0 where
  pub line : o.line ≡ u.line
  pub phase : o.state.phase ≡ u.state.phase
  pub place : v ≡ true → o.state.memory.address ≡ u.state.memory.address

-- one kind of byte that comes in, taken by two devices that acknowledge alike
record Same {X : Type 0} (x y : Half X) : Type 0 where
  line : x.line ≡ y.line
  phase : x.phase ≡ y.phase

module _ {X : Type 0} (R S : Receiver X) (a b : X) (w : ℕ) (d : Bool) where
  same_byte : (k : ℕ) → ((j z : ℕ) → R.here j z ≡ S.here j z) → ((z : ℕ) → R.after z ≡ S.after z)
      → ((z : ℕ) → (R.take a z).good ≡ (S.take b z).good) → Same (received R a k w d) (received S b k w d)
  same_byte k here after good =
      by_place k
      (λ l. rw (received_inside R a k w d l, received_inside S b k w d l)
      (record { line = refl; phase = here (k + 1) (pushed w d) }))
      (λ q. rw (received_last R a k w d q, received_last S b k w d q)
      (record { line = refl; phase = rw (good (pushed w d), here 8 (pushed w d)) refl }))
      (λ l q. rw (received_ack R a k w d l q, received_ack S b k w d l q)
      (record { line = refl; phase = after w }))

module _ (A : ℕ → Bool) (t v : Bool) (s : State) (m n : Cells) (c e : Desk) (h : Near A t m c n e)
    (p : v ≡ true → m.address ≡ n.address) (d : Bool) where
  -- the second address byte
  low_place : (u k b : ℕ) → Placed (AddressLow u k b) m c n e → ninth_low v (AddressLow u k b) ≡ true
      → (received (low_byte (pointed memory_size) u) m k b d).part.address ≡ (received (low_byte (pointed memory_size) u) n k b d).part.address
  low_place u k b l z =
      let R = low_byte (pointed memory_size) u in
      by_place k
      (λ i. rw (received_inside R m k b d i, received_inside R n k b d i) (p (rw (lt-leb 8 k (omega arith)) at z)))
      (λ q. rw (received_last R m k b d q, received_last R n k b d q) refl)
      (λ i q. rw (received_ack R m k b d i q, received_ack R n k b d i q) (l (omega arith)))

  -- a data byte
  guarded : m.address ≡ n.address → is_protected memory_size (guard_of c) m.address ≡ is_protected memory_size (guard_of e) n.address
  guarded q = rw (h.registers, q) refl

  put_good : m.address ≡ n.address → (z : ℕ) → (put_byte memory_size (guard_of c) m z).good ≡ (put_byte memory_size (guard_of e) n z).good
  unfolding put_byte refused_byte
  put_good q z = by_test (is_protected memory_size (guard_of e) n.address) (λ i. rw (guarded q, i) refl) (λ i. rw (guarded q, i) refl)

  put_place : m.address ≡ n.address → (z : ℕ)
      → (put_byte memory_size (guard_of c) m z).next.address ≡ (put_byte memory_size (guard_of e) n z).next.address
  put_place q z =
      put_steps memory_size m (guard_of c) z ∙ (ap (next memory_size) q ∙ sym (put_steps memory_size n (guard_of e) z))

  data_place : (k b : ℕ) → m.address ≡ n.address
      → (received (memory_byte (put_byte memory_size (guard_of c))) m k b d).part.address
      ≡ (received (memory_byte (put_byte memory_size (guard_of e))) n k b d).part.address
  data_place k b q =
      let R = memory_byte (put_byte memory_size (guard_of c)) in
      let S = memory_byte (put_byte memory_size (guard_of e)) in
      by_place k
      (λ i. rw (received_inside R m k b d i, received_inside S n k b d i) q)
      (λ i. rw (received_last R m k b d i, received_last S n k b d i) (put_place q (pushed b d)))
      (λ i g. rw (received_ack R m k b d i g, received_ack S n k b d i g) q)

  -- a byte that goes out
  record Sent (x y : Half Cells) : Type 0 where
    line : x.line ≡ y.line
    phase : x.phase ≡ y.phase
    place : x.part.address ≡ y.part.address

  fetch_exact : (k b : ℕ) → m.address ≡ n.address → (k ≡ 0 → byte_at m ≡ byte_at n)
      → Sent (sent (memory_read byte_at (stepped_on memory_size)) m k b d) (sent (memory_read byte_at (stepped_on memory_size)) n k b d)
  fetch_exact k b q f =
      let S = memory_read byte_at (stepped_on memory_size) in
      by_test (eqb k 0)
      (λ i. let z = eqb-true k 0 i in let y = f z in
      rw (sent_first S m k b d z, sent_first S n k b d z) (record { line = ap (λ (w : ℕ). d && sent_bit 0 w) y; phase = ap (Read Memory 1) y; place = q }))
      (λ i. let z = eqb-false k 0 i in by_place k
      (λ l. rw (sent_within S m k b d z l, sent_within S n k b d z l) (record { line = refl; phase = refl; place = q }))
      (λ l. rw (sent_last S m k b d l, sent_last S n k b d l) (record { line = refl; phase = refl; place = ap (next memory_size) q }))
      (λ l g. rw (sent_ack S m k b d l g, sent_ack S n k b d l g) (record { line = refl; phase = refl; place = q })))

  aim_good : (z : ℕ) → (aims c z).good ≡ (aims e z).good
  unfolding aim_of
  aim_good z = by_test (leb z 14) (λ i. rw i refl) (λ i. rw i refl)

  pub clock_exact : (f : Phase) → Placed f m c n e → m.address ≡ s.address → ReadInAt A t v s f
      → Exact (ninth_low v f) (clocked fm3130 f m c d) (clocked fm3130 f n e d)
  unfolding clocked
  clock_exact Idle l a g = record { line = refl; phase = refl; place = p }
  clock_exact (Slave k b) l a g = record { line = refl; phase = refl; place = p }
  clock_exact (AddressHigh k b) l a g = record { line = refl; phase = refl; place = p }
  clock_exact (AddressLow u k b) l a g =
      let R = low_byte (pointed memory_size) u in
      let o = same_byte R R m n b d k (λ j z. refl) (λ z. refl) (λ z. refl) in
      record { line = o.line; phase = o.phase; place = low_place u k b l }
  clock_exact (Pointer k b) l a g =
      let o = same_byte (pointer_byte aims) (pointer_byte aims) c e b d k (λ j z. refl) (λ z. refl) aim_good in
      record { line = o.line; phase = o.phase; place = p }
  clock_exact (Write Memory k b) l a g =
      let o = same_byte (memory_byte (put_byte memory_size (guard_of c))) (memory_byte (put_byte memory_size (guard_of e))) m n b d k
      (λ j z. refl) (λ z. refl) (put_good l) in
      record { line = o.line; phase = o.phase; place = λ i. data_place k b l }
  clock_exact (Write Companion k b) l a g = rw (whole A t m n c e h l) (record { line = refl; phase = refl; place = p })
  clock_exact (Read Memory k b) l a g =
      let q = p g.0 in
      let byte : k ≡ 0 → byte_at m ≡ byte_at n =
      λ i. h.bytes m.address (ap A a ∙ g.1 i) ∙ ap (λ (w : ℕ). get_or n.bytes w 0) q in
      let o = fetch_exact k b q byte in
      record { line = o.line; phase = o.phase; place = λ i. o.place }
  clock_exact (Read Companion k b) l a g = rw (whole A t m n c e h (h.address g)) (record { line = refl; phase = refl; place = p })
