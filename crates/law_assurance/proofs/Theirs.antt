-- SPDX-License-Identifier: Apache-2.0
-- A Clock of the other master, which writes none of the bytes in question and no register and reads no 00h, on one of two
-- devices: they stay near.
use Prim.Native.Nat.{ℕ}
use mathlib.Core.Path.{◌≡◌, refl, sym, ap, ◌∙◌}
use mathlib.Core.Bool.{Bool, true, false, true≢false}
use mathlib.Core.List.{List}
use lib.Dec.{leb, eqb}
use lib.ListN.{length, get_or, length-set}
use lib.Seq.{get_or-set_other}
use borrow.Author.Tests.{eqb-true, eqb-false, ne_eqb}
use Rattle.wire.specs.Bits.{pushed}
use Rattle.wire.specs.Clock.{received, sent}
use Rattle.wire.specs.Kinds.{memory_byte, pointer_byte, companion_byte, companion_read}
use Rattle.wire.specs.Memory.{Cells, lent, is_protected, refused_byte, put_byte}
use Rattle.wire.specs.Machine.{clocked}
use Rattle.wire.specs.declared.Side.TheVariants.{Memory, Companion}
use Rattle.wire.specs.declared.Phase.{Phase}
use Rattle.wire.specs.declared.Phase.TheVariants.{Idle, Slave, AddressHigh, AddressLow, Pointer, Write, Read}
use Rattle.wire.proofs.Clock.{received_inside, received_last, received_ack, sent_first, sent_within, sent_last, sent_ack}
use Rattle.wire.proofs.Cells.{low_bytes, fetch_bytes}
use Rattle.wire.proofs.Tests.{by_test}
use Rattle.fm3130_companion.specs.Part.{guard_of, aim_of, load_of, loaded_of}
use Rattle.fm3130_companion.specs.declared.Companion.{Companion as Desk}
use Rattle.fm3130.specs.Desk.{aims, stores}
use Rattle.fm3130.specs.Chip.{memory_size, fm3130}
use Rattle.fm3130.specs.declared.State.{State}
use Rattle.law_assurance.specs.Same.{HarmlessAt}
use Rattle.law_assurance.proofs.Near.{Near, by_place}

-- the device at which nothing is done is the second; no address is asked about
abbrev Far : (ℕ → Bool) → Cells → Desk → Cells → Desk → Type 0
Far A m c n e = Near A false m c n e

module _ (A : ℕ → Bool) (s : State) (m : List ℕ) (n : Cells) (e : Desk) (h : Near A false (lent m s.address) s.companion n e) (d : Bool) where
  abbrev c : Desk
  c = s.companion

  abbrev st : Cells
  st = lent m s.address

  -- a clock that left the bytes
  same_bytes_lem : (u : Cells) → u.bytes ≡ m → Far A u c n e
  same_bytes_lem u q =
      record {
        bytes = λ a z. ap (λ (l : List ℕ). get_or l a 0) q ∙ h.bytes a z;
        size = ap length q ∙ h.size;
        registers = h.registers;
        core = h.core;
        address = λ z. absurd (true≢false (sym z));
      }

  -- a clock that left registers and core
  same_desk : (u : Desk) → u.registers ≡ c.registers → u.core ≡ c.core → Far A st u n e
  same_desk u q p =
      record { bytes = h.bytes; size = h.size; registers = q ∙ h.registers; core = p ∙ h.core; address = λ z. absurd (true≢false (sym z)) }

  aimed_far : (b : ℕ) (x : Bool) → leb b 14 ≡ x → Far A st (aims c b).next n e
  unfolding aim_of
  aimed_far b true q = rw q (same_desk _ refl refl)
  aimed_far b false q = rw q h

  pointer_far : (k b : ℕ) → Far A st (received (pointer_byte aims) c k b d).part n e
  pointer_far k b =
      let R = pointer_byte aims in
      by_place k (λ l. rw (received_inside R c k b d l) h)
      (λ q. rw (received_last R c k b d q) (aimed_far (pushed b d) (leb (pushed b d) 14) refl))
      (λ l q. rw (received_ack R c k b d l q) h)

  put_far : (b : ℕ) → A s.address ≡ false → (x : Bool) → is_protected memory_size (guard_of c) s.address ≡ x
      → Far A (put_byte memory_size (guard_of c) st b).next c n e
  unfolding put_byte refused_byte
  put_far b f true q = rw q (same_bytes_lem _ refl)
  put_far b f false q =
      rw q (record {
        bytes = λ a z. get_or-set_other m s.address a b 0 (λ i. true≢false (sym z ∙ (ap A i ∙ f))) ∙ h.bytes a z;
        size = length-set m s.address b ∙ h.size;
        registers = h.registers;
        core = h.core;
        address = λ z. absurd (true≢false (sym z));
      })

  data_far : (k b : ℕ) → (k ≡ 7 → A s.address ≡ false)
      → Far A (received (memory_byte (put_byte memory_size (guard_of c))) st k b d).part c n e
  data_far k b f =
      let R = memory_byte (put_byte memory_size (guard_of c)) in
      by_place k (λ l. rw (received_inside R st k b d l) h)
      (λ q. rw (received_last R st k b d q) (put_far (pushed b d) (f q) (is_protected memory_size (guard_of c) s.address) refl))
      (λ l q. rw (received_ack R st k b d l q) h)

  register_far : (k b : ℕ) → (k ≡ 7 → ⊥) → Far A st (received (companion_byte stores) c k b d).part n e
  register_far k b f =
      let R = companion_byte stores in
      by_place k (λ l. rw (received_inside R c k b d l) h) (λ q. absurd (f q)) (λ l q. rw (received_ack R c k b d l q) h)

  load_far : (k b : ℕ) → (k ≡ 7 → c.address ≡ 0 → ⊥) → Far A st (sent (companion_read load_of loaded_of) c k b d).part n e
  unfolding loaded_of
  load_far k b f =
      let S = companion_read load_of loaded_of in
      by_test (eqb k 0) (λ q. rw (sent_first S c k b d (eqb-true k 0 q)) h)
      (λ q. let some = eqb-false k 0 q in by_place k (λ l. rw (sent_within S c k b d some l) h)
      (λ l. rw (sent_last S c k b d l, ne_eqb c.address 0 (f l)) (same_desk _ refl refl))
      (λ l g. rw (sent_ack S c k b d l g) h))

  -- a Clock, by phase
  pub clock_far : (p : Phase) → HarmlessAt A s p
      → Near A false (clocked fm3130 p st c d).state.memory (clocked fm3130 p st c d).state.companion n e
  unfolding clocked
  clock_far Idle f = h
  clock_far (Slave k b) f = h
  clock_far (AddressHigh k b) f = h
  clock_far (AddressLow u k b) f = same_bytes_lem _ (low_bytes memory_size st u k b d)
  clock_far (Pointer k b) f = pointer_far k b
  clock_far (Write Memory k b) f = data_far k b f
  clock_far (Write Companion k b) f = register_far k b f
  clock_far (Read Memory k b) f = same_bytes_lem _ (fetch_bytes memory_size st k b d)
  clock_far (Read Companion k b) f = load_far k b f
