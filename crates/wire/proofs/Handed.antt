-- SPDX-License-Identifier: Apache-2.0
-- What `nine::receive` and `nine::send` are handed of a kind of byte is all that its clocks need: their phase and line are
-- those of the kind. What the byte serves is touched at the eighth clock alone.
use Prim.Native.Nat.{ℕ, ◌+◌, ◌≤◌, ◌<◌}
use mathlib.Core.Path.{◌≡◌, sym}
use mathlib.Core.Bool.{Bool, cond, ◌&&◌}
use native.Mathlib.Omega.{arith}
use lib.Dec.{eqb, ltb}
use borrow.Author.Tests.{lt-ltb, ltb-true, ltb-false, eqb-true, eqb-false}
use Rattle.wire.specs.Bits.{pushed, sent_bit}
use Rattle.wire.specs.Clock.{Half, half, Receiver, received, Sender, sent, more}
use Rattle.wire.specs.Memory.{Cells}
use Rattle.wire.specs.Code.Outcome.{turned_of, incoming, outgoing, with_address, moved_of}
use Rattle.wire.specs.declared.Side.{Side}
use Rattle.wire.specs.declared.Phase.TheVariants.{Read}
use Rattle.wire.specs.declared.Turned.{Turned}
use Rattle.wire.proofs.Tests.{by_test}
use Rattle.wire.proofs.Clock.{received_inside, received_last, received_ack, sent_first, sent_within, sent_last, sent_ack}

-- the phase and the line of a clock, whatever it served
abbrev pub seen : {A : Type 0} → Half A → Turned
seen h = record { phase = h.phase; line = h.line }

-- a clock that served the memory, by its phase and line and by the address
pub moved_by : {t : Turned} {m : Cells} (h : Half Cells) → t ≡ seen h → h.part ≡ m → with_address t m.address ≡ moved_of h
moved_by h p q = λ i. with_address (p i) (sym q i).address

module _ {A : Type 0} (R : Receiver A) (a : A) (k b : ℕ) (d : Bool) where
  -- a byte from the master
  pub received_seen : (g : Bool) → (k ≡ 7 → g ≡ (R.take a (pushed b d)).good)
      → turned_of (received (incoming (R.here (cond (ltb k 8) (k + 1) 0) (pushed b d)) g (R.after b)) tt k b d)
      ≡ seen (received R a k b d)
  received_seen g e =
      by_test (ltb k 7)
      (λ l. let h = ltb-true k 7 l in
      rw (received_inside _ tt k b d h, received_inside R a k b d h, lt-ltb k 8 (omega arith)))
      (λ l. let h = ltb-false k 7 l in
      by_test (eqb k 7)
      (λ q. let s = eqb-true k 7 q in rw (received_last _ tt k b d s, received_last R a k b d s, e s, s))
      (λ q. let n = eqb-false k 7 q in rw (received_ack _ tt k b d h n, received_ack R a k b d h n)))

  pub received_elsewhere : (k ≡ 7 → ⊥) → (received R a k b d).part ≡ a
  received_elsewhere n =
      by_test (ltb k 7)
      (λ l. rw (received_inside R a k b d (ltb-true k 7 l)))
      (λ l. rw (received_ack R a k b d (ltb-false k 7 l) n))

  pub received_eighth : k ≡ 7 → (received R a k b d).part ≡ (R.take a (pushed b d)).next
  received_eighth e = rw (received_last R a k b d e)

-- a byte to the master of which only the byte at the address is known: the next seven clocks after its first, and its ninth
module _ (s : Side) (x k b : ℕ) (d : Bool) where
  pub outgoing_under : (k ≡ 0 → ⊥) → k < 8
      → sent (outgoing s x) tt k b d ≡ half (Read s (k + 1) b) tt (d && sent_bit k b)
  outgoing_under z h =
      by_test (eqb k 7)
      (λ q. let e = eqb-true k 7 q in rw (sent_last (outgoing s x) tt k b d e, e))
      (λ q. let n = eqb-false k 7 q in sent_within (outgoing s x) tt k b d z (omega arith))

  pub outgoing_ninth : 8 ≤ k → sent (outgoing s x) tt k b d ≡ half (more d (Read s 0 0)) tt d
  outgoing_ninth h = sent_ack (outgoing s x) tt k b d (omega arith) (λ e. omega arith)

module _ {A : Type 0} (s : Side) (fetch : A → ℕ) (done : A → ℕ → A) (a : A) (k b : ℕ) (d : Bool) where
  abbrev S : Sender A
  S = record { here = Read s; fetch = fetch; done = done }

  -- a byte to the master
  pub sent_seen : turned_of (sent (outgoing s (fetch a)) tt k b d) ≡ seen (sent S a k b d)
  sent_seen =
      by_test (eqb k 0)
      (λ z. let e = eqb-true k 0 z in rw (sent_first (outgoing s (fetch a)) tt k b d e, sent_first S a k b d e))
      (λ z. let n = eqb-false k 0 z in
      by_test (ltb k 7)
      (λ l. let h = ltb-true k 7 l in
      rw (sent_within (outgoing s (fetch a)) tt k b d n h, sent_within S a k b d n h))
      (λ l. let h = ltb-false k 7 l in
      by_test (eqb k 7)
      (λ q. let e = eqb-true k 7 q in rw (sent_last (outgoing s (fetch a)) tt k b d e, sent_last S a k b d e))
      (λ q. let m = eqb-false k 7 q in
      rw (sent_ack (outgoing s (fetch a)) tt k b d h m, sent_ack S a k b d h m))))

  pub sent_elsewhere : (k ≡ 7 → ⊥) → (sent S a k b d).part ≡ a
  sent_elsewhere n =
      by_test (eqb k 0)
      (λ z. rw (sent_first S a k b d (eqb-true k 0 z)))
      (λ z. by_test (ltb k 7)
      (λ l. rw (sent_within S a k b d (eqb-false k 0 z) (ltb-true k 7 l)))
      (λ l. rw (sent_ack S a k b d (ltb-false k 7 l) n)))

  pub sent_eighth : k ≡ 7 → (sent S a k b d).part ≡ done a b
  sent_eighth e = rw (sent_last S a k b d e)
