-- SPDX-License-Identifier: Apache-2.0
-- A byte that comes in and a byte that goes out keep the limits of their phase, whatever their kind is; each kind of byte is
-- then one record of small facts. Over whom a slave byte names and which companion addresses are legal.
--   received_keeps, sent_keeps      one clock of a byte
--   slave_keeps, high_keeps, low_keeps, pointer_keeps, data_keeps, read_keeps   the kinds of byte
use Prim.Native.Nat.{ℕ, ◌+◌, ◌^◌, ◌≤◌, ◌<◌}
use mathlib.Core.Path.{◌≡◌, refl}
use mathlib.Core.Bool.{Bool, true, false, cond, ◌&&◌}
use native.Mathlib.Omega.{arith}
use native.Mathlib.Nat.{pow-suc}
use native.Mathlib.Numerals.{add-one}
use lib.Dec.{leb, ltb, eqb}
use borrow.Author.Tests.{ltb-true, ltb-false, leb-true, eqb-true, eqb-false, le-leb, lt-ltb, ne_eqb}
use Rattle.wire.specs.Bits.{pushed}
use Rattle.wire.specs.Slave.{answers, opened}
use Rattle.wire.specs.Clock.{Half, Taken, Receiver, received, kept, Sender, sent, more}
use Rattle.wire.specs.Kinds.{slave_byte, high_byte, low_byte, pointer_byte}
use Rattle.wire.specs.Limits.{bits_fit, phase_within}
use Rattle.wire.specs.declared.Side.{Side}
use Rattle.wire.specs.declared.Side.TheVariants.{Memory, Companion}
use Rattle.wire.specs.declared.Named.{Named}
use Rattle.wire.specs.declared.Named.TheVariants.{Nobody, Reads, Writes}
use Rattle.wire.specs.declared.Phase.{Phase}
use Rattle.wire.specs.declared.Phase.TheVariants.{Write, Read}
use Rattle.wire.proofs.Tests.{and_split, and_join, by_test}
use Rattle.wire.proofs.Clock.{received_inside, received_last, received_ack, sent_first, sent_within, sent_last, sent_ack}

-- a pushed byte is a byte, and its bits are those of one clock more
pub push_lt : (b : ℕ) (d : Bool) → pushed b d < 256
unfolding pushed
push_lt b true = omega arith
push_lt b false = omega arith

push_fits : (k b : ℕ) (d : Bool) → b < 2 ^ k → pushed b d < 2 ^ (k + 1)
unfolding pushed
push_fits k b true h = rw (add-one k, pow-suc) (omega arith)
push_fits k b false h = rw (add-one k, pow-suc) (omega arith)

bits_fit_lem : (k b : ℕ) → k ≤ 8 → b < 2 ^ k → bits_fit k b ≡ true
unfolding bits_fit
bits_fit_lem k b h l = and_join (leb k 8) (ltb b (2 ^ k)) (le-leb k 8 h) (lt-ltb b (2 ^ k) l)

record Fits (k b : ℕ) : Type 0 where
  clocks : k ≤ 8
  bits : b < 2 ^ k

fits_of : (k b : ℕ) → bits_fit k b ≡ true → Fits k b
unfolding bits_fit
fits_of k b e =
    let h = and_split (leb k 8) (ltb b (2 ^ k)) e in record { clocks = leb-true k 8 h.0; bits = ltb-true b (2 ^ k) h.1 }

-- no device is touched
abbrev pub Any : Unit {0} → Type 0
Any u = Unit {0}

module _ (names : ℕ → Named) (legal : ℕ → Bool) where
  abbrev pub Within : Phase → Type 0
  Within p = phase_within names legal p ≡ true

  -- a clock's outcome keeps the phase's limits and those of what it was handed
  pub record Kept {A : Type 0} (Ok : A → Type 0) (h : Half A) : Type 0 where
    pub phase : Within h.phase
    pub part : Ok h.part

  pub record ReceiverKeeps {A : Type 0} (Ok : A → Type 0) (R : Receiver A) : Type 0 where
    pub early : (k b : ℕ) → k ≤ 7 → b < 2 ^ k → Within (R.here k b)
    pub whole : (a : A) (b : ℕ) → b < 256 → (R.take a b).good ≡ true → Within (R.here 8 b)
    pub next : (a : A) (b : ℕ) → b < 256 → Ok a → Ok (R.take a b).next
    pub after : (b : ℕ) → Within (R.after b)

  pub record SenderKeeps {A : Type 0} (Ok : A → Type 0) (S : Sender A) : Type 0 where
    pub opening : Within (S.here 0 0)
    pub under : (k b : ℕ) → k ≤ 7 → Within (S.here (k + 1) b)
    pub done : (a : A) (b : ℕ) → Ok a → Ok (S.done a b)

  kept_within : (g : Bool) (p : Phase) → (g ≡ true → Within p) → Within (kept g p)
  unfolding kept phase_within
  kept_within true p f = f refl
  kept_within false p f = refl

  more_within : (d : Bool) (p : Phase) → Within p → Within (more d p)
  unfolding more phase_within
  more_within true p w = refl
  more_within false p w = w

  pub received_keeps : {A : Type 0} (Ok : A → Type 0) (R : Receiver A) → ReceiverKeeps Ok R
      → (a : A) (k b : ℕ) (d : Bool) → bits_fit k b ≡ true → Ok a → Kept Ok (received R a k b d)
  received_keeps Ok R K a k b d e o =
      let f = fits_of k b e in
      let p = push_lt b d in
      by_test (ltb k 7)
      (λ l. let h = ltb-true k 7 l in
      rw (received_inside R a k b d h)
      (record { phase = K.early (k + 1) (pushed b d) (omega arith) (push_fits k b d f.bits); part = o }))
      (λ l. let h = ltb-false k 7 l in
      by_test (eqb k 7)
      (λ q. rw (received_last R a k b d (eqb-true k 7 q))
      (record {
        phase = kept_within (R.take a (pushed b d)).good (R.here 8 (pushed b d)) (K.whole a (pushed b d) p);
        part = K.next a (pushed b d) p o;
      }))
      (λ q. rw (received_ack R a k b d h (eqb-false k 7 q)) (record { phase = K.after b; part = o })))

  pub sent_keeps : {A : Type 0} (Ok : A → Type 0) (S : Sender A) → SenderKeeps Ok S
      → (a : A) (k b : ℕ) (d : Bool) → Ok a → Kept Ok (sent S a k b d)
  sent_keeps Ok S K a k b d o =
      by_test (eqb k 0)
      (λ z. rw (sent_first S a k b d (eqb-true k 0 z)) (record { phase = K.under 0 (S.fetch a) (omega arith); part = o }))
      (λ z. by_test (ltb k 7)
      (λ l. let h = ltb-true k 7 l in
      rw (sent_within S a k b d (eqb-false k 0 z) h) (record { phase = K.under k b (omega arith); part = o }))
      (λ l. let h = ltb-false k 7 l in
      by_test (eqb k 7)
      (λ q. rw (sent_last S a k b d (eqb-true k 7 q)) (record { phase = K.under 7 b (omega arith); part = K.done a b o }))
      (λ q. rw (sent_ack S a k b d h (eqb-false k 7 q))
      (record { phase = more_within d (S.here 0 0) K.opening; part = o }))))

  -- the kinds of byte
  opened_within : (n : Named) → Within (opened n)
  unfolding opened phase_within bits_fit
  opened_within Nobody = refl
  opened_within (Reads s) = refl
  opened_within (Writes Memory) = refl
  opened_within (Writes Companion) = refl

  waits : (t : ℕ → Bool) (k b : ℕ) → k ≤ 7 → b < 2 ^ k → (bits_fit k b && cond (eqb k 8) (t b) true) ≡ true
  waits t k b h l = rw (bits_fit_lem k b (omega arith) l, ne_eqb k 8 (λ e. omega arith))

  byte_fits : (b : ℕ) → b < 256 → bits_fit 8 b ≡ true
  byte_fits b h = bits_fit_lem 8 b (omega arith) h

  pub slave_keeps : ReceiverKeeps Any (slave_byte names)
  unfolding phase_within
  slave_keeps =
      record {
        early = waits (λ b. answers (names b));
        whole = λ a b l g. and_join (bits_fit 8 b) (answers (names b)) (byte_fits b l) g;
        next = λ a b l o. tt;
        after = λ b. opened_within (names b);
      }

  pub high_keeps : ReceiverKeeps Any high_byte
  unfolding phase_within bits_fit
  high_keeps =
      record {
        early = λ k b h l. bits_fit_lem k b (omega arith) l;
        whole = λ a b l g. byte_fits b l;
        next = λ a b l o. tt;
        after = λ b. refl;
      }

  read_within : (s : Side) (k b : ℕ) → k ≤ 7 → Within (Read s (k + 1) b)
  unfolding phase_within
  read_within s k b h = rw (le-leb (k + 1) 8 (omega arith), ne_eqb (k + 1) 0 (λ e. omega arith))

  module _ {M : Type 0} (Ok : M → Type 0) where
    pub low_keeps : (point : M → ℕ → ℕ → M) (h : ℕ) → ((m : M) (b : ℕ) → Ok m → Ok (point m h b))
        → ReceiverKeeps Ok (low_byte point h)
    unfolding phase_within bits_fit
    low_keeps point h f =
        record {
          early = λ k b g l. bits_fit_lem k b (omega arith) l;
          whole = λ a b l g. byte_fits b l;
          next = λ a b l o. f a b o;
          after = λ b. refl;
        }

    pub pointer_keeps : (aim : M → ℕ → Taken M) → ((m : M) (b : ℕ) → b < 256 → Ok m → Ok (aim m b).next)
        → ((m : M) (b : ℕ) → (aim m b).good ≡ true → legal b ≡ true) → ReceiverKeeps Ok (pointer_byte aim)
    unfolding phase_within bits_fit
    pointer_keeps aim f g =
        record {
          early = waits legal;
          whole = λ a b l t. and_join (bits_fit 8 b) (legal b) (byte_fits b l) (g a b t);
          next = f;
          after = λ b. refl;
        }

    -- a data byte of either side, and a byte read from either side
    pub data_keeps : (s : Side) (take : M → ℕ → Taken M) → ((m : M) (b : ℕ) → b < 256 → Ok m → Ok (take m b).next)
        → ReceiverKeeps Ok (record { here = Write s; take = take; after = λ b. Write s 0 0 })
    unfolding phase_within bits_fit
    data_keeps s take f =
        record {
          early = λ k b g l. bits_fit_lem k b (omega arith) l;
          whole = λ a b l g. byte_fits b l;
          next = f;
          after = λ b. refl;
        }

    pub read_keeps : (s : Side) (fetch : M → ℕ) (done : M → ℕ → M) → ((m : M) (b : ℕ) → Ok m → Ok (done m b))
        → SenderKeeps Ok (record { here = Read s; fetch = fetch; done = done })
    unfolding phase_within
    read_keeps s fetch done f = record { opening = refl; under = λ k b h. read_within s k b h; done = f }
