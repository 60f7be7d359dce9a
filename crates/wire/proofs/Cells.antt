-- SPDX-License-Identifier: Apache-2.0
-- What a clock leaves of the memory's bytes: only the eighth clock of a data byte changes them, and only at the address. By
-- cases on where the byte stands. Over the memory's size.
use Prim.Native.Nat.{ℕ}
use mathlib.Core.Path.{◌≡◌, refl}
use mathlib.Core.Bool.{Bool, true, false}
use mathlib.Core.List.{List}
use Rattle.wire.specs.Bits.{Place, first, within, last, ack, place_at}
use Rattle.wire.specs.Clock.{received_at, received, sent_at, sent}
use Rattle.wire.specs.Kinds.{low_byte, memory_read}
use Rattle.wire.specs.Memory.{Cells, lent, next, is_protected, pointed, refused_byte, put_byte, byte_at, stepped_on}
use Rattle.wire.proofs.Tests.{by_test}

module _ (size : ℕ) (m : Cells) where
  low_bytes_at : (l : Place) (h k b : ℕ) (d : Bool) → (received_at l (low_byte (pointed size) h) m k b d).part.bytes ≡ m.bytes
  unfolding received_at
  low_bytes_at first h k b d = refl
  low_bytes_at within h k b d = refl
  low_bytes_at last h k b d = refl
  low_bytes_at ack h k b d = refl

  -- the second address byte leaves the bytes alone
  pub low_bytes : (h k b : ℕ) (d : Bool) → (received (low_byte (pointed size) h) m k b d).part.bytes ≡ m.bytes
  low_bytes h k b d = low_bytes_at (place_at k) h k b d

  fetch_bytes_at : (l : Place) (k b : ℕ) (d : Bool) → (sent_at l (memory_read byte_at (stepped_on size)) m k b d).part.bytes ≡ m.bytes
  unfolding sent_at
  fetch_bytes_at first k b d = refl
  fetch_bytes_at within k b d = refl
  fetch_bytes_at last k b d = refl
  fetch_bytes_at ack k b d = refl

  -- so does a byte that goes out
  pub fetch_bytes : (k b : ℕ) (d : Bool) → (sent (memory_read byte_at (stepped_on size)) m k b d).part.bytes ≡ m.bytes
  fetch_bytes k b d = fetch_bytes_at (place_at k) k b d

  -- a data byte, stored or refused, steps the address, under each protection
  pub put_steps : (wp b : ℕ) → (put_byte size wp m b).next.address ≡ next size m.address
  unfolding put_byte refused_byte
  put_steps wp b = by_test (is_protected size wp m.address) (λ e. rw e) (λ e. rw e)

  -- a refused one leaves the bytes and is not acknowledged
  pub refused_keeps : (wp b : ℕ) → is_protected size wp m.address ≡ true
      → ((put_byte size wp m b).next.bytes ≡ m.bytes) × ((put_byte size wp m b).good ≡ false)
  unfolding put_byte refused_byte
  refused_keeps wp b e = rw e (refl, refl)

-- the last address, all protected: refused, and the address goes to 0
pub last_refused : (l : List ℕ) (b : ℕ) → put_byte 8192 3 (lent l 0x1FFF) b ≡ record { next = lent l 0; good = false }
unfolding put_byte refused_byte
last_refused l b = refl
