-- SPDX-License-Identifier: Apache-2.0
-- One clock of any byte, by the tests that the code makes on the clocks done. Each law opens `place_at` at one outcome of
-- those tests; the functions' proofs cite them and look no further.
use Prim.Native.Nat.{ℕ, ◌+◌, ◌≤◌, ◌<◌}
use mathlib.Core.Path.{◌≡◌, refl}
use mathlib.Core.Bool.{Bool, true, false, cond, ◌&&◌}
use native.Mathlib.Omega.{arith}
use lib.Dec.{eqb}
use borrow.Author.Tests.{lt-ltb, le-ltb, ne_eqb}
use Rattle.wire.specs.Bits.{first, within, ack, place_at, pushed, sent_bit}
use Rattle.wire.specs.Clock.{half, Receiver, received, received_at, kept, Sender, sent, sent_at, more}

-- where a byte stands
place_within : (k : ℕ) → (k ≡ 0 → ⊥) → k < 7 → place_at k ≡ within
unfolding place_at
place_within k z h = rw (ne_eqb k 0 z, lt-ltb k 7 h)

pub place_ack : (k : ℕ) → 7 ≤ k → (k ≡ 7 → ⊥) → place_at k ≡ ack
unfolding place_at
place_ack k h n = let z : k ≡ 0 → ⊥ = λ e. omega arith in rw (ne_eqb k 0 z, le-ltb k 7 h, ne_eqb k 7 n)

module _ {A : Type 0} (R : Receiver A) (a : A) where
  received_early : (t : Bool) (k b : ℕ) (d : Bool)
      → received_at (cond t first within) R a k b d ≡ half (R.here (k + 1) (pushed b d)) a d
  unfolding received_at
  received_early true k b d = refl
  received_early false k b d = refl

  pub received_inside : (k b : ℕ) (d : Bool) → k < 7 → received R a k b d ≡ half (R.here (k + 1) (pushed b d)) a d
  unfolding place_at
  received_inside k b d h = rw (lt-ltb k 7 h) (received_early (eqb k 0) k b d)

  pub received_last : (k b : ℕ) (d : Bool) → k ≡ 7
      → received R a k b d
      ≡ half (kept (R.take a (pushed b d)).good (R.here 8 (pushed b d))) (R.take a (pushed b d)).next d
  unfolding place_at received_at
  received_last k b d e = rw e

  pub received_ack : (k b : ℕ) (d : Bool) → 7 ≤ k → (k ≡ 7 → ⊥) → received R a k b d ≡ half (R.after b) a false
  unfolding received_at
  received_ack k b d h n = rw (place_ack k h n)

module _ {A : Type 0} (S : Sender A) (a : A) where
  pub sent_first : (k b : ℕ) (d : Bool) → k ≡ 0
      → sent S a k b d ≡ half (S.here 1 (S.fetch a)) a (d && sent_bit 0 (S.fetch a))
  unfolding place_at sent_at
  sent_first k b d e = rw e

  pub sent_within : (k b : ℕ) (d : Bool) → (k ≡ 0 → ⊥) → k < 7
      → sent S a k b d ≡ half (S.here (k + 1) b) a (d && sent_bit k b)
  unfolding sent_at
  sent_within k b d z h = rw (place_within k z h)

  pub sent_last : (k b : ℕ) (d : Bool) → k ≡ 7 → sent S a k b d ≡ half (S.here 8 b) (S.done a b) (d && sent_bit 7 b)
  unfolding place_at sent_at
  sent_last k b d e = rw e

  pub sent_ack : (k b : ℕ) (d : Bool) → 7 ≤ k → (k ≡ 7 → ⊥) → sent S a k b d ≡ half (more d (S.here 0 0)) a d
  unfolding sent_at
  sent_ack k b d h n = rw (place_ack k h n)
