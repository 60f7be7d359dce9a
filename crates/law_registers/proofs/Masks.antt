-- SPDX-License-Identifier: Apache-2.0
-- Bytes under masks, as remainders and quotients: each bit is worth its weight where it is there.
use Prim.Native.Nat.{ℕ, ◌+◌, ◌-◌, ◌*◌, ◌/◌, ◌%◌, ◌≤◌, ◌<◌}
use mathlib.Core.Path.{◌≡◌, sym, ap, subst, ◌∙◌}
use mathlib.Core.Bool.{cond}
use native.Mathlib.Omega.{arith}
use native.Mathlib.Nat.{div-one, zero-add}
use lib.Dec.{eqb}
use borrow.Author.Tests.{eqb-true, eqb-false}
use Rattle.bits.specs.Weight.{has}
use Rattle.bits.proofs.Cases.{Below, none, ◌then◌, below}
use Rattle.wire.specs.Bits.{sent_bit}
use Rattle.wire.proofs.Tests.{by_test}
use Rattle.fm3130_registers.specs.Control.{control_after}
use Rattle.fm3130_registers.specs.Stored.{top_and_below, stored_at, trim_after}
use Rattle.law_registers.specs.Written.{masked, mask_at, control_bits, trim_bits}

-- a bit and its weight
bit_worth : (x w : ℕ) → cond (eqb (x % 2) 1) w 0 ≡ x % 2 * w
bit_worth x w =
    by_test (eqb (x % 2) 1)
    (λ e. let q = eqb-true (x % 2) 1 e in rw (e, q) (omega arith))
    (λ e. let n = eqb-false (x % 2) 1 e in let q : x % 2 ≡ 0 = omega arith in rw (e, q) (omega arith))

-- the bits of a byte from a weight down, one more at a time
module _ (b : ℕ) where
  abbrev bit_at : ℕ → ℕ
  bit_at w = cond (eqb (b / w % 2) 1) w 0

  down_1 : bit_at 1 + 0 ≡ b % 2
  down_1 = rw (bit_worth (b / 1) 1, div-one b) (omega arith)

  down_2 : bit_at 2 + (bit_at 1 + 0) ≡ b % 4
  down_2 = rw (bit_worth (b / 2) 2, down_1) (omega arith)

  down_4 : bit_at 4 + (bit_at 2 + (bit_at 1 + 0)) ≡ b % 8
  down_4 = rw (bit_worth (b / 4) 4, down_2) (omega arith)

  down_8 : bit_at 8 + (bit_at 4 + (bit_at 2 + (bit_at 1 + 0))) ≡ b % 16
  down_8 = rw (bit_worth (b / 8) 8, down_4) (omega arith)

  down_16 : bit_at 16 + (bit_at 8 + (bit_at 4 + (bit_at 2 + (bit_at 1 + 0)))) ≡ b % 32
  down_16 = rw (bit_worth (b / 16) 16, down_8) (omega arith)

  down_32 : bit_at 32 + (bit_at 16 + (bit_at 8 + (bit_at 4 + (bit_at 2 + (bit_at 1 + 0))))) ≡ b % 64
  down_32 = rw (bit_worth (b / 32) 32, down_16) (omega arith)

  down_64 : bit_at 64 + (bit_at 32 + (bit_at 16 + (bit_at 8 + (bit_at 4 + (bit_at 2 + (bit_at 1 + 0)))))) ≡ b % 128
  down_64 = rw (bit_worth (b / 64) 64, down_32) (omega arith)

  top : (x : ℕ) → b < 256 → bit_at 128 + x ≡ b / 128 * 128 + x
  top x h = rw (bit_worth (b / 128) 128) (omega arith)

  mask_7f : masked 0x7F b ≡ b % 128
  unfolding sent_bit
  mask_7f = zero-add _ ∙ down_64

  mask_3f : masked 0x3F b ≡ b % 64
  unfolding sent_bit
  mask_3f = zero-add _ ∙ (zero-add _ ∙ down_32)

  mask_1f : masked 0x1F b ≡ b % 32
  unfolding sent_bit
  mask_1f = zero-add _ ∙ (zero-add _ ∙ (zero-add _ ∙ down_16))

  mask_07 : masked 0x07 b ≡ b % 8
  unfolding sent_bit
  mask_07 = zero-add _ ∙ (zero-add _ ∙ (zero-add _ ∙ (zero-add _ ∙ (zero-add _ ∙ down_4))))

  module _ (h : b < 256) where
    mask_ff : masked 0xFF b ≡ b
    unfolding sent_bit
    mask_ff = top _ h ∙ (rw down_64 (omega arith))

    mask_ff_split : masked 0xFF b ≡ top_and_below 128 b
    unfolding sent_bit
    mask_ff_split = top _ h ∙ rw down_64

    mask_bf : masked 0xBF b ≡ top_and_below 64 b
    unfolding sent_bit
    mask_bf = top _ h ∙ ap (λ (x : ℕ). b / 128 * 128 + x) (zero-add _ ∙ down_32)

    mask_9f : masked 0x9F b ≡ top_and_below 32 b
    unfolding sent_bit
    mask_9f = top _ h ∙ ap (λ (x : ℕ). b / 128 * 128 + x) (zero-add _ ∙ (zero-add _ ∙ down_16))

    mask_80 : masked 0x80 b ≡ b / 128 * 128
    unfolding sent_bit
    mask_80 = top _ h ∙ omega arith

    -- what 02h to 0Eh keep
    pub stored_masked : (a : ℕ) → 2 ≤ a → a ≤ 14 → stored_at a b ≡ masked (mask_at a) b
    stored_masked a l g =
        let e : a - 2 + 2 ≡ a = omega arith in
        subst (λ (n : ℕ). stored_at n b ≡ masked (mask_at n) b) e
        (below (λ k. stored_at (k + 2) b ≡ masked (mask_at (k + 2)) b) each (a - 2) (omega arith))
      where
        each : Below (λ k. stored_at (k + 2) b ≡ masked (mask_at (k + 2)) b) 13
        each =
            none then sym mask_7f then sym mask_7f then sym mask_3f then sym mask_07 then sym mask_3f then sym mask_1f
            then sym mask_ff
            then sym mask_ff_split then sym mask_ff_split then sym mask_bf then sym mask_bf then sym mask_9f
            then sym mask_ff

-- what 01h keeps
pub trim_masked : (control old b : ℕ) → b < 256 → trim_after control old b ≡ trim_bits control old b
trim_masked control old b h =
    by_test (has control 0x04)
    (λ e. rw (e, mask_80 b h, mask_3f b)) (λ e. rw (e, mask_80 b h, mask_3f old))

-- what 00h keeps
pub control_masked : (old b : ℕ) → control_after old b ≡ control_bits old b
control_masked old b = rw (down_8 b, bit_worth (old / 64) 64, bit_worth (old / 32) 32) (omega arith)
