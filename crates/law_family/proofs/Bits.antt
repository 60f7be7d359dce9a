-- SPDX-License-Identifier: Apache-2.0
-- What the registers keep of a byte, bit by bit: a byte is what its eight bits are worth, and each bit of what is kept is a
-- quotient of the byte that was written.
use Prim.Native.Nat.{ℕ, ◌+◌, ◌*◌, ◌/◌, ◌%◌, ◌<◌}
use mathlib.Core.Path.{◌≡◌, sym, ap, ◌∙◌}
use mathlib.Core.Bool.{Bool, true, false, ◌&&◌, ◌||◌}
use mathlib.Core.List.{[], ◌∷◌}
use native.Mathlib.Omega.{arith}
use lib.Dec.{eqb}
use borrow.Author.Tests.{eq-eqb, ne_eqb}
use Rattle.bits.specs.Weight.{has, only}
use Rattle.wire.specs.Bits.{sent_bit}
use Rattle.wire.specs.HighFirst.{worth}
use Rattle.wire.proofs.HighFirst.{high_first}
use Rattle.fm31_counters.specs.Write.{flags_after, watchdog_after, control_after, counting_after}
use Rattle.law_family.specs.Written.{flags_bits, watchdog_bits, control_bits, counting_bits}
use Rattle.law_family.specs.Fixed.{released}

-- a number below 256 is what these bits are worth, if they are its bits
module _ (x : ℕ) (h : x < 256) {d₀ d₁ d₂ d₃ d₄ d₅ d₆ d₇ : Bool} where
  is_worth : has x 128 ≡ d₀ → has x 64 ≡ d₁ → has x 32 ≡ d₂ → has x 16 ≡ d₃
      → has x 8 ≡ d₄ → has x 4 ≡ d₅ → has x 2 ≡ d₆ → has x 1 ≡ d₇
      → x ≡ worth (d₀ ∷ d₁ ∷ d₂ ∷ d₃ ∷ d₄ ∷ d₅ ∷ d₆ ∷ d₇ ∷ [])
  unfolding sent_bit
  is_worth e₀ e₁ e₂ e₃ e₄ e₅ e₆ e₇ =
      sym (high_first.sent x h)
      ∙ (λ i. worth (e₀ i ∷ e₁ i ∷ e₂ i ∷ e₃ i ∷ e₄ i ∷ e₅ i ∷ e₆ i ∷ e₇ i ∷ []))

-- a bit that is 1, one that is 0, and one that another byte has, at the same place or not
yes : (x w : ℕ) → x / w % 2 ≡ 1 → has x w ≡ true
yes x w e = eq-eqb (x / w % 2) 1 e

no : (x w : ℕ) → x / w % 2 ≡ 0 → has x w ≡ false
no x w e = ne_eqb (x / w % 2) 1 (λ z. omega arith)

alike : (x w b v : ℕ) → x / w % 2 ≡ b / v % 2 → has x w ≡ has b v
alike x w b v e = ap (λ (z : ℕ). eqb z 1) e

same : (x b w : ℕ) → x / w % 2 ≡ b / w % 2 → has x w ≡ has b w
same x b w e = alike x w b w e

module _ (b : ℕ) where
  pub counting_bits_lem : counting_after b ≡ counting_bits b
  counting_bits_lem =
      let x = b % 16 in
      is_worth x (omega arith) (no x 128 (omega arith)) (no x 64 (omega arith)) (no x 32 (omega arith)) (no x 16 (omega arith))
      (same x b 8 (omega arith)) (same x b 4 (omega arith)) (same x b 2 (omega arith)) (same x b 1 (omega arith))

  pub released_bits : b % 8 ≡ released b
  released_bits =
      let x = b % 8 in
      is_worth x (omega arith) (no x 128 (omega arith)) (no x 64 (omega arith)) (no x 32 (omega arith)) (no x 16 (omega arith))
      (no x 8 (omega arith)) (same x b 4 (omega arith)) (same x b 2 (omega arith)) (same x b 1 (omega arith))

  pub watchdog_bits_lem : b < 256 → watchdog_after b ≡ watchdog_bits b
  watchdog_bits_lem h =
      let x = b / 128 * 128 + b % 32 in
      is_worth x (omega arith) (same x b 128 (omega arith)) (no x 64 (omega arith)) (no x 32 (omega arith))
      (same x b 16 (omega arith)) (same x b 8 (omega arith)) (same x b 4 (omega arith)) (same x b 2 (omega arith))
      (same x b 1 (omega arith))

  locked_bits : (s : Bool)
      → only s 128 + b % 32
      ≡ worth (s ∷ false ∷ false ∷ has b 16 ∷ has b 8 ∷ has b 4 ∷ has b 2 ∷ has b 1 ∷ [])
  locked_bits true =
      let x = 128 + b % 32 in
      is_worth x (omega arith) (yes x 128 (omega arith)) (no x 64 (omega arith)) (no x 32 (omega arith))
      (same x b 16 (omega arith)) (same x b 8 (omega arith)) (same x b 4 (omega arith)) (same x b 2 (omega arith))
      (same x b 1 (omega arith))
  locked_bits false =
      let x = 0 + b % 32 in
      is_worth x (omega arith) (no x 128 (omega arith)) (no x 64 (omega arith)) (no x 32 (omega arith))
      (same x b 16 (omega arith)) (same x b 8 (omega arith)) (same x b 4 (omega arith)) (same x b 2 (omega arith))
      (same x b 1 (omega arith))

  pub control_bits_lem : (old : ℕ) → control_after old b ≡ control_bits old b
  control_bits_lem old = locked_bits (has old 128 || has b 128)

  -- WTR, POR, LB, each on or not: a number below 8
  above : (p : ℕ) → p < 8
      → p * 32 + b % 16
      ≡ worth (has p 4 ∷ has p 2 ∷ has p 1 ∷ false ∷ has b 8 ∷ has b 4 ∷ has b 2 ∷ has b 1 ∷ [])
  above p h =
      let x = p * 32 + b % 16 in
      is_worth x (omega arith)
      (alike x 128 p 4 (omega arith)) (alike x 64 p 2 (omega arith)) (alike x 32 p 1 (omega arith))
      (no x 16 (omega arith))
      (same x b 8 (omega arith)) (same x b 4 (omega arith)) (same x b 2 (omega arith)) (same x b 1 (omega arith))

  upper : (s t u : Bool)
      → only s 128 + only t 64 + only u 32 + b % 16
      ≡ worth (s ∷ t ∷ u ∷ false ∷ has b 8 ∷ has b 4 ∷ has b 2 ∷ has b 1 ∷ [])
  upper true true true = above 7 (omega arith)
  upper true true false = above 6 (omega arith)
  upper true false true = above 5 (omega arith)
  upper true false false = above 4 (omega arith)
  upper false true true = above 3 (omega arith)
  upper false true false = above 2 (omega arith)
  upper false false true = above 1 (omega arith)
  upper false false false = above 0 (omega arith)

  pub flags_bits_lem : (old : ℕ) → flags_after old b ≡ flags_bits old b
  flags_bits_lem old = upper (has old 128 && has b 128) (has old 64 && has b 64) (has old 32 && has b 32)
