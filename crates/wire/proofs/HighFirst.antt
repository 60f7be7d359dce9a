-- SPDX-License-Identifier: Apache-2.0
-- Bits come high bit first. Each bit that comes doubles what came before and adds itself, so what came first is doubled
-- by all that follow it; that holds as long as no more than eight bits have come. A byte's own bits, pushed one by one,
-- give its quotients by 128, 64, .. 1, of which the last is the byte.
use Prim.Native.Nat.{ℕ, ◌+◌, ◌*◌, ◌/◌, ◌%◌, ◌^◌, ◌<◌, ◌≤◌}
use mathlib.Core.Path.{◌≡◌, sym, ◌∙◌}
use mathlib.Core.Bool.{Bool, true, false, cond}
use mathlib.Core.List.{List, [], ◌∷◌}
use native.Mathlib.Omega.{arith}
use native.Mathlib.Nat.{div-one, mul-le-mul_left, one-le-pow, pow-suc}
use lib.Dec.{eqb}
use lib.ListN.{length}
use borrow.Author.Tests.{eqb-true, eqb-false}
use Rattle.wire.specs.Bits.{pushed, sent_bit}
use Rattle.wire.specs.HighFirst.{pushed_all, sent_bits, worth, HighFirst}
use Rattle.wire.proofs.Tests.{by_test}

-- a bit more, while what came before has room for it
push_doubles : (b : ℕ) (d : Bool) → b < 128 → pushed b d ≡ b * 2 + cond d 1 0
unfolding pushed
push_doubles b true h = omega arith
push_doubles b false h = omega arith

-- with bits that follow, which are worth less than p: the room left for them, and what all are worth
module _ (b p : ℕ) where
  push_room : (d : Bool) → (b + 1) * (p * 2) ≤ 256 → (b * 2 + cond d 1 0 + 1) * p ≤ 256
  push_room true h = omega arith
  push_room false h = omega arith

  push_small : 1 ≤ p → (b + 1) * (p * 2) ≤ 256 → b < 128
  push_small o h = omega (arith, mul-le-mul_left (b + 1) o)

  push_worth : (w : ℕ) (d : Bool) → (b * 2 + cond d 1 0) * p + w ≡ b * (p * 2) + (cond d p 0 + w)
  push_worth w true = omega arith
  push_worth w false = omega arith

pub pushed_worth : (ds : List Bool) (b : ℕ) → (b + 1) * 2 ^ length ds ≤ 256
    → pushed_all b ds ≡ b * 2 ^ length ds + worth ds
pushed_worth [] b h = omega arith
pushed_worth (d ∷ ds) b h =
    let p = 2 ^ length ds in
    let room : (b + 1) * (p * 2) ≤ 256 = rw pow-suc at h in
    let small = push_small b p (one-le-pow (length ds) 2 (omega arith)) room in
    rw (push_doubles b d small, pow-suc)
    (pushed_worth ds (b * 2 + cond d 1 0) (push_room b p d room) ∙ push_worth b p (worth ds) d)

push_bit : (x y : ℕ) → pushed x (eqb (y % 2) 1) ≡ x % 128 * 2 + y % 2
unfolding pushed
push_bit x y =
    by_test (eqb (y % 2) 1) (λ e. let q = eqb-true (y % 2) 1 e in rw (e, q))
    (λ e. let n = eqb-false (y % 2) 1 e in let q : y % 2 ≡ 0 = omega arith in rw (e, q) (omega arith))

-- a byte that is sent bit by bit and put together again is the byte
pub pushed_sent : (b : ℕ) → b < 256 → pushed_all 0 (sent_bits b) ≡ b
unfolding sent_bit
pushed_sent b h =
    let s0 : pushed 0 (sent_bit 0 b) ≡ b / 128 = push_bit 0 (b / 128) ∙ omega arith in
    let s1 : pushed (b / 128) (sent_bit 1 b) ≡ b / 64 = push_bit (b / 128) (b / 64) ∙ omega arith in
    let s2 : pushed (b / 64) (sent_bit 2 b) ≡ b / 32 = push_bit (b / 64) (b / 32) ∙ omega arith in
    let s3 : pushed (b / 32) (sent_bit 3 b) ≡ b / 16 = push_bit (b / 32) (b / 16) ∙ omega arith in
    let s4 : pushed (b / 16) (sent_bit 4 b) ≡ b / 8 = push_bit (b / 16) (b / 8) ∙ omega arith in
    let s5 : pushed (b / 8) (sent_bit 5 b) ≡ b / 4 = push_bit (b / 8) (b / 4) ∙ omega arith in
    let s6 : pushed (b / 4) (sent_bit 6 b) ≡ b / 2 = push_bit (b / 4) (b / 2) ∙ omega arith in
    let s7 : pushed (b / 2) (sent_bit 7 b) ≡ b / 1 = push_bit (b / 2) (b / 1) ∙ omega arith in
    rw (s0, s1, s2, s3, s4, s5, s6, s7) (div-one b)

pub high_first : HighFirst
high_first =
    record {
      received = λ ds n. pushed_worth ds 0 (rw n (omega arith)) ∙ omega arith;
      sent = λ b h. sym (pushed_worth (sent_bits b) 0 (omega arith) ∙ omega arith) ∙ pushed_sent b h;
    }
