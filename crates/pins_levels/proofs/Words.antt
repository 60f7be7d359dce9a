-- SPDX-License-Identifier: Apache-2.0
-- A word says all of a token and of what is due: each bit by the rest of a division, each byte too.
use Prim.Native.Nat.{ℕ, ◌+◌, ◌*◌, ◌/◌, ◌%◌, ◌≤◌, ◌<◌}
use mathlib.Core.Path.{◌≡◌, refl, ap}
use mathlib.Core.Bool.{Bool, true, false, cond}
use lib.Dec.{eqb}
use native.Mathlib.Omega.{arith}
use Rattle.pins_levels.specs.Packed.{bits_of, four_bits, event_in, packed, unpacked, Fits, RoundTrip}
use Rattle.pins_levels.specs.declared.Due.{Due}

-- a bit is 0 or 1; its weight is so many of it
abbrev one : Bool → ℕ
one b = cond b 1 0

at_most : (b : Bool) → one b ≤ 1
at_most true = omega arith
at_most false = omega arith

weight : (b : Bool) (w : ℕ) → cond b w 0 ≡ w * one b
weight true w = omega arith
weight false w = omega arith

is_one : (b : Bool) (x : ℕ) → x ≡ one b → eqb x 1 ≡ b
is_one true x e = ap (λ (y : ℕ). eqb y 1) e
is_one false x e = ap (λ (y : ℕ). eqb y 1) e

-- seven bits with bytes above them
record Seven (a b c d e f g k n : ℕ) : Type 0 where
  0th : n % 2 ≡ a
  1st : n / 2 % 2 ≡ b
  2nd : n / 4 % 2 ≡ c
  3rd : n / 8 % 2 ≡ d
  4th : n / 16 % 2 ≡ e
  5th : n / 32 % 2 ≡ f
  6th : n / 64 % 2 ≡ g
  rest : n / 256 ≡ k

seven : (a b c d e f g k n : ℕ) → a ≤ 1 → b ≤ 1 → c ≤ 1 → d ≤ 1 → e ≤ 1 → f ≤ 1 → g ≤ 1
    → n ≡ a + 2 * b + 4 * c + 8 * d + 16 * e + 32 * f + 64 * g + 256 * k → Seven a b c d e f g k n
seven a b c d e f g k n p₀ p₁ p₂ p₃ p₄ p₅ p₆ q =
    record {
      0th = omega arith;
      1st = omega arith;
      2nd = omega arith;
      3rd = omega arith;
      4th = omega arith;
      5th = omega arith;
      6th = omega arith;
      rest = omega arith;
    }

-- what lies above them
record Above (v a w x y z n : ℕ) : Type 0 where
  0th : n / 0x100 % 16 ≡ v
  1st : n / 0x1000 % 16 ≡ a
  2nd : n / 0x10000 % 256 ≡ w
  3rd : n / 0x1000000 % 16 ≡ x
  4th : n / 0x10000000 % 16 ≡ y
  5th : n / 0x100000000 % 16 ≡ z

above : (b v a w x y z n : ℕ) → b ≤ 127 → v ≤ 15 → a < 16 → w < 256 → x ≤ 15 → y ≤ 15 → z ≤ 15
    → n ≡ b + v * 0x100 + a * 0x1000 + w * 0x10000 + x * 0x1000000 + y * 0x10000000 + z * 0x100000000
    → Above v a w x y z n
above b v a w x y z n p h₀ h₁ h₂ h₃ h₄ h₅ q =
    record {
      0th = omega arith;
      1st = omega arith;
      2nd = omega arith;
      3rd = omega arith;
      4th = omega arith;
      5th = omega arith;
    }

-- an event in four bits, and back
four_small : (e : ℕ) → four_bits e ≤ 15
four_small e = omega arith

four_back : (e x : ℕ) → e < 16 → x % 16 ≡ four_bits e → event_in x ≡ e
four_back e x h q = omega arith

module _ (d : Due) (h : Fits d) where
  high : ℕ
  high =
      four_bits d.token.waiting + d.token.answer * 0x10 + d.token.number * 0x100 + four_bits d.first * 0x10000
      + four_bits d.second * 0x100000 + four_bits d.third * 0x1000000

  sum : packed d
      ≡ one d.token.scl + 2 * one d.token.sda + 4 * one d.token.pulse + 8 * one d.token.pulling
      + 16 * one d.token.next + 32 * one d.token.low + 64 * one d.token.high + 256 * high
  unfolding packed high
  sum =
      let t = d.token in
      rw (weight t.sda 2, weight t.pulse 4, weight t.pulling 8, weight t.next 16, weight t.low 32, weight t.high 64)
      (omega arith)

  bits_small : bits_of d.token ≤ 127
  bits_small =
      let t = d.token in
      rw (weight t.sda 2, weight t.pulse 4, weight t.pulling 8, weight t.next 16, weight t.low 32, weight t.high 64)
      (omega (arith, at_most t.scl, at_most t.sda, at_most t.pulse, at_most t.pulling, at_most t.next, at_most t.low, at_most t.high))

  pub word_says : unpacked (packed d) ≡ d
  unfolding unpacked
  word_says =
      let t = d.token in
      let s =
      seven (one t.scl) (one t.sda) (one t.pulse) (one t.pulling) (one t.next) (one t.low) (one t.high) high
      (packed d) (at_most t.scl) (at_most t.sda) (at_most t.pulse) (at_most t.pulling) (at_most t.next)
      (at_most t.low) (at_most t.high) sum in
      let f =
      above (bits_of t) (four_bits t.waiting) t.answer t.number (four_bits d.first) (four_bits d.second)
      (four_bits d.third) (packed d) bits_small (four_small t.waiting) h.token.answer h.token.number (four_small d.first)
      (four_small d.second) (four_small d.third) fields in
      λ i. record {
        token =
            record {
              scl = is_one t.scl _ s.0th i;
              sda = is_one t.sda _ s.1st i;
              pulse = is_one t.pulse _ s.2nd i;
              pulling = is_one t.pulling _ s.3rd i;
              next = is_one t.next _ s.4th i;
              low = is_one t.low _ s.5th i;
              high = is_one t.high _ s.6th i;
              waiting = four_back t.waiting _ h.token.waiting f.0th i;
              number = f.2nd i;
              answer = f.1st i;
            };
        first = four_back d.first _ h.first f.3rd i;
        second = four_back d.second _ h.second f.4th i;
        third = four_back d.third _ h.third f.5th i;
      }
    where
      fields : packed d
          ≡ bits_of d.token + four_bits d.token.waiting * 0x100 + d.token.answer * 0x1000 + d.token.number * 0x10000
          + four_bits d.first * 0x1000000 + four_bits d.second * 0x10000000 + four_bits d.third * 0x100000000
      fields = unfold packed in refl

pub round_trip : RoundTrip
round_trip d h = word_says d h
