-- SPDX-License-Identifier: Apache-2.0
-- Rows of Clocks: none, and one event more.
use Prim.Native.Nat.{ℕ, suc, ◌+◌, ◌-◌, ◌/◌, ◌%◌, ◌≤◌, ◌<◌}
use mathlib.Core.Path.{◌≡◌, refl, sym, ap, ◌∙◌}
use mathlib.Core.Bool.{Bool, true, false, cond, ◌&&◌}
use mathlib.Core.List.{List}
use native.Mathlib.Omega.{arith}
use lib.Dec.{eqb}
use lib.ListN.{get_or, set}
use borrow.Author.Tests.{eqb-true, eqb-false}
use Rattle.std.specs.Int.{from_bool}
use Rattle.wire.specs.Bits.{pushed, sent_bit}
use Rattle.wire.proofs.Tests.{by_test}
use Rattle.bus_rows.specs.Row.{high, bits_after, heard_after, sent_after}

-- every event from one place to another is a Clock
abbrev pub Clocks : List ℕ → ℕ → ℕ → Type 0
Clocks es from to = (j : ℕ) → from ≤ j → j < to → get_or es j 0 / 2 ≡ 1

-- a line as a bit
pub line_worth : (d : Bool) → from_bool d ≡ cond d 1 0
line_worth true = refl
line_worth false = refl

module _ (es : List ℕ) (from : ℕ) where
  pub clocks_none : Clocks es from from
  clocks_none j h g = absurd (omega arith)

  pub bits_none : (b : ℕ) → b ≡ bits_after es from b (from - from)
  unfolding bits_after
  bits_none b = let z : from - from ≡ 0 = omega arith in rw z refl

  pub heard_none : (pin : ℕ) (a : List ℕ) → a ≡ heard_after es from pin a (from - from)
  unfolding heard_after
  heard_none pin a = let z : from - from ≡ 0 = omega arith in rw z refl

  pub sent_none : (pin : ℕ) (a : List ℕ) (k b : ℕ) → a ≡ sent_after es from pin a k b (from - from)
  unfolding sent_after
  sent_none pin a k b = let z : from - from ≡ 0 = omega arith in rw z refl

  module _ (i : ℕ) (h : from ≤ i) where
    one : i + 1 - from ≡ suc (i - from)
    one = omega arith

    here : from + (i - from) ≡ i
    here = omega arith

    pub clocks_more : Clocks es from i → get_or es i 0 / 2 ≡ 1 → Clocks es from (i + 1)
    clocks_more c e j g l =
        by_test (eqb j i) (λ t. rw (eqb-true j i t) e) (λ t. let n = eqb-false j i t in c j g (omega arith))

    pub bits_more : (b x y : ℕ) → x ≡ bits_after es from b (i - from) → y ≡ pushed x (high (get_or es i 0))
        → y ≡ bits_after es from b (i + 1 - from)
    unfolding bits_after
    bits_more b x y e f =
        f ∙ ap (λ (z : ℕ). pushed z (high (get_or es i 0))) e
        ∙ ap (λ (z : ℕ). pushed (bits_after es from b (i - from)) (high (get_or es z 0))) (sym here)
        ∙ ap (bits_after es from b) (sym one)

    module _ (pin : ℕ) (a : List ℕ) where
      pub heard_more : (x : List ℕ) → x ≡ heard_after es from pin a (i - from)
          → set x i (pin + get_or es i 0 % 2) ≡ heard_after es from pin a (i + 1 - from)
      unfolding heard_after
      heard_more x e =
          ap (λ (z : List ℕ). set z i (pin + get_or es i 0 % 2)) e
          ∙ ap (λ (z : ℕ). set (heard_after es from pin a (i - from)) z (pin + get_or es z 0 % 2)) (sym here)
          ∙ ap (heard_after es from pin a) (sym one)

      pub sent_more : (k b c v : ℕ) (x : List ℕ) → x ≡ sent_after es from pin a k b (i - from) → c ≡ k + (i - from)
          → v ≡ pin + cond (high (get_or es i 0) && sent_bit c b) 1 0 → set x i v ≡ sent_after es from pin a k b (i + 1 - from)
      unfolding sent_after
      sent_more k b c v x e q f =
          (λ t. set (e t) i (f t))
          ∙ ap (λ (z : ℕ). set (sent_after es from pin a k b (i - from)) i (pin + cond (high (get_or es i 0) && sent_bit z b) 1 0)) q
          ∙ ap
          (λ (z : ℕ). set (sent_after es from pin a k b (i - from)) z
          (pin + cond (high (get_or es z 0) && sent_bit (k + (i - from)) b) 1 0))
          (sym here)
          ∙ ap (sent_after es from pin a k b) (sym one)
