-- SPDX-License-Identifier: Apache-2.0
-- What rows of Clocks leave in an image and in the answers, free of any part. All is auxiliary: the laws of a part say that it
-- is what the list of these events comes to.
--   high                        the master's line, by an event's last bit
--   bits_after                   the bits that so many events push into a byte
--   heard_after, sent_after       the answers to so many events: the master's line; that line while a byte is sent
--   Row                         a stretch of Clocks
--   Received, Sent, Unheard     what each row leaves
use Rattle.std.specs.Prelude.{ℕ, zero, suc, ◌+◌, ◌-◌, ◌/◌, ◌%◌, ◌<◌, ◌≤◌, ◌≡◌, Bool, cond, ◌&&◌, List, eqb, length, get_or, set}
use Rattle.wire.specs.Bits.{pushed, sent_bit}

abbrev pub high : ℕ → Bool
high e = eqb (e % 2) 1

module _ (es : List ℕ) (from : ℕ) where
  unfoldable pub bits_after : ℕ → ℕ → ℕ
  bits_after b zero = b
  bits_after b (suc n) = pushed (bits_after b n) (high (get_or es (from + n) 0))

  module _ (pin : ℕ) (a : List ℕ) where
    unfoldable pub heard_after : ℕ → List ℕ
    heard_after zero = a
    heard_after (suc n) = set (heard_after n) (from + n) (pin + get_or es (from + n) 0 % 2)

    unfoldable pub sent_after : ℕ → ℕ → ℕ → List ℕ
    sent_after k b zero = a
    sent_after k b (suc n) =
        set (sent_after k b n) (from + n) (pin + cond (high (get_or es (from + n) 0) && sent_bit (k + n) b) 1 0)

  -- All events from the first place to the second are Clocks; one at least, where the first event is one.
  pub record Row (to : ℕ) : Type 0 where
    pub onward : from ≤ to
    pub inside : to ≤ length es
    pub clocks : (j : ℕ) → from ≤ j → j < to → get_or es j 0 / 2 ≡ 1
    pub some : from < length es → get_or es from 0 / 2 ≡ 1 → from < to

pub record Received (pin : ℕ) (es i a : List ℕ) (from : ℕ) (i' a' : List ℕ) (to : ℕ) : Type 0 where
  pub row : Row es from to
  pub few : get_or i 27 0 + (to - from) ≤ 7
  pub image : i' ≡ set (set i 27 (get_or i 27 0 + (to - from))) 28 (bits_after es from (get_or i 28 0) (to - from))
  pub answers : a' ≡ heard_after es from pin a (to - from)

pub record Sent (pin : ℕ) (es i a : List ℕ) (from : ℕ) (i' a' : List ℕ) (to : ℕ) : Type 0 where
  pub row : Row es from to
  pub few : get_or i 27 0 + (to - from) ≤ 7
  pub image : i' ≡ set (set i 27 (get_or i 27 0 + (to - from))) 28 (get_or i 28 0)
  pub answers : a' ≡ sent_after es from pin a (get_or i 27 0) (get_or i 28 0) (to - from)

pub record Unheard (pin : ℕ) (es a : List ℕ) (from : ℕ) (a' : List ℕ) (to : ℕ) : Type 0 where
  pub row : Row es from to
  pub answers : a' ≡ heard_after es from pin a (to - from)
