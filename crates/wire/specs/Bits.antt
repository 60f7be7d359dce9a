-- SPDX-License-Identifier: Apache-2.0
-- One byte on the wire, bit by bit (01, Transfers: "Bits come high bit first; the ninth clock is the acknowledge").
--   pushed   a byte with one more bit received       sent_bit   the bit of a byte that a clock sends
--   Place    where in its nine clocks a byte stands  place_at   the same, by the clocks that are done
use Rattle.std.specs.Prelude.{ℕ, ◌+◌, ◌-◌, ◌*◌, ◌/◌, ◌%◌, ◌^◌, Bool, true, false, cond, eqb, ltb}

-- "Bits come high bit first": those that came before move up by one place.
unfoldable pub pushed : ℕ → Bool → ℕ
pushed b true = b % 128 * 2 + 1
pushed b false = b % 128 * 2

-- The bit that goes out when k clocks of the byte are done, high bit first.
unfoldable pub sent_bit : ℕ → ℕ → Bool
sent_bit k b = eqb (b / 2 ^ (7 - k) % 2) 1

-- The first clock of a byte; one of the next six; the eighth, at which a byte acts; the ninth.
pub data Place : Type 0 where
  first within last ack : Place

unfoldable pub place_at : ℕ → Place
place_at k = cond (eqb k 0) first (cond (ltb k 7) within (cond (eqb k 7) last ack))
