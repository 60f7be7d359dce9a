-- SPDX-License-Identifier: Apache-2.0
-- "Bits come high bit first" as numbers (01, Transfers): what bits are worth, in the order in which they come and go.
--   pushed_all   bits that came, one by one        sent_bits   the eight bits that go out
--   worth       what bits are worth, the first the most
--   HighFirst   the statement
use Rattle.std.specs.Prelude.{ℕ, ◌+◌, ◌^◌, ◌<◌, ◌≡◌, Bool, cond, List, [], ◌∷◌, length}
use Rattle.wire.specs.Bits.{pushed, sent_bit}

-- Auxiliary: a byte with these bits more, in the order in which they came.
abbrev pub pushed_all : ℕ → List Bool → ℕ
pushed_all b [] = b
pushed_all b (d ∷ ds) = pushed_all (pushed b d) ds

-- Auxiliary: the bits of a byte that goes out, clock by clock.
abbrev pub sent_bits : ℕ → List Bool
sent_bits b =
    sent_bit 0 b ∷ sent_bit 1 b ∷ sent_bit 2 b ∷ sent_bit 3 b ∷ sent_bit 4 b ∷ sent_bit 5 b ∷ sent_bit 6 b ∷ sent_bit 7 b ∷ []

-- Of eight bits the first is worth 128, the next 64, and the last 1.
abbrev pub worth : List Bool → ℕ
worth [] = 0
worth (d ∷ ds) = cond d (2 ^ length ds) 0 + worth ds

-- "Bits come high bit first": eight bits that came make the byte that they are worth; the eight bits of a byte that
-- goes out are worth that byte.
pub record HighFirst : Type 0 where
  pub received : (ds : List Bool) → length ds ≡ 8 → pushed_all 0 ds ≡ worth ds
  pub sent : (b : ℕ) → b < 256 → worth (sent_bits b) ≡ b
