-- SPDX-License-Identifier: Apache-2.0
-- Memory addresses and protection of the two sizes in numbers (02, number 5; document 003); the definitions say them
-- over the size.
--   RollsOver            over the size: the address after the last is 0, after any other the next
--   UpperBitsIgnored     the address that two address bytes give
--   ProtectedRanges      what each protection covers, and the bits that choose it
use Rattle.std.specs.Prelude.{ℕ, ◌+◌, ◌*◌, ◌%◌, ◌-◌, ◌<◌, ◌≡◌, [], ◌∷◌, map}
use Rattle.bits.specs.Weight.{has, only}
use Rattle.wire.specs.Memory.{joined, next, protected_below}
use Rattle.fm31_counters.specs.Part.{guard_of}
use Rattle.fm31_counters.specs.declared.Counters.{Counters}
use Rattle.fm31.specs.Chip.{size_of}
use Rattle.fm31.specs.declared.Size.TheVariants.{Kb64, Kb256}

-- 003: "After the last address is reached, the address latch will roll over to 0000h".
pub record RollsOver (size : ℕ) : Type 0 where
  pub last : next size (size - 1) ≡ 0
  pub other : (a : ℕ) → a + 1 < size → next size a ≡ a + 1

-- "A memory address below that size, address bits above it being ignored": the upper three bits, the upper one.
pub record UpperBitsIgnored : Type 0 where
  pub kb64 : (high low : ℕ) → low < 256 → joined (size_of Kb64) high low ≡ high % 32 * 256 + low
  pub kb256 : (high low : ℕ) → low < 256 → joined (size_of Kb256) high low ≡ high % 128 * 256 + low

-- 003: "Bottom 1/4 .. Bottom 1/2 .. Full array", by WP1 WP0: the first address that is free. The two are bits 4 and 3
-- of 0Bh.
pub record ProtectedRanges : Type 0 where
  pub kb64 : map (protected_below (size_of Kb64)) (0 ∷ 1 ∷ 2 ∷ 3 ∷ []) ≡ 0x0000 ∷ 0x0800 ∷ 0x1000 ∷ 0x2000 ∷ []
  pub kb256 : map (protected_below (size_of Kb256)) (0 ∷ 1 ∷ 2 ∷ 3 ∷ []) ≡ 0x0000 ∷ 0x2000 ∷ 0x4000 ∷ 0x8000 ∷ []
  pub bits : (c : Counters) → let control = c.registers.control in
      guard_of c ≡ only (has control 0x10) 2 + only (has control 0x08) 1
