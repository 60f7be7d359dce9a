-- SPDX-License-Identifier: Apache-2.0
-- Memory addresses and protection in 01's own numbers (01, Transfers); the definitions say them over the memory's size.
--   UpperBitsIgnored     the address that two address bytes give
--   ProtectedRanges      what each protection covers
use Rattle.std.specs.Prelude.{ℕ, ◌+◌, ◌*◌, ◌%◌, ◌<◌, ◌≡◌, [], ◌∷◌, map, ltb}
use Rattle.bits.specs.Weight.{has, only}
use Rattle.wire.specs.Memory.{joined, protected_below}
use Rattle.fm3130.specs.Chip.{memory_size}
use Rattle.fm3130.specs.declared.State.{State}
use Rattle.law_table.specs.Protected.{Protected}

-- "Two address bytes, acknowledged, the upper three bits ignored (ruling)."
abbrev pub UpperBitsIgnored : Type 0
UpperBitsIgnored = (high low : ℕ) → low < 256 → joined memory_size high low ≡ high % 32 * 256 + low

-- "Protection by WP1 WP0 of 0Eh: 00 none; 01 0000h to 07FFh; 10 0000h to 0FFFh; 11 all": by WP1 WP0, bits 4 and 3 of
-- 0Eh, the first address that is free.
pub record ProtectedRanges : Type 0 where
  pub ends : map (protected_below memory_size) (0 ∷ 1 ∷ 2 ∷ 3 ∷ []) ≡ 0x0000 ∷ 0x0800 ∷ 0x1000 ∷ 0x2000 ∷ []
  pub bits : (s : State) (a : ℕ) → let setup = s.companion.registers.setup in
      Protected s a ≡ ltb a (protected_below memory_size (only (has setup 0x10) 2 + only (has setup 0x08) 1))
