-- SPDX-License-Identifier: Apache-2.0
-- Memory addresses and protection in 01's own numbers: arithmetic on the size.
use Prim.Native.Nat.{ℕ, ◌+◌, ◌*◌, ◌/◌, ◌%◌}
use mathlib.Core.Path.{◌≡◌, refl, ap}
use native.Mathlib.Omega.{arith}
use lib.Dec.{ltb}
use borrow.Author.Tests.{eqb-true, eqb-false}
use Rattle.bits.specs.Weight.{has, only}
use Rattle.wire.specs.Memory.{protected_below}
use Rattle.wire.proofs.Tests.{by_test}
use Rattle.fm3130.specs.Chip.{memory_size}
use Rattle.law_table.specs.Addresses.{UpperBitsIgnored, ProtectedRanges}

pub upper_bits_ignored : UpperBitsIgnored
upper_bits_ignored high low h = omega arith

-- a bit alone is its weight times the bit
only_has : (b weight w : ℕ) → only (has b weight) w ≡ b / weight % 2 * w
only_has b weight w =
    by_test (has b weight) (λ t. let q = eqb-true (b / weight % 2) 1 t in rw (t, q) (omega arith))
    (λ t. let n = eqb-false (b / weight % 2) 1 t in let q : b / weight % 2 ≡ 0 = omega arith in rw (t, q) (omega arith))

guard_bits : (setup : ℕ) → setup / 8 % 4 ≡ only (has setup 0x10) 2 + only (has setup 0x08) 1
guard_bits setup = rw (only_has setup 0x10 2, only_has setup 0x08 1) (omega arith)

pub protected_ranges : ProtectedRanges
protected_ranges =
    record {
      ends = refl;
      bits = λ s a. ap (λ (g : ℕ). ltb a (protected_below memory_size g)) (guard_bits s.companion.registers.setup);
    }
