-- SPDX-License-Identifier: Apache-2.0
-- Memory addresses and protection of the two sizes in numbers: arithmetic on the size.
use Prim.Native.Nat.{ℕ, ◌+◌, ◌*◌, ◌/◌, ◌%◌, ◌-◌, ◌<◌}
use mathlib.Core.Path.{◌≡◌, refl}
use native.Mathlib.Nat.{mod_self, mod-eq_of_lt}
use native.Mathlib.Omega.{arith}
use borrow.Author.Tests.{eqb-true, eqb-false}
use Rattle.bits.specs.Weight.{has, only}
use Rattle.wire.proofs.Tests.{by_test}
use Rattle.law_larger.specs.Addresses.{RollsOver, UpperBitsIgnored, ProtectedRanges}

last_next : (size : ℕ) → 0 < size → size - 1 + 1 ≡ size
last_next size z = omega arith

pub rolls_over : (size : ℕ) → 0 < size → RollsOver size
rolls_over size z = record { last = rw (last_next size z) (mod_self size); other = λ a l. mod-eq_of_lt l }

pub upper_bits_ignored : UpperBitsIgnored
upper_bits_ignored = record { kb64 = λ high low l. omega arith; kb256 = λ high low l. omega arith }

-- a bit alone is its weight times the bit
only_has : (b weight w : ℕ) → only (has b weight) w ≡ b / weight % 2 * w
only_has b weight w =
    by_test (has b weight) (λ t. let q = eqb-true (b / weight % 2) 1 t in rw (t, q) (omega arith))
    (λ t. let n = eqb-false (b / weight % 2) 1 t in let q : b / weight % 2 ≡ 0 = omega arith in rw (t, q) (omega arith))

guard_bits : (control : ℕ) → control / 8 % 4 ≡ only (has control 0x10) 2 + only (has control 0x08) 1
guard_bits control = rw (only_has control 0x10 2, only_has control 0x08 1) (omega arith)

pub protected_ranges : ProtectedRanges
protected_ranges = record { kb64 = refl; kb256 = refl; bits = λ c. guard_bits c.registers.control }
