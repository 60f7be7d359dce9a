-- SPDX-License-Identifier: Apache-2.0
-- One field of the calendar: a byte of two decimal digits, its limits, and what a carry does to it.
-- 01, Registers ("in BCD") and Ticks, alarm, power ("BCD digits; .. to 59").
--
--   value x                the number that the digits of x stand for
--   bcd n                  the byte whose digits stand for n
--   bit b                  a carry or a flag, as the number 1 or 0
--   in_field low top x      x is two decimal digits and stands for a number from low to top
--   step_of low top b x     the field x, with these limits, after the carry b
--
use Rattle.std.specs.Prelude.{ℕ, ◌+◌, ◌*◌, ◌/◌, ◌%◌, Bool, true, false, ◌&&◌, ltb, leb, eqb}
use Rattle.calendar.specs.declared.fields.Carried.{Carried}

-- 01, Registers: "in BCD": the high four bits count tens
abbrev pub value : ℕ → ℕ
value x = x / 16 * 10 + x % 16

-- 01, Registers: "in BCD": the byte of a number below 100
abbrev pub bcd : ℕ → ℕ
bcd n = n / 10 * 16 + n % 10

-- Auxiliary: what a carry adds
abbrev pub bit : Bool → ℕ
bit true = 1
bit false = 0

-- 01, Ticks, alarm, power: "BCD digits", and a number from low to top; top being below 100, the high digit is decimal
-- too
unfoldable pub in_field : ℕ → ℕ → ℕ → Bool
in_field low top x = ltb (x % 16) 10 && leb low (value x) && leb (value x) top

-- Auxiliary: a field that takes a carry, where the test says whether it stands at its greatest number
abbrev pub turn_of : Bool → ℕ → ℕ → Carried
turn_of true low x = record { byte = low; carry = true }
turn_of false low x = record { byte = bcd (value x + 1); carry = false }

-- 01, Ticks, alarm, power: "goes to the next second": without a carry a field stays; with one it goes to the next
-- number, or from top back to low and carries on
unfoldable pub step_of : ℕ → ℕ → Bool → ℕ → Carried
step_of low top false x = record { byte = x; carry = false }
step_of low top true x = turn_of (eqb (value x) top) low x
