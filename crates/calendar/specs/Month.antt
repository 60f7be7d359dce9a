-- SPDX-License-Identifier: Apache-2.0
-- How many days a month has. 01, Ticks, alarm, power.
use Rattle.std.specs.Prelude.{ℕ, ◌%◌, Bool, true, false, List, [], ◌∷◌, get_or, eqb}

-- Auxiliary: the days of months 1 to 12 of a common year, after a 0 for month 0
abbrev pub common_lengths : List ℕ
common_lengths = 0 ∷ 31 ∷ 28 ∷ 31 ∷ 30 ∷ 31 ∷ 30 ∷ 31 ∷ 31 ∷ 30 ∷ 31 ∷ 30 ∷ 31 ∷ []

-- Auxiliary: one of two numbers, by a test
abbrev pub pick : Bool → ℕ → ℕ → ℕ
pick true a b = a
pick false a b = b

-- 01, Ticks, alarm, power: "the month's length; February has 29 days when the year divides by 4". 0 for no month.
unfoldable pub month_length : ℕ → ℕ → ℕ
month_length month year = pick (eqb month 2) (pick (eqb (year % 4) 0) 29 28) (get_or common_lengths month 0)
