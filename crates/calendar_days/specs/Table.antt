-- SPDX-License-Identifier: Apache-2.0
-- What makes rows of twelve the table of month starts (02, number 7: "the start of every month of the century as a day
-- number, 1,200 entries, first 0, last 36,494"; 01, Forms by place in the code: "differences equal month lengths, proved
-- by one test over the table"). The test is computed over the table that the code reads.
--
--   starts_from k n    the starts of n months, from month k on
--   table             those of the century's 1,200 months
--   row_of y           those of the year y
--   entry_of k         the start of month k by the table: entry k of 1,200, and in the next century the same again
--   entries rows      the rows' entries in a row
--   are_twelve rows    each of the rows has twelve entries
--   climbs k s xs     the entries xs, from month k on, start at s and climb by the months' lengths
--   IsTable rows      the rows are the table
--
use Rattle.std.specs.Prelude.{ℕ, zero, suc, ◌+◌, ◌*◌, ◌/◌, ◌%◌, ◌≡◌, Bool, true, ◌&&◌, List, [], ◌∷◌, ◌++◌, T, eqb, length, get_or}
use Rattle.calendar.specs.Month.{month_length}
use Rattle.calendar.specs.Instant.{month_start}

unfoldable pub starts_from : ℕ → ℕ → List ℕ
starts_from k zero = []
starts_from k (suc n) = month_start k ∷ starts_from (suc k) n

-- 02, number 7: "the start of every month of the century as a day number, 1,200 entries"
abbrev pub table : List ℕ
table = starts_from 0 1200

abbrev pub row_of : ℕ → List ℕ
row_of y = starts_from (12 * y) 12

-- A month by its entry. Months are counted on into the next century, each 36,525 days after its entry.
abbrev pub entry_of : ℕ → ℕ
entry_of k = get_or table (k % 1200) 0 + 36525 * (k / 1200)

unfoldable pub entries : List (List ℕ) → List ℕ
entries [] = []
entries (row ∷ rows) = row ++ entries rows

abbrev pub are_twelve : List (List ℕ) → Bool
are_twelve [] = true
are_twelve (row ∷ rows) = eqb (length row) 12 && are_twelve rows

-- 01, Forms by place in the code: "differences equal month lengths"
unfoldable pub climbs : ℕ → ℕ → List ℕ → Bool
climbs k s [] = true
climbs k s (x ∷ xs) = eqb x s && climbs (suc k) (s + month_length (k % 12 + 1) (k / 12)) xs

-- 02, number 7: "1,200 entries, first 0, last 36,494"
pub record IsTable (rows : List (List ℕ)) : Type 0 where
  pub years : length rows ≡ 100
  pub months : T (are_twelve rows)
  pub climb : T (climbs 0 0 (entries rows))
  pub last : get_or (entries rows) 1199 0 ≡ 36494
