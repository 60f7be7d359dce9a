-- SPDX-License-Identifier: Apache-2.0
-- Rows that pass the table's test are the starts of the years' months; every entry of the table is the start of its month;
-- and a start that was read from it is one of this century or the next.
use mathlib.Core.Path.{◌≡◌, refl, sym, ◌∙◌, ap, subst}
use mathlib.Core.List.{List, [], ◌∷◌, ◌++◌}
use Prim.Native.Nat.{ℕ, zero, suc, ◌+◌, ◌*◌, ◌-◌, ◌/◌, ◌%◌, ◌≤◌, ◌<◌}
use native.Mathlib.Omega.{arith}
use native.Mathlib.Nat.{add-zero, zero-add, add-suc, suc-add, le_of_suc-le-suc, not-suc-le-zero}
use lib.Dec.{T, eqb, eqb→eq}
use lib.ListN.{length, get_or}
use Rattle.calendar.specs.Instant.{month_start}
use Rattle.calendar_days.specs.Table.{starts_from, table, row_of, entry_of, entries, are_twelve, climbs, IsTable}
use Rattle.calendar.proofs.Tests.{and_left, and_right, and_both}
use Rattle.calendar.proofs.Instant.{month_start_first}
use Rattle.calendar_days.proofs.Months.{month_start_later, month_start_near}

-- entries that climb from a month's start are the starts from there on
climbs_starts : (xs : List ℕ) (k : ℕ) → T (climbs k (month_start k) xs) → xs ≡ starts_from k (length xs)
unfolding climbs starts_from month_start
climbs_starts [] k t = refl
climbs_starts (x ∷ xs) k t =
    let e = eqb→eq x (month_start k) (and_left (eqb x (month_start k)) _ t) in
    let r = climbs_starts xs (suc k) (and_right (eqb x (month_start k)) _ t) in
    λ i. e i ∷ r i

-- so do the first of them, and those after
climbs_first : (xs ys : List ℕ) (k : ℕ) → T (climbs k (month_start k) (xs ++ ys)) → T (climbs k (month_start k) xs)
unfolding climbs month_start
climbs_first [] ys k t = tt
climbs_first (x ∷ xs) ys k t =
    and_both (eqb x (month_start k)) _ (and_left (eqb x (month_start k)) _ t)
    (climbs_first xs ys (suc k) (and_right (eqb x (month_start k)) _ t))

climbs_after :
    (xs ys : List ℕ) (k : ℕ) → T (climbs k (month_start k) (xs ++ ys))
    → T (climbs (k + length xs) (month_start (k + length xs)) ys)
unfolding climbs month_start
climbs_after [] ys k t = subst (λ (n : ℕ). T (climbs n (month_start n) ys)) (sym (add-zero k)) t
climbs_after (x ∷ xs) ys k t =
    subst (λ (n : ℕ). T (climbs n (month_start n) ys)) (suc-add k (length xs) ∙ sym (add-suc k (length xs)))
    (climbs_after xs ys (suc k) (and_right (eqb x (month_start k)) _ t))

row_from :
    (rows : List (List ℕ)) (k : ℕ) → T (are_twelve rows) → T (climbs k (month_start k) (entries rows))
    → (y : ℕ) → y < length rows → get_or rows y [] ≡ starts_from (k + 12 * y) 12
unfolding entries
row_from [] k w t y h = absurd (not-suc-le-zero h)
row_from (row ∷ rows) k w t zero h =
    let l = eqb→eq (length row) 12 (and_left (eqb (length row) 12) _ w) in
    let n : k ≡ k + 12 * 0 = omega arith in
    climbs_starts row k (climbs_first row (entries rows) k t) ∙ ap (starts_from k) l ∙ ap (λ (j : ℕ). starts_from j 12) n
row_from (row ∷ rows) k w t (suc y) h =
    let l = eqb→eq (length row) 12 (and_left (eqb (length row) 12) _ w) in
    let a =
    subst (λ (j : ℕ). T (climbs (k + j) (month_start (k + j)) (entries rows))) l (climbs_after row (entries rows) k t) in
    let n : k + 12 + 12 * y ≡ k + 12 * suc y = omega arith in
    row_from rows (k + 12) (and_right (eqb (length row) 12) _ w) a y (le_of_suc-le-suc h)
    ∙ ap (λ (j : ℕ). starts_from j 12) n

pub row_at : (rows : List (List ℕ)) → IsTable rows → (y : ℕ) → y < 100 → get_or rows y [] ≡ row_of y
row_at rows t y h =
    row_from rows 0 t.months (rw month_start_first t.climb) y (rw t.years h)
    ∙ ap (λ (j : ℕ). starts_from j 12) (zero-add (12 * y))

starts_at : (k n j : ℕ) → j < n → get_or (starts_from k n) j 0 ≡ month_start (k + j)
unfolding starts_from
starts_at k zero j h = absurd (not-suc-le-zero h)
starts_at k (suc n) zero h = ap month_start (sym (add-zero k))
starts_at k (suc n) (suc j) h =
    starts_at (suc k) n j (le_of_suc-le-suc h) ∙ ap month_start (suc-add k j ∙ sym (add-suc k j))

-- all 1,200: entry k is the start of month k
pub table_at : (k : ℕ) → k < 1200 → get_or table k 0 ≡ month_start k
table_at k h = starts_at 0 1200 k h ∙ ap month_start (zero-add k)

-- an entry by its year and its month there
pub entry_by_row :
    (k r : ℕ) (row : List ℕ) → k < 1200 → row ≡ row_of (k / 12) → r ≡ get_or row (k % 12) 0
    → (r ≡ get_or table k 0) × (r < 36525)
entry_by_row k r row h e f =
    let n : 12 * (k / 12) + k % 12 ≡ k = omega arith in
    let s = f ∙ ap (λ (x : List ℕ). get_or x (k % 12) 0) e ∙ starts_at (12 * (k / 12)) 12 (k % 12) (omega arith) ∙ ap month_start n in
    (s ∙ sym (table_at k h), omega (arith, s, (month_start_near k).0))

-- a month's start by its entry, in this century and in the next
pub this_century : (k r : ℕ) → k < 1200 → r ≡ get_or table k 0 → (r ≡ month_start k) × (r ≡ entry_of k)
this_century k r h e =
    let m : k % 1200 ≡ k = omega arith in
    let t = ap (λ (n : ℕ). get_or table n 0) m in
    (e ∙ table_at k h, omega (arith, e, t))

pub next_century :
    (k r : ℕ) → 1200 ≤ k → k < 2400 → r ≡ get_or table (k - 1200) 0
    → (36525 + r ≡ month_start k) × (36525 + r ≡ entry_of k)
next_century k r h l e =
    let f : k - 1200 + 1200 ≡ k = omega arith in
    let g = ap month_start f in
    let s = month_start_later (k - 1200) in
    let a = e ∙ table_at (k - 1200) (omega arith) in
    let m : k % 1200 ≡ k - 1200 = omega arith in
    let t = ap (λ (n : ℕ). get_or table n 0) m in
    (omega (arith, a, s, g), omega (arith, e, t))
