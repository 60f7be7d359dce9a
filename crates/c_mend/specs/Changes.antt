-- SPDX-License-Identifier: Apache-2.0
-- The list of what was changed. 02, number 14: "It lists each register changed with the old and the new byte, in register
-- order."
--   change_of n a b             one register: its number, the old and the new byte, where they differ; else nothing
--   changes_from n xs ys        the registers from number n on
--   changed_count xs ys         how many of them changed
use Rattle.std.specs.Prelude.{ℕ, ◌+◌, cond, List, [], ◌∷◌, ◌++◌, eqb}

-- "Each register changed with the old and the new byte": a = b is no change.
unfoldable pub change_of : ℕ → ℕ → ℕ → List ℕ
change_of n a b = cond (eqb a b) [] (n ∷ a ∷ b ∷ [])

-- "In register order."
unfoldable pub changes_from : ℕ → List ℕ → List ℕ → List ℕ
changes_from n [] ys = []
changes_from n (a ∷ xs) [] = []
changes_from n (a ∷ xs) (b ∷ ys) = change_of n a b ++ changes_from (n + 1) xs ys

-- Auxiliary: one register, as a number.
abbrev pub changed : ℕ → ℕ → ℕ
changed a b = cond (eqb a b) 0 1

-- How many registers changed.
unfoldable pub changed_count : List ℕ → List ℕ → ℕ
changed_count [] ys = 0
changed_count (a ∷ xs) [] = 0
changed_count (a ∷ xs) (b ∷ ys) = changed a b + changed_count xs ys
