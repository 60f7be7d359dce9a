-- SPDX-License-Identifier: Apache-2.0
-- A slave or address byte that went unacknowledged: its line is high, so the transaction was not opened.
use Prim.Native.Nat.{ℕ, zero, suc, ◌+◌, ◌*◌, ◌%◌}
use mathlib.Core.Path.{◌≡◌, refl, ap, ◌∙◌}
use mathlib.Core.Bool.{false, not, and-false}
use mathlib.Core.List.{List, [], ◌∷◌, ◌++◌}
use native.Mathlib.Omega.{arith}
use lib.ListN.{length, get_or, drop, replicate, get_or-map, length-replicate}
use borrow.Author.Tests.{le-leb, eq-eqb, ne_eqb}
use Rattle.wire_clocks.specs.Clocks.{is_high, lines_of}
use Rattle.c_master.specs.Told.{is_low, is_open, is_open_read, flags_of, bytes_of}
use Rattle.c_master.specs.Outcome.{filled, write_told_of, read_told_of}
use Rattle.law_masters.specs.Unanswered.{Opening, slave, high, low, OpeningRead, first, second, NothingWritten, NothingRead}

-- an answer whose bit 0 is 1 is no acknowledge
not_low : (answers : List ℕ) (k : ℕ) → get_or answers k 1 % 2 ≡ 1 → is_low (lines_of answers) k ≡ false
not_low answers k h = ap not (get_or-map is_high answers k 1 ∙ eq-eqb (get_or answers k 1 % 2) 1 h)

module _ (answers : List ℕ) where
  shut : (k : ℕ) → Opening k → get_or answers k 1 % 2 ≡ 1 → is_open (lines_of answers) ≡ false
  shut k slave h = rw (not_low answers 9 h)
  shut k high h = rw (not_low answers 18 h) (and-false (is_low (lines_of answers) 9))
  shut k low h =
      rw (not_low answers 27 h, and-false (is_low (lines_of answers) 18)) (and-false (is_low (lines_of answers) 9))

  shut_read : (k : ℕ) → OpeningRead k → get_or answers k 1 % 2 ≡ 1 → is_open_read (lines_of answers) ≡ false
  shut_read k (first o) h = rw (shut k o h)
  shut_read k second h = rw (not_low answers 37 h) (and-false (is_open (lines_of answers)))

  -- no flag is set
  no_flags : is_open (lines_of answers) ≡ false → (n : ℕ) → flags_of n (lines_of answers) ≡ replicate n 0
  no_flags e zero = refl
  no_flags e (suc n) = rw (no_flags e n, e) (one_more_lem n)
    where
      one_more_lem : (n : ℕ) → ◌≡◌ {A = List ℕ} (replicate n 0 ++ (0 ∷ [])) (0 ∷ replicate n 0)
      one_more_lem zero = refl
      one_more_lem (suc n) = ap (λ (xs : List ℕ). 0 ∷ xs) (one_more_lem n)

pub nothing_written : NothingWritten
unfolding write_told_of
nothing_written n k answers e few room all o h =
    rw (le-leb n 256 few, le-leb n (length e) room, eq-eqb (length answers) (29 + 9 * n) all)
    (ap (λ (xs : List ℕ). filled xs e) (no_flags answers (shut answers k o h) n)
    ∙ ap (λ (x : ℕ). record { number = 0; count = x; buffer = replicate n 0 ++ drop x e }) (length-replicate n 0))

pub nothing_read : NothingRead
unfolding read_told_of bytes_of
nothing_read n k answers e some few room all o h =
    rw (
      le-leb n 256 few,
      ne_eqb n 0 (λ z. omega arith),
      le-leb n (length e) room,
      eq-eqb (length answers) (39 + 9 * n) all,
      shut_read answers k o h,
    )
