-- SPDX-License-Identifier: Apache-2.0
-- Lists by place: one element more, and their lengths; and the lines of answers.
use Prim.Native.Nat.{ℕ, zero, suc, ◌+◌, ◌<◌, ◌≤◌}
use mathlib.Core.Path.{◌≡◌, refl, ◌∙◌}
use mathlib.Core.List.{List, [], ◌∷◌}
use native.Mathlib.Omega.{arith}
use native.Mathlib.Numerals.{add-one}
use lib.ListN.{length, take, drop, get_or, set, length-append}
use lib.Seq.{sets}
use Rattle.std.proofs.Common.{fold}
use Rattle.wire.specs.Bits.{pushed}
use Rattle.wire_clocks.specs.Clocks.{is_high, lines_of}
use Rattle.wire_clocks.proofs.Laying.{sets_append}
use Rattle.c_master.specs.Told.{line_at, list_of, byte_from}

-- one value more of a function
pub length_list_of : (f : ℕ → ℕ) (n : ℕ) → length (list_of f n) ≡ n
length_list_of f zero = refl
length_list_of f (suc n) = length-append (list_of f n) (f n ∷ []) ∙ (let h = length_list_of f n in omega arith)

pub listed_more : (e : List ℕ) (f : ℕ → ℕ) (i : ℕ) → set (sets e 0 (list_of f i)) i (f i) ≡ sets e 0 (list_of f (i + 1))
listed_more e f i =
    let n : i ≡ 0 + length (list_of f i) = let h = length_list_of f i in omega arith in
    rw add-one (sets_append e 0 i (list_of f i) (f i ∷ []) n)

-- the line of one answer is that answer's place among the lines
pub line_at_lem : (answers : List ℕ) (k : ℕ) → k < length answers
    → is_high (get_or answers k 0) ≡ line_at (lines_of answers) k
line_at_lem [] k h = absurd (omega arith)
line_at_lem (x ∷ xs) zero h = refl
line_at_lem (x ∷ xs) (suc k) h = line_at_lem xs k (omega arith)

-- the byte of eight answers, one by one
pub byte_from_lem : (answers : List ℕ) (k : ℕ) → k + 8 ≤ length answers
    → fold (λ b x. pushed b (is_high x)) 0 (take 8 (drop k answers)) ≡ byte_from (lines_of answers) k
byte_from_lem (x ∷ xs) (suc k) h = rw (on 1, on 2, on 3, on 4, on 5, on 6, on 7) (byte_from_lem xs k (omega arith))
  where
    on : (j : ℕ) → suc k + j ≡ suc (k + j)
    on j = omega arith
byte_from_lem (a ∷ b ∷ d ∷ e ∷ f ∷ g ∷ i ∷ j ∷ xs) zero h = refl
byte_from_lem [] k h = absurd (omega arith)
byte_from_lem (a ∷ []) zero h = absurd (omega arith)
byte_from_lem (a ∷ b ∷ []) zero h = absurd (omega arith)
byte_from_lem (a ∷ b ∷ d ∷ []) zero h = absurd (omega arith)
byte_from_lem (a ∷ b ∷ d ∷ e ∷ []) zero h = absurd (omega arith)
byte_from_lem (a ∷ b ∷ d ∷ e ∷ f ∷ []) zero h = absurd (omega arith)
byte_from_lem (a ∷ b ∷ d ∷ e ∷ f ∷ g ∷ []) zero h = absurd (omega arith)
byte_from_lem (a ∷ b ∷ d ∷ e ∷ f ∷ g ∷ i ∷ []) zero h = absurd (omega arith)
