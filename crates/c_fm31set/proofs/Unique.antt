-- SPDX-License-Identifier: Apache-2.0
-- No second outcome satisfies an entry's contract: each says that what comes out is one definition of what went in.
use Prim.Native.Nat.{ℕ}
use mathlib.Core.Path.{◌≡◌, sym, ◌∙◌}
use mathlib.Core.List.{List}
use Rattle.c_fm31set.specs.Entry.{CheckSettled, Outcome, RunSettled}

pub check_unique : (plan images a b c d : List ℕ) (n n₂ : ℕ) → CheckSettled plan images a b c d n
    → CheckSettled plan images a b c d n₂ → n ≡ n₂
check_unique plan images a b c d n n₂ p q = p ∙ sym q

-- two outcomes of the list run, as one equation of all that a caller can see
pub run_unique : (plan images a b c d es room : List ℕ) (x y : Outcome)
    → RunSettled plan images a b c d es room x.number x.images x.one x.two x.three x.four
    x.answers
    → RunSettled plan images a b c d es room y.number y.images y.one y.two y.three y.four
    y.answers
    → x ≡ y
run_unique plan images a b c d es room x y p q = p ∙ sym q
