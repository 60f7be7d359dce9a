-- SPDX-License-Identifier: Apache-2.0
-- Nothing is lost without the count: it is the number of the events under number 0, and 0 under any other.
use Rattle.std.specs.Prelude.{ℕ, ◌≡◌, cond, List, eqb, length}
use Rattle.numbers.specs.Numbers.{accepted}
use Rattle.fm3130_list.specs.Run.{outcome_of}

abbrev pub CountByNumber : Type 0
CountByNumber =
    (i m es a : List ℕ)
    → (outcome_of i m es a).count ≡ cond (eqb (outcome_of i m es a).number accepted) (length es) 0
