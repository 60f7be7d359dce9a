-- SPDX-License-Identifier: Apache-2.0
-- A set through the entries for C, call after call: one that was made is run, and what a run leaves is run again. So
-- after a set was made only its events and the room for their answers can be refused, by 3 and 4.
--   MadeRuns     a set that `fm31_set_check` takes, `fm31_set_run` takes
--   RunsAgain    what `fm31_set_run` leaves, it takes
use Rattle.std.specs.Prelude.{ℕ, ◌≤◌, ◌≡◌, true, List, length}
use Rattle.numbers.specs.Numbers.{accepted}
use Rattle.set_run.specs.Run.{all_known}
use Rattle.c_fm31set.specs.Entry.{check_of, run_outcome}

abbrev pub MadeRuns : Type 0
MadeRuns =
    (plan images a b c d es room : List ℕ) → check_of plan images a b c d ≡ accepted
    → all_known (length plan) es ≡ true → length es ≤ length room
    → (run_outcome plan images a b c d es room).number ≡ accepted

abbrev pub RunsAgain : Type 0
RunsAgain =
    (plan images a b c d es room : List ℕ) → (run_outcome plan images a b c d es room).number ≡ accepted
    → (more answers : List ℕ) → all_known (length plan) more ≡ true → length more ≤ length answers
    → (let left = run_outcome plan images a b c d es room in
    (run_outcome plan left.images left.one left.two left.three left.four more answers).number ≡ accepted)
