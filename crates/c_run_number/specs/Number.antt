-- SPDX-License-Identifier: Apache-2.0
-- The list run told by its number alone (01, Entries: "A second entry runs a list of events").
use Rattle.std.specs.Prelude.{ℕ, ◌≡◌, List}
use Rattle.bus_list.specs.Outcome.{numbered}
use Rattle.fm3130_list.specs.Run.{outcome_of}

-- The contract of `fm3130_run_number`, its whole outcome: number and buffers are those of the list run.
abbrev pub NumberSettled : List ℕ → List ℕ → List ℕ → List ℕ → ℕ → List ℕ → List ℕ → List ℕ → Type 0
NumberSettled i m es a n i' m' a' =
    record { number = n; image = i'; memory = m'; answers = a' } ≡ numbered (outcome_of i m es a)
