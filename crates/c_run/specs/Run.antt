-- SPDX-License-Identifier: Apache-2.0
-- The contract of the list run's entry. `RunSettled` is its whole outcome.
use Rattle.std.specs.Prelude.{◌≡◌, ℕ, List, Result, Ok, Err}
use Rattle.numbers.specs.Numbers.{accepted}
use Rattle.numbers.specs.Refusal.{number_of}
use Rattle.numbers.specs.declared.Refusal.{Refusal}
use Rattle.fm3130_list.specs.Run.{Outcome, outcome_of}
use Rattle.c_run.specs.declared.Ran.{Ran}

-- What a host program is told: under 0 how many events were done, or the refusal's number and "count 0".
abbrev pub ran_told : Result ℕ Refusal → Ran
ran_told (Ok n) = record { number = accepted; count = n }
ran_told (Err r) = record { number = number_of r; count = 0 }

-- Auxiliary: what a call returned and left, as an outcome.
abbrev pub outcome_with : Ran → List ℕ → List ℕ → List ℕ → Outcome
outcome_with r i m a = record { number = r.number; count = r.count; image = i; memory = m; answers = a }

-- The contract of `fm3130_run`: what it returns and leaves in the buffers is `outcome_of` of what it was given.
abbrev pub RunSettled : List ℕ → List ℕ → List ℕ → List ℕ → Ran → List ℕ → List ℕ → List ℕ → Type 0
RunSettled i m es a r i' m' a' = outcome_with r i' m' a' ≡ outcome_of i m es a
