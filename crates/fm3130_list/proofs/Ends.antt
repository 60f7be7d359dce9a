-- SPDX-License-Identifier: Apache-2.0
-- The two ends of a call of the list run, those of every part (crate `bus_list`). Accepted: what number 0 says of the
-- buffers, the count, and that the image left is accepted again. Refused: nothing is written.
use Prim.Native.Nat.{ℕ, ◌≤◌}
use mathlib.Core.Path.{◌≡◌}
use mathlib.Core.Bool.{true}
use mathlib.Core.List.{List}
use lib.ListN.{length}
use Rattle.numbers.specs.Numbers.{accepted}
use Rattle.bus_list.proofs.Ends as list
use Rattle.fm3130_list.specs.Run.{run_of, all_known, outcome_of}
use Rattle.fm3130_list.proofs.Runs.{list30, written, reads30, keeps30}

-- what number 0 says of the four buffers
abbrev pub Accepted : (i m es a : List ℕ) → Type 0
Accepted i m es a = list.Accepted list30 reads30 i m es a

module _ (i m es a : List ℕ) where
  pub accepted_outcome : (c : Accepted i m es a) → outcome_of i m es a ≡ written (run_of c.state m es) es a
  unfolding run_of
  accepted_outcome = list.accepted_outcome list30 reads30 i m es a

  pub accepted_number : Accepted i m es a → (outcome_of i m es a).number ≡ accepted
  accepted_number = list.accepted_number list30 reads30 i m es a

  pub accepted_by : (outcome_of i m es a).number ≡ accepted → Accepted i m es a
  accepted_by = list.accepted_by list30 reads30 i m es a

  -- under every number but 0 nothing is written, and the count is 0
  pub run_refused : ((outcome_of i m es a).number ≡ accepted → ⊥)
      → outcome_of i m es a
      ≡ record { number = (outcome_of i m es a).number; count = 0; image = i; memory = m; answers = a }
  run_refused = list.run_refused list30 reads30 i m es a

  -- the count is the number of events
  pub run_count : (outcome_of i m es a).number ≡ accepted → (outcome_of i m es a).count ≡ length es
  run_count = list.run_count list30 reads30 i m es a

  -- the image that an accepted run leaves is accepted again, with the memory that it leaves
  pub run_again : (c : Accepted i m es a) (ys b : List ℕ) → all_known ys ≡ true → length ys ≤ length b
      → Accepted (outcome_of i m es a).image (outcome_of i m es a).memory ys b
  run_again = list.run_again list30 reads30 i m es a keeps30
