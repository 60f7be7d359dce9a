-- SPDX-License-Identifier: Apache-2.0
-- The two ends of a call of the list run, over the size, those of every part (crate `bus_list`). Accepted: what number 0
-- says of the buffers, and that the image left is accepted again. Refused: nothing is written.
use Prim.Native.Nat.{ℕ, ◌≤◌, ◌<◌}
use mathlib.Core.Path.{◌≡◌}
use mathlib.Core.Bool.{true}
use mathlib.Core.List.{List}
use lib.ListN.{length}
use Rattle.numbers.specs.Numbers.{accepted}
use Rattle.bus.specs.Select.{lone}
use Rattle.bus_list.proofs.Ends as list
use Rattle.fm31.specs.Run.{run_of}
use Rattle.fm31_run.specs.Code.Run.{all_known}
use Rattle.fm31_run.proofs.Runs.{keeps}
use Rattle.c_fm31.specs.Run.{refused, outcome_of}
use Rattle.c_fm31.proofs.Runs.{list31, written, reads31}

-- what number 0 says of the four buffers
abbrev pub Accepted : (size : ℕ) (i m es a : List ℕ) → Type 0
Accepted size i m es a = list.Accepted (list31 size) (reads31 size) i m es a

module _ (size : ℕ) (i m es a : List ℕ) where
  pub accepted_outcome : (c : Accepted size i m es a)
      → outcome_of size i m es a ≡ written size (run_of size lone c.state m es) es a
  unfolding run_of
  accepted_outcome = list.accepted_outcome (list31 size) (reads31 size) i m es a

  pub accepted_number : Accepted size i m es a → (outcome_of size i m es a).number ≡ accepted
  accepted_number = list.accepted_number (list31 size) (reads31 size) i m es a

  pub accepted_by : (outcome_of size i m es a).number ≡ accepted → Accepted size i m es a
  accepted_by = list.accepted_by (list31 size) (reads31 size) i m es a

  -- under every number but 0 nothing is written
  pub run_refused : ((outcome_of size i m es a).number ≡ accepted → ⊥)
      → outcome_of size i m es a ≡ refused (outcome_of size i m es a).number i m a
  run_refused = list.run_refused (list31 size) (reads31 size) i m es a

  -- the image that an accepted run leaves is accepted again, with the memory that it leaves
  pub run_again : 0 < size → (c : Accepted size i m es a) (ys b : List ℕ) → all_known ys ≡ true → length ys ≤ length b
      → Accepted size (outcome_of size i m es a).image (outcome_of size i m es a).memory ys b
  run_again z = list.run_again (list31 size) (reads31 size) i m es a (keeps size z)
