-- SPDX-License-Identifier: Apache-2.0
-- The list is the events one by one, over the size, each as the entry for one event does it. Run in pieces, with state and
-- memory handed on, it gives what the whole gives; also through the entry, where the image that one call leaves is handed
-- to the next: the laws of every part (crate `bus_list`).
use Prim.Native.Nat.{ℕ, ◌≤◌, ◌<◌}
use mathlib.Core.Path.{◌≡◌}
use mathlib.Core.Bool.{true, ◌&&◌}
use mathlib.Core.List.{List, [], ◌∷◌, ◌++◌}
use lib.ListN.{length}
use Rattle.numbers.specs.Numbers.{accepted}
use Rattle.bus.specs.Select.{lone}
use Rattle.bus_list.proofs.Runs as list
use Rattle.bus_list.proofs.Pieces as pieces
use Rattle.fm31.specs.Chip.{last_event}
use Rattle.fm31.specs.Limits.{well_formed}
use Rattle.fm31.specs.Step.{step_of}
use Rattle.fm31.specs.Run.{following, after, run_of}
use Rattle.fm31.specs.declared.State.{State}
use Rattle.fm31.proofs.Entry.{step_answered}
use Rattle.fm31_run.specs.Code.Run.{all_known}
use Rattle.fm31_run.proofs.Runs.{keeps}
use Rattle.c_fm31.specs.Run.{outcome_of}
use Rattle.c_fm31.proofs.Runs.{list31, reads31}
pub use Rattle.bus_list.proofs.Pieces.{joined}

pub known_append : (xs ys : List ℕ) → all_known (xs ++ ys) ≡ (all_known xs && all_known ys)
known_append = list.known_append last_event

module _ (size : ℕ) where
  -- the list is the events one by one: each as the entry for one event does it
  pub run_by_steps : (s : State) (m : List ℕ) (e : ℕ) (es : List ℕ) → length m ≡ size → well_formed size lone s ≡ true
      → e ≤ last_event
      → run_of size lone s m (e ∷ es)
      ≡ following ((step_of size lone s m e).answer ∷ [])
      (run_of size lone (step_of size lone s m e).state (step_of size lone s m e).memory es)
  unfolding run_of
  run_by_steps s m e es h w l = rw (step_answered size lone s m e h w l)

  -- a list in two pieces: the second goes on from what the first left
  pub run_append : (s : State) (m xs ys : List ℕ)
      → run_of size lone s m (xs ++ ys)
      ≡ following (run_of size lone s m xs).answers (run_of size lone (run_of size lone s m xs).state (run_of size lone s
      m xs).memory ys)
  unfolding run_of
  run_append = list.run_append (after size lone)

  -- one answer an event
  pub answers_length : (s : State) (m es : List ℕ) → length (run_of size lone s m es).answers ≡ length es
  unfolding run_of
  answers_length = list.answers_length (after size lone)

  -- two accepted calls, with image and memory handed on and the answers cut where the events are, give what one gives
  pub run_pieces : 0 < size → (i m xs ys a b : List ℕ) → length a ≡ length xs
      → (outcome_of size i m xs a).number ≡ accepted
      → (outcome_of size (outcome_of size i m xs a).image (outcome_of size i m xs a).memory ys b).number ≡ accepted
      → outcome_of size i m (xs ++ ys) (a ++ b)
      ≡ joined (outcome_of size i m xs a)
      (outcome_of size (outcome_of size i m xs a).image (outcome_of size i m xs a).memory ys b)
  run_pieces z = pieces.run_pieces (list31 size) (reads31 size) (keeps size z)
