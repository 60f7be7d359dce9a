-- SPDX-License-Identifier: Apache-2.0
-- The laws of lists (crate `bus_list`) at the larger family, over the size: the loop of a list of events, one event more
-- and at the end; and that a list keeps the limits.
use Prim.Native.Nat.{ℕ, ◌+◌, ◌≤◌, ◌<◌}
use mathlib.Core.Path.{◌≡◌, refl}
use mathlib.Core.Bool.{true}
use mathlib.Core.List.{List}
use lib.ListN.{length, take, drop, get_or, set}
use Rattle.bus.specs.Select.{lone}
use Rattle.bus_list.proofs.Runs as list
use Rattle.fm31.specs.Chip.{last_event, event_of}
use Rattle.fm31.specs.Step.{state_of}
use Rattle.fm31.specs.Limits.{well_formed}
use Rattle.fm31.specs.Run.{Ended, following, answer_to, after, run_of}
use Rattle.fm31.specs.declared.State.{State}
use Rattle.fm31.proofs.Entry.{event_ok}
use Rattle.fm31_run.specs.Code.Run.{RanThrough, all_known}
pub use Rattle.bus_list.proofs.Runs.{rest_kept}

pub known_at : (es : List ℕ) → all_known es ≡ true → (i : ℕ) → i < length es → get_or es i 0 ≤ last_event
known_at = list.known_at last_event

module _ (size : ℕ) where
  -- one turn: the answer goes to its place, and the rest of the run goes on from the next state
  pub run_more : (s : State) (m es a : List ℕ) (i : ℕ) → i < length es → i < length a
      → following (take (i + 1) (set a i (answer_to (event_of size lone s m (get_or es i 0)))))
      (run_of size lone (state_of (event_of size lone s m (get_or es i 0))) (event_of size lone s m (get_or es i 0)).memory
      (drop (i + 1) es))
      ≡ following (take i a) (run_of size lone s m (drop i es))
  unfolding run_of
  run_more = list.run_more (after size lone)

  -- the loop's end
  pub run_done : (s₀ s : State) (m₀ m es a₀ a : List ℕ) (i : ℕ) → i ≤ length es → length es ≤ i
      → following (take i a) (run_of size lone s m (drop i es)) ≡ run_of size lone s₀ m₀ es → drop i a ≡ drop i a₀
      → RanThrough size s₀ m₀ es a₀ s m a
  unfolding run_of
  run_done s₀ s m₀ m es a₀ a i h g e d = list.run_done (after size lone) (λ t. t) s₀ s m₀ m es a₀ a i h g e d s refl

  -- a run keeps a well-formed state well-formed, and the memory's length
  abbrev pub EndedOk : Ended → Type 0
  EndedOk r = list.EndedOk (λ s. well_formed size lone s ≡ true) size r

  pub keeps : 0 < size → list.Keeps (after size lone) (λ s. well_formed size lone s ≡ true) size
  keeps z =
      record {
        state = λ s m e w h. (event_ok size lone z s m e w h).state;
        memory = λ s m e w h. (event_ok size lone z s m e w h).memory;
      }

  pub run_ok : 0 < size → (s : State) (m es : List ℕ) → well_formed size lone s ≡ true → length m ≡ size
      → EndedOk (run_of size lone s m es)
  unfolding run_of
  run_ok z = list.run_ok (after size lone) (keeps z)
