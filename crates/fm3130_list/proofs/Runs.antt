-- SPDX-License-Identifier: Apache-2.0
-- The laws of lists (crate `bus_list`) at the FM3130: the loops of the list run, one event more and at the end; that a
-- run keeps the limits; and the ways through the entry's tests.
use Prim.Native.Nat.{ℕ, ◌+◌, ◌≤◌, ◌<◌}
use mathlib.Core.Path.{◌≡◌, refl, ap}
use mathlib.Core.Bool.{true, false}
use mathlib.Core.List.{List}
use lib.ListN.{length, take, drop, get_or, set}
use Rattle.std.specs.Prelude.{Option, Some, None}
use Rattle.numbers.specs.Numbers.{accepted, wrong_memory, wrong_state, unknown_event, short_answers}
use Rattle.bus_list.proofs.Runs as list
use Rattle.bus_list.proofs.Lists as lists
use Rattle.bus_list.proofs.Ends as ends
use Rattle.fm3130.specs.Chip.{memory_size}
use Rattle.fm3130.specs.Event.{event_of}
use Rattle.fm3130.specs.Limits.{well_formed}
use Rattle.fm3130.specs.declared.State.{State}
use Rattle.fm3130.proofs.Wellformed.{event_ok}
use Rattle.fm3130_image.specs.Image.{image_of, decode_of}
use Rattle.fm3130_image.specs.Reading.{decoded_says}
use Rattle.fm3130_image.proofs.Images.{decode_image, image_decode}
use Rattle.fm3130_list.specs.Run.{Ended, following, answer_to, after, run_of, RanThrough, all_known}
use Rattle.fm3130_list.specs.Run.{Outcome, refused, outcome_of}
pub use Rattle.bus_list.proofs.Runs.{rest_kept}

-- what a list run asks of the FM3130
abbrev pub list30 : lists.Lists
list30 =
    record {
      State = State;
      after = after;
      image_of = image_of;
      size = memory_size;
      last = 7;
      number = λ i. (decoded_says (decode_of i)).number;
      returned = λ i. (decoded_says (decode_of i)).returned;
    }

abbrev pub written : Ended → List ℕ → List ℕ → Outcome
written r es a = lists.written list30 r es a

-- an image is read, or not
pub by_image : {X : Type 0} (i : List ℕ) (d : Option State) → decode_of i ≡ d → ((s : State) → decode_of i ≡ Some s → X)
    → (decode_of i ≡ None → X) → X
by_image i (Some s) e f g = f s e
by_image i None e f g = g e

-- what the laws ask of the FM3130's images, and of its events
abbrev pub reads30 : lists.Reads list30
reads30 =
    record {
      Ok = λ s. well_formed s ≡ true;
      Read = λ i s. decode_of i ≡ Some s;
      Unread = λ i. decode_of i ≡ None;
      or_not = λ i f g. by_image i (decode_of i) refl f g;
      some_read = λ i s d. ap (λ (x : Option State). (decoded_says x).returned) d;
      none_read = λ i d. ap (λ (x : Option State). (decoded_says x).returned) d;
      number = λ i d. ap (λ (x : Option State). (decoded_says x).number) d;
      again = decode_image;
      ok = λ i s d. (image_decode i s d).0;
      image = λ i s d. (image_decode i s d).1;
    }

abbrev pub keeps30 : list.Keeps after (λ s. well_formed s ≡ true) memory_size
keeps30 =
    record {
      state = λ s m e w h. (event_ok s m e w h).state;
      memory = λ s m e w h. (event_ok s m e w h).memory;
    }

pub known_at : (es : List ℕ) → all_known es ≡ true → (i : ℕ) → i < length es → get_or es i 0 ≤ 7
known_at = list.known_at 7

-- one turn: the answer goes to its place, and the rest of the run goes on from the next state
pub run_more : (s : State) (m es a : List ℕ) (i : ℕ) → i < length es → i < length a
    → following (take (i + 1) (set a i (answer_to (event_of s m (get_or es i 0)))))
    (run_of (event_of s m (get_or es i 0)).state (event_of s m (get_or es i 0)).memory (drop (i + 1) es))
    ≡ following (take i a) (run_of s m (drop i es))
unfolding run_of
run_more = list.run_more after

-- the loop's end
pub run_done : (s₀ s : State) (m₀ m es a₀ a : List ℕ) (i : ℕ) → i ≤ length es → length es ≤ i
    → following (take i a) (run_of s m (drop i es)) ≡ run_of s₀ m₀ es → drop i a ≡ drop i a₀
    → (b : List ℕ) → b ≡ image_of s → RanThrough s₀ m₀ es a₀ b m a
unfolding run_of
run_done = list.run_done after image_of

-- a run keeps a well-formed state well-formed, and the memory's length
abbrev pub EndedOk : Ended → Type 0
EndedOk r = list.EndedOk (λ s. well_formed s ≡ true) memory_size r

pub run_ok : (s : State) (m es : List ℕ) → well_formed s ≡ true → length m ≡ memory_size → EndedOk (run_of s m es)
unfolding run_of
run_ok = list.run_ok after keeps30

-- the ways through the entry's tests
module _ (i m es a : List ℕ) where
  pub outcome_wrong_memory : (length m ≡ memory_size → ⊥) → outcome_of i m es a ≡ refused wrong_memory i m a
  outcome_wrong_memory = ends.outcome_wrong_memory list30 reads30 i m es a

  module _ (h : length m ≡ memory_size) where
    pub outcome_wrong_image : decode_of i ≡ None → outcome_of i m es a ≡ refused wrong_state i m a
    outcome_wrong_image = ends.outcome_wrong_image list30 reads30 i m es a h

    module _ (s : State) (d : decode_of i ≡ Some s) where
      pub outcome_unknown_event : all_known es ≡ false → outcome_of i m es a ≡ refused unknown_event i m a
      outcome_unknown_event = ends.outcome_unknown_event list30 reads30 i m es a h s d

      pub outcome_short_answers : all_known es ≡ true → length a < length es
          → outcome_of i m es a ≡ refused short_answers i m a
      outcome_short_answers = ends.outcome_short_answers list30 reads30 i m es a h s d

      pub outcome_written : all_known es ≡ true → length es ≤ length a → outcome_of i m es a ≡ written (run_of s m es) es a
      unfolding run_of
      outcome_written = ends.outcome_written list30 reads30 i m es a h s d

      -- what was done is the whole outcome
      pub outcome_done : (i' m' a' : List ℕ) → all_known es ≡ true → length es ≤ length a → RanThrough s m es a i' m' a'
          → record { number = accepted; count = length es; image = i'; memory = m'; answers = a' } ≡ outcome_of i m es a
      unfolding run_of
      outcome_done = ends.outcome_done list30 reads30 i m es a h s d
