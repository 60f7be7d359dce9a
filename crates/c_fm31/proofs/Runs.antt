-- SPDX-License-Identifier: Apache-2.0
-- What the laws of lists (crate `bus_list`) ask of the larger family's images, over the size; and the ways through the
-- tests of the list run's entry.
use Prim.Native.Nat.{ℕ, ◌≤◌, ◌<◌}
use mathlib.Core.Path.{◌≡◌, refl, sym, ap}
use mathlib.Core.Bool.{true, false}
use mathlib.Core.List.{List}
use lib.ListN.{length}
use Rattle.numbers.specs.Numbers.{accepted, wrong_memory, wrong_state, unknown_event, short_answers}
use Rattle.bus.specs.Select.{lone}
use Rattle.bus_list.specs.Outcome.{numbered}
use Rattle.bus_list.proofs.Lists as lists
use Rattle.bus_list.proofs.Ends as list
use Rattle.fm31.specs.Limits.{well_formed}
use Rattle.fm31.specs.Chip.{last_event}
use Rattle.fm31.specs.Run.{Ended, after, run_of}
use Rattle.fm31.specs.declared.State.{State}
use Rattle.fm31_run.specs.Code.Run.{all_known}
use Rattle.fm31_place_list.specs.Rowed.{RanIn}
use Rattle.fm31_image.specs.Image.{image_of, decode_of}
use Rattle.fm31_image.specs.Reading.{decoded_says}
use Rattle.std.specs.Prelude.{Option, Some, None}
use Rattle.fm31_image.proofs.Images.{decode_image, image_decode}
use Rattle.c_fm31.specs.Run.{Outcome, refused, outcome_of, RunSettled}

-- an outcome, told by its number
pub told : {o p : Outcome} → o ≡ p → numbered p ≡ numbered o
told e = sym (ap numbered e)

module _ (size : ℕ) where
  -- what a list run asks of a part of this size
  abbrev pub list31 : lists.Lists
  list31 =
      record {
        State = State;
        after = after size lone;
        image_of = image_of;
        size = size;
        last = last_event;
        number = λ i. (decoded_says size lone (decode_of size lone i)).number;
        returned = λ i. (decoded_says size lone (decode_of size lone i)).returned;
      }

  abbrev pub written : Ended → List ℕ → List ℕ → Outcome
  written r es a = lists.written list31 r es a

  -- an image is read, or not
  pub by_image : {X : Type 0} (i : List ℕ) (d : Option State) → decode_of size lone i ≡ d
      → ((s : State) → decode_of size lone i ≡ Some s → X) → (decode_of size lone i ≡ None → X) → X
  by_image i (Some s) e f g = f s e
  by_image i None e f g = g e

  abbrev pub reads31 : lists.Reads list31
  reads31 =
      record {
        Ok = λ s. well_formed size lone s ≡ true;
        Read = λ i s. decode_of size lone i ≡ Some s;
        Unread = λ i. decode_of size lone i ≡ None;
        or_not = λ i f g. by_image i (decode_of size lone i) refl f g;
        some_read = λ i s d. ap (λ (x : Option State). (decoded_says size lone x).returned) d;
        none_read = λ i d. ap (λ (x : Option State). (decoded_says size lone x).returned) d;
        number = λ i d. ap (λ (x : Option State). (decoded_says size lone x).number) d;
        again = decode_image size lone;
        ok = λ i s d. (image_decode size lone i s d).0;
        image = λ i s d. (image_decode size lone i s d).1;
      }

  module _ (i m es a : List ℕ) where
    pub outcome_wrong_memory : (length m ≡ size → ⊥) → outcome_of size i m es a ≡ refused wrong_memory i m a
    outcome_wrong_memory = list.outcome_wrong_memory list31 reads31 i m es a

    module _ (h : length m ≡ size) where
      pub outcome_wrong_image : decode_of size lone i ≡ None → outcome_of size i m es a ≡ refused wrong_state i m a
      outcome_wrong_image = list.outcome_wrong_image list31 reads31 i m es a h

      module _ (s : State) (d : decode_of size lone i ≡ Some s) where
        pub outcome_unknown_event : all_known es ≡ false → outcome_of size i m es a ≡ refused unknown_event i m a
        outcome_unknown_event = list.outcome_unknown_event list31 reads31 i m es a h s d

        pub outcome_short_answers : all_known es ≡ true → length a < length es
            → outcome_of size i m es a ≡ refused short_answers i m a
        outcome_short_answers = list.outcome_short_answers list31 reads31 i m es a h s d

        pub outcome_written : all_known es ≡ true → length es ≤ length a
            → outcome_of size i m es a ≡ written (run_of size lone s m es) es a
        unfolding run_of
        outcome_written = list.outcome_written list31 reads31 i m es a h s d

        -- what was done is the whole outcome
        pub outcome_done : (i' m' a' : List ℕ) → all_known es ≡ true → length es ≤ length a → RanIn size s m es a i' m' a'
            → RunSettled size i m es a accepted i' m' a'
        unfolding run_of
        outcome_done i' m' a' k l r =
            ap numbered (list.outcome_done list31 reads31 i m es a h s d i' m' a' k l
            (record { image = r.image; memory = r.memory; answers = r.answers }))
