-- SPDX-License-Identifier: Apache-2.0
-- The entries for C of a set (02, number 12), refusals too. `CheckSettled` and `RunSettled` are their whole
-- outcomes.
--   check_of        the number by which a set is refused when it is made
--   run_number      the number by which a list run is refused
--   Outcome, refused, written, run_outcome    all that a caller can see of the list run
use Rattle.std.specs.Prelude.{ℕ, ◌≡◌, Bool, cond, List, eqb, leb, length}
use Rattle.numbers.specs.Numbers.{accepted, wrong_memory, wrong_state, unknown_event, short_answers}
use Rattle.numbers.specs.Numbers.{wrong_count, equal_selects, in_transfer}
use Rattle.set_event.specs.Set.{Together}
use Rattle.set_event.specs.Make.{is_lent, places_are, selects_differ, count_fits, make_number}
use Rattle.set_event.specs.Stand.{stand_together}
use Rattle.set_event.specs.Outcome.{lent_to}
use Rattle.set_image.specs.Read.{reading_of}
use Rattle.set_run.specs.Run.{Ended, answers_over, run_of, all_known}
use Rattle.set_image.specs.Write.{images_of}

-- "Refused when the set is made": 9 a plan that has not one to four bytes; 1 a memory of the wrong length for its
-- device's size; 2 a byte of the plan above 7, not 64 bytes of image a device, or an image that no well-formed state of
-- that size and those select bits writes; then the set's own numbers. The count goes first: without one to four devices
-- no memory and no image has a meaning.
unfoldable pub check_of : List ℕ → List ℕ → List ℕ → List ℕ → List ℕ → List ℕ → ℕ
check_of plan images a b c d =
    let r = reading_of plan images in
    let t = lent_to r.set a b c d in
    cond (count_fits t) (cond (places_are is_lent t) (cond r.good (make_number t) wrong_state) wrong_memory) wrong_count

-- The contract of `fm31_set_check`.
abbrev pub CheckSettled : List ℕ → List ℕ → List ℕ → List ℕ → List ℕ → List ℕ → ℕ → Type 0
CheckSettled plan images a b c d n = n ≡ check_of plan images a b c d

-- The count, then "in the order of the numbers". A set may be in a transfer between two runs: 11 is given where the
-- devices do not stand as in any made set.
unfoldable pub run_number : Bool → Together → List ℕ → ℕ → ℕ
run_number good t es room =
    cond (count_fits t)
    (cond (places_are is_lent t)
    (cond good
    (cond (all_known t.set.count es)
    (cond (leb (length es) room)
    (cond (selects_differ t) (cond (stand_together t) accepted in_transfer) equal_selects)
    short_answers)
    unknown_event)
    wrong_state)
    wrong_memory)
    wrong_count

-- All that a caller of the list run can see of it.
pub record Outcome : Type 0 where
  pub number : ℕ
  pub images : List ℕ
  pub one : List ℕ
  pub two : List ℕ
  pub three : List ℕ
  pub four : List ℕ
  pub answers : List ℕ

-- Auxiliary: a number, and what is in the buffers.
abbrev pub outcome : ℕ → List ℕ → Together → List ℕ → Outcome
outcome n images t a =
    record {
      number = n;
      images = images;
      one = t.one;
      two = t.two;
      three = t.three;
      four = t.four;
      answers = a;
    }

-- The images of the devices that the events lead to, their memories, and one answer an event.
abbrev pub written : ℕ → List ℕ → Ended → List ℕ → List ℕ → Outcome
written count images r es a =
    outcome accepted (images_of count r.state.set images) r.state (answers_over r es a)

-- Refused, "nothing written", or done.
unfoldable pub run_outcome : List ℕ → List ℕ → List ℕ → List ℕ → List ℕ → List ℕ → List ℕ → List ℕ → Outcome
run_outcome plan images a b c d es room =
    let r = reading_of plan images in
    let t = lent_to r.set a b c d in
    let n = run_number r.good t es (length room) in
    cond (eqb n accepted) (written t.set.count images (run_of t es) es room) (outcome n images t room)

-- The contract of `fm31_set_run`: what it returns and leaves in the buffers is `run_outcome` of what it was given.
abbrev pub RunSettled : List ℕ → List ℕ → List ℕ → List ℕ → List ℕ → List ℕ → List ℕ → List ℕ
    → ℕ → List ℕ → List ℕ → List ℕ → List ℕ → List ℕ → List ℕ → Type 0
RunSettled plan images a b c d es room n images' a' b' c' d' answers =
    record { number = n; images = images'; one = a'; two = b'; three = c'; four = d'; answers = answers }
    ≡ run_outcome plan images a b c d es room
