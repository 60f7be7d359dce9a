-- SPDX-License-Identifier: Apache-2.0
-- A set's list of events, in one call or in several that hand images and memories on: what is said of a list run on a set is so said
-- of sessions. Images that a run writes read back as the set that its events lead to.
--   ReadsBack               the images of a set, read again
--   next_call, joined        a call on what another left; two calls told as one
--   CallsAsOne              two accepted calls leave and answer what one does
--   OneAsCalls              one accepted call, cut in two: both are accepted, and leave and answer the same
use Rattle.std.specs.Prelude.{ℕ, ◌≡◌, true, List, ◌++◌, length}
use Rattle.numbers.specs.Numbers.{accepted}
use Rattle.set_event.specs.Set.{after_events}
use Rattle.set_event.specs.Make.{is_lent, places_are}
use Rattle.set_event.specs.Outcome.{lent_to}
use Rattle.set_image.specs.Read.{count_of, reading_of}
use Rattle.set_image.specs.Write.{images_of}
use Rattle.c_fm31set.specs.Entry.{Outcome, run_outcome}

-- What a list of events leaves of a set, written over the images that it was read from, reads back as that set.
abbrev pub ReadsBack : Type 0
ReadsBack =
    (plan images a b c d es : List ℕ) → (reading_of plan images).good ≡ true
    → let t = lent_to (reading_of plan images).set a b c d in
    places_are is_lent t ≡ true
    → let after = (after_events t es).set in
    reading_of plan (images_of (count_of plan) after images) ≡ record { good = true; set = after }

-- Images and memories handed on.
abbrev pub next_call : List ℕ → Outcome → List ℕ → List ℕ → Outcome
next_call plan o es room = run_outcome plan o.images o.one o.two o.three o.four es room

abbrev pub joined : Outcome → Outcome → Outcome
joined o p =
    record {
      number = p.number;
      images = p.images;
      one = p.one;
      two = p.two;
      three = p.three;
      four = p.four;
      answers = o.answers ++ p.answers;
    }

-- The answers' buffer is cut where the events are.
abbrev pub CallsAsOne : Type 0
CallsAsOne =
    (plan images a b c d xs ys room rest : List ℕ) → length room ≡ length xs
    → let first = run_outcome plan images a b c d xs room in
    let second = next_call plan first ys rest in
    first.number ≡ accepted → second.number ≡ accepted
    → run_outcome plan images a b c d (xs ++ ys) (room ++ rest) ≡ joined first second

pub record Cut (plan images a b c d xs ys room rest : List ℕ) : Type 0 where
  pub first : (run_outcome plan images a b c d xs room).number ≡ accepted
  pub second : (next_call plan (run_outcome plan images a b c d xs room) ys rest).number ≡ accepted
  pub whole : run_outcome plan images a b c d (xs ++ ys) (room ++ rest)
      ≡ joined (run_outcome plan images a b c d xs room) (next_call plan (run_outcome plan images a b c d xs room) ys rest)

abbrev pub OneAsCalls : Type 0
OneAsCalls =
    (plan images a b c d xs ys room rest : List ℕ) → length room ≡ length xs
    → (run_outcome plan images a b c d (xs ++ ys) (room ++ rest)).number ≡ accepted → Cut plan images a b c d xs ys room rest
