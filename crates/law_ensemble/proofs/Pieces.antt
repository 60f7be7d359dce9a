-- SPDX-License-Identifier: Apache-2.0
-- A set's list run in pieces. What a run leaves is read again as the set that its events lead to, so the next run goes on from there;
-- and images over images are the images alone, since a list of 64 bytes a device is its images one after the other.
use Prim.Native.Nat.{ℕ, zero, suc, ◌+◌, ◌*◌, ◌≤◌, ◌<◌}
use mathlib.Core.Path.{◌≡◌, refl, sym, ap, subst, ◌∙◌}
use mathlib.Core.Bool.{true, ◌&&◌}
use mathlib.Core.List.{List, ◌++◌, append_assoc, append-nil}
use native.Mathlib.Omega.{arith}
use lib.Dec.{leb}
use lib.ListN.{length, take, drop, length-append}
use lib.Seq.{take_all, take-add, drop-append-add, drop-length}
use borrow.Author.Tests.{lt-ltb, leb-true}
use Rattle.bits.proofs.Cases.{Below, none, ◌then◌, below}
use Rattle.wire.proofs.Tests.{and_split, and_join}
use Rattle.numbers.specs.Numbers.{accepted}
use Rattle.set_event.specs.Set.{Together, Place, first, second, third, fourth, number_of}
use Rattle.set_event.specs.Make.{is_count, count_fits}
use Rattle.set_event.specs.Outcome.{lent_to}
use Rattle.set_event.specs.declared.Set.{Set}
use Rattle.fm31_image.specs.Image.{image_size}
use Rattle.set_image.specs.Read.{count_of, image_at, reading_of}
use Rattle.set_image.specs.Write.{images_of}
use Rattle.set_image.specs.declared.Reading.{Reading}
use Rattle.set_image.proofs.Readings.{reading_length, reading_within}
use Rattle.law_set.proofs.Written.{images_long, image_of_lem}
use Rattle.bus_list.proofs.Runs as list
use Rattle.set_run.specs.Run.{Ended, run_of, all_known}
use Rattle.set_run.proofs.Runs.{run_together, run_append}
use Rattle.c_fm31set.specs.Entry.{run_number, Outcome, written, run_outcome}
use Rattle.c_fm31set.proofs.Entries.{run_accepted, Passed, passed}
use Rattle.law_ensemble.specs.Pieces.{ReadsBack, next_call, joined, CallsAsOne, OneAsCalls}
use Rattle.law_ensemble.proofs.Stand.{count_kept}
use Rattle.law_ensemble.proofs.Again.{reading_again}
use Rattle.law_ensemble.proofs.Calls.{counted, outcome_number, outcome_done, known_of, runs_again}

pub reads_back : ReadsBack
reads_back plan images a b c d es good lent =
    reading_again plan images good a b c d
    (record { lent = lent; within = reading_within plan images good a b c d }) es

-- a list of 64 bytes a device is its images one after the other
module _ (n : ℕ) (l k : List ℕ) (p : length l ≡ image_size * n) (q : length k ≡ image_size * n)
    (each : (v : ℕ) → v < n → image_at v l ≡ image_at v k) where
  up_to_lem : (m : ℕ) → m ≤ n → take (image_size * m) l ≡ take (image_size * m) k
  up_to_lem zero h = refl
  up_to_lem (suc m) h =
      let e : image_size * suc m ≡ image_size * m + image_size = omega arith in
      let front = up_to_lem m (omega arith) in
      let last = each m (omega arith) in
      ap (λ (x : ℕ). take x l) e
      ∙ (take-add (image_size * m) image_size l
      ∙ ((λ i. front i ++ last i)
      ∙ (sym (take-add (image_size * m) image_size k) ∙ ap (λ (x : ℕ). take x k) (sym e))))

  by_images : l ≡ k
  by_images =
      sym (take_all (image_size * n) l (omega (arith, p)))
      ∙ (up_to_lem n (omega arith) ∙ take_all (image_size * n) k (omega (arith, q)))

-- images over images
module _ (n : ℕ) (small : n < 5) (s u : Set) (images : List ℕ) (long : length images ≡ image_size * n) where
  abbrev under : List ℕ
  under = images_of n u images

  under_long : length under ≡ image_size * n
  under_long = images_long n u images long

  abbrev Same : ℕ → Type 0
  Same v = v < n → image_at v (images_of n s under) ≡ image_at v (images_of n s images)

  same_at : (v : Place) → Same (number_of v)
  same_at v h =
      let t = lt-ltb (number_of v) n h in image_of_lem n s under under_long v t ∙ sym (image_of_lem n s images long v t)

  same_image : (v : ℕ) → v < 4 → Same v
  same_image v h = below Same each v h
    where
      each : Below Same 4
      each = none then same_at first then same_at second then same_at third then same_at fourth

  overwritten : images_of n s under ≡ images_of n s images
  overwritten =
      by_images n (images_of n s under) (images_of n s images) (images_long n s under under_long) (images_long n s images long)
      (λ v h. same_image v (omega arith) h)

-- lists in two pieces
known_append : (n : ℕ) (xs ys : List ℕ) → all_known n (xs ++ ys) ≡ (all_known n xs && all_known n ys)
known_append n = list.known_append (7 + 2 * n)

answers_joined : (x y xs ys a b : List ℕ) → length a ≡ length xs
    → (x ++ y) ++ drop (length (xs ++ ys)) (a ++ b) ≡ (x ++ drop (length xs) a) ++ (y ++ drop (length ys) b)
answers_joined x y xs ys a b l =
    rw (length-append xs ys, ← l, drop-append-add a b (length ys), drop-length a, append-nil x)
    (append_assoc x y (drop (length ys) b))

count_small : (n : ℕ) → is_count n ≡ true → n < 5
count_small n e = let h = leb-true n 4 (and_split (leb 1 n) (leb n 4) e).1 in omega arith

-- a call that was accepted, and the next
module _ (plan images a b c d xs ys room rest : List ℕ) (cut : length room ≡ length xs)
    (e : run_number (reading_of plan images).good (lent_to (reading_of plan images).set a b c d) xs (length room) ≡ accepted)
  where
    abbrev before : Together
    before = lent_to (reading_of plan images).set a b c d

    abbrev n : ℕ
    n = before.set.count

    abbrev after : Together
    after = (run_of before xs).state

    abbrev left : List ℕ
    left = images_of n after.set images

    all_passed : Passed (reading_of plan images).good before xs (length room)
    all_passed = passed (reading_of plan images).good before xs (length room) e

    tests : (count_fits before ≡ true) × (all_known n xs ≡ true)
    tests = known_of (reading_of plan images).good before xs (length room) e

    again : reading_of plan left ≡ record { good = true; set = after.set }
    unfolding reading_of
    again =
        subst (λ (u : Together). reading_of plan (images_of (count_of plan) u.set images) ≡ record { good = true; set = u.set })
        (sym (run_together before xs)) (reads_back plan images a b c d xs all_passed.well all_passed.lent)

    count_is : after.set.count ≡ n
    count_is = ap (λ (u : Together). u.set.count) (run_together before xs) ∙ count_kept before xs

    long : length images ≡ image_size * n
    unfolding reading_of
    long = reading_length plan images all_passed.well

    -- the next call, by what it reads
    abbrev next : Outcome
    next = run_outcome plan left after.one after.two after.three after.four ys rest

    abbrev read_as : Reading → Together
    read_as r = lent_to r.set after.one after.two after.three after.four

    next_number : next.number ≡ accepted → run_number true after ys (length rest) ≡ accepted
    next_number h =
        subst (λ (r : Reading). run_number r.good (read_as r) ys (length rest) ≡ accepted) again
        (sym (outcome_number plan left after.one after.two after.three after.four ys rest) ∙ h)

    next_is : run_number true after ys (length rest) ≡ accepted
        → next ≡ written after.set.count left (run_of after ys) ys rest
    next_is =
        subst
        (λ (r : Reading). run_number r.good (read_as r) ys (length rest) ≡ accepted
        → next ≡ written r.set.count left (run_of (read_as r) ys) ys rest)
        again (outcome_done plan left after.one after.two after.three after.four ys rest)

    module _ (f : run_number true after ys (length rest) ≡ accepted) where
      whole_number : run_number (reading_of plan images).good before (xs ++ ys) (length (room ++ rest)) ≡ accepted
      whole_number =
          let second = (known_of true after ys (length rest) f).1 in
          let known = subst (λ (k : ℕ). all_known k ys ≡ true) count_is second in
          let x = all_passed.enough in
          let y = (passed true after ys (length rest) f).enough in
          let enough : length (xs ++ ys) ≤ length (room ++ rest) =
          rw (length-append xs ys, length-append room rest) (omega (arith, x, y)) in
          run_accepted (reading_of plan images).good before (xs ++ ys) (length (room ++ rest)) tests.0 all_passed.lent
          all_passed.well (known_append n xs ys ∙ and_join (all_known n xs) (all_known n ys) tests.1 known) enough
          all_passed.unlike all_passed.stand

      abbrev end : Together
      end = (run_of after ys).state

      images_joined : images_of n end.set images ≡ images_of after.set.count end.set left
      images_joined =
          sym (overwritten n (count_small n tests.0) end.set after.set images long)
          ∙ ap (λ (k : ℕ). images_of k end.set left) (sym count_is)

      whole_is : run_outcome plan images a b c d (xs ++ ys) (room ++ rest)
          ≡ joined (written n images (run_of before xs) xs room) (written after.set.count left (run_of after ys) ys rest)
      whole_is =
          outcome_done plan images a b c d (xs ++ ys) (room ++ rest) whole_number
          ∙ (ap (λ (r : Ended). written n images r (xs ++ ys) (room ++ rest)) (run_append before xs ys)
          ∙ (λ i.
          record {
            number = accepted;
            images = images_joined i;
            one = end.one;
            two = end.two;
            three = end.three;
            four = end.four;
            answers =
                answers_joined (run_of before xs).answers (run_of after ys).answers xs ys room rest cut i;
          }))

      done_is : run_outcome plan images a b c d xs room ≡ written n images (run_of before xs) xs room
      done_is = outcome_done plan images a b c d xs room e

      as_one : run_outcome plan images a b c d (xs ++ ys) (room ++ rest)
          ≡ joined (run_outcome plan images a b c d xs room) (next_call plan (run_outcome plan images a b c d xs room) ys rest)
      as_one =
          whole_is
          ∙ (λ i. joined (sym done_is i) (sym (next_is f) i))
          ∙ ap (λ (o : Outcome). joined (run_outcome plan images a b c d xs room) (next_call plan o ys rest)) (sym done_is)

-- two accepted calls are one
pub calls_as_one : CallsAsOne
unfolding reading_of
calls_as_one plan images a b c d xs ys room rest cut h g =
    let e = sym (outcome_number plan images a b c d xs room) ∙ h in
    let second =
    subst (λ (o : Outcome). (next_call plan o ys rest).number ≡ accepted) (outcome_done plan images a b c d xs room e) g in
    as_one plan images a b c d xs ys room rest cut e (next_number plan images a b c d xs ys room rest cut e second)

-- one accepted call is two
pub one_as_calls : OneAsCalls
unfolding reading_of
one_as_calls plan images a b c d xs ys room rest cut h =
    let r = reading_of plan images in
    let t = lent_to r.set a b c d in
    let e = sym (outcome_number plan images a b c d (xs ++ ys) (room ++ rest)) ∙ h in
    let all = passed r.good t (xs ++ ys) (length (room ++ rest)) e in
    let tests = known_of r.good t (xs ++ ys) (length (room ++ rest)) e in
    let known =
    and_split (all_known t.set.count xs) (all_known t.set.count ys) (sym (known_append t.set.count xs ys) ∙ tests.1) in
    let fits : length xs + length ys ≤ length room + length rest = rw (length-append xs ys, length-append room rest) at all.enough in
    let first =
    outcome_number plan images a b c d xs room
    ∙ run_accepted r.good t xs (length room) tests.0 all.lent all.well known.0 (omega (arith, cut)) all.unlike
    all.stand in
    let second =
    runs_again plan images a b c d xs room first ys rest
    (subst (λ (k : ℕ). all_known k ys ≡ true) (counted plan tests.0) known.1) (omega (arith, cut, fits)) in
    record { first = first; second = second; whole = calls_as_one plan images a b c d xs ys room rest cut first second }
