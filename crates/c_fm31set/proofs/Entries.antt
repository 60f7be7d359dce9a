-- SPDX-License-Identifier: Apache-2.0
-- The ways through the tests of the entries of a set, what number 0 says, and the two ends of a list run.
use Prim.Native.Nat.{ℕ, ◌*◌, ◌≤◌, ◌<◌}
use mathlib.Core.Path.{◌≡◌, refl, sym, ap, subst, ◌∙◌}
use mathlib.Core.Bool.{Bool, true, false, cond}
use mathlib.Core.List.{List}
use native.Mathlib.Omega.{arith}
use lib.Dec.{leb}
use lib.ListN.{length}
use borrow.Author.Tests.{le-leb, lt-leb, leb-true, ne_eqb}
use Rattle.wire.proofs.Tests.{and_split}
use Rattle.numbers.specs.Numbers.{accepted, wrong_memory, wrong_state, unknown_event, short_answers}
use Rattle.numbers.specs.Numbers.{wrong_count, equal_selects, in_transfer}
use Rattle.set_event.specs.Set.{most, Together}
use Rattle.set_event.specs.Make.{is_lent, is_within, places_are, selects_differ, count_fits, make_number}
use Rattle.set_event.specs.Stand.{stand_together}
use Rattle.set_event.specs.Outcome.{lent_to, SetFit}
use Rattle.fm31_image.specs.Image.{image_size}
use Rattle.set_image.specs.Read.{reading_of}
use Rattle.set_run.specs.Run.{RanThrough, all_known}
use Rattle.set_image.specs.Write.{images_of}
use Rattle.c_fm31set.specs.Entry.{check_of, run_number, outcome, run_outcome}
use Rattle.set_image.specs.declared.Reading.{Reading}
use Rattle.set_image.proofs.Readings.{reading_length, reading_within}

-- whether a set can be made
module _ (plan images a b c d : List ℕ) (r : Reading) (e : r ≡ reading_of plan images) where
  abbrev lent_of : Together
  lent_of = lent_to r.set a b c d

  pub check_wrong_count : count_fits lent_of ≡ false → check_of plan images a b c d ≡ wrong_count
  unfolding check_of
  check_wrong_count n = rw (← e, n)

  module _ (n : count_fits lent_of ≡ true) where
    pub check_wrong_memory : places_are is_lent lent_of ≡ false → check_of plan images a b c d ≡ wrong_memory
    unfolding check_of
    check_wrong_memory p = rw (← e, n, p)

    module _ (p : places_are is_lent lent_of ≡ true) where
      pub check_wrong_state : r.good ≡ false → check_of plan images a b c d ≡ wrong_state
      unfolding check_of
      check_wrong_state g = rw (← e, n, p, g)

      pub check_made : r.good ≡ true → check_of plan images a b c d ≡ make_number lent_of
      unfolding check_of
      check_made g = rw (← e, n, p, g)

-- the tests of a list run
module _ (good : Bool) (t : Together) (es : List ℕ) (room : ℕ) where
  pub run_wrong_count : count_fits t ≡ false → run_number good t es room ≡ wrong_count
  unfolding run_number
  run_wrong_count n = rw n

  module _ (n : count_fits t ≡ true) where
    pub run_wrong_memory : places_are is_lent t ≡ false → run_number good t es room ≡ wrong_memory
    unfolding run_number
    run_wrong_memory p = rw (n, p)

    module _ (p : places_are is_lent t ≡ true) where
      pub run_wrong_state : good ≡ false → run_number good t es room ≡ wrong_state
      unfolding run_number
      run_wrong_state g = rw (n, p, g)

      module _ (g : good ≡ true) where
        pub run_unknown_event : all_known t.set.count es ≡ false → run_number good t es room ≡ unknown_event
        unfolding run_number
        run_unknown_event k = rw (n, p, g, k)

        module _ (k : all_known t.set.count es ≡ true) where
          pub run_short_answers : room < length es → run_number good t es room ≡ short_answers
          unfolding run_number
          run_short_answers h = rw (n, p, g, k, lt-leb (length es) room h)

          module _ (h : length es ≤ room) where
            pub run_equal_selects : selects_differ t ≡ false → run_number good t es room ≡ equal_selects
            unfolding run_number
            run_equal_selects s = rw (n, p, g, k, le-leb (length es) room h, s)

            module _ (s : selects_differ t ≡ true) where
              pub run_in_transfer : stand_together t ≡ false → run_number good t es room ≡ in_transfer
              unfolding run_number
              run_in_transfer u = rw (n, p, g, k, le-leb (length es) room h, s, u)

              pub run_accepted : stand_together t ≡ true → run_number good t es room ≡ accepted
              unfolding run_number
              run_accepted u = rw (n, p, g, k, le-leb (length es) room h, s, u)

  -- what number 0 says
  pub record Passed : Type 0 where
    pub count : count_fits t ≡ true
    pub lent : places_are is_lent t ≡ true
    pub well : good ≡ true
    pub enough : length es ≤ room
    pub unlike : selects_differ t ≡ true
    pub stand : stand_together t ≡ true

  zero_of : (x : Bool) (y k : ℕ) → (k ≡ 0 → ⊥) → cond x y k ≡ 0 → (x ≡ true) × (y ≡ 0)
  zero_of true y k n e = (refl, e)
  zero_of false y k n e = absurd (n e)

  pub passed : run_number good t es room ≡ accepted → Passed
  unfolding run_number
  passed e =
      let n = zero_of (count_fits t) _ wrong_count (λ k. omega (arith, k)) e in
      let a = zero_of (places_are is_lent t) _ wrong_memory (λ k. omega (arith, k)) n.1 in
      let b = zero_of good _ wrong_state (λ k. omega (arith, k)) a.1 in
      let c = zero_of (all_known t.set.count es) _ unknown_event (λ k. omega (arith, k)) b.1 in
      let d = zero_of (leb (length es) room) _ short_answers (λ k. omega (arith, k)) c.1 in
      let s = zero_of (selects_differ t) _ equal_selects (λ k. omega (arith, k)) d.1 in
      let u = zero_of (stand_together t) _ in_transfer (λ k. omega (arith, k)) s.1 in
      record {
        count = n.0;
        lent = a.0;
        well = b.0;
        enough = leb-true (length es) room d.0;
        unlike = s.0;
        stand = u.0;
      }

-- the two ends of a list run
module _ (plan images a b c d es room : List ℕ) (r : Reading) (e : r ≡ reading_of plan images) where
  abbrev set_of : Together
  set_of = lent_to r.set a b c d

  module _ (n : ℕ) (h : n ≡ run_number r.good set_of es (length room)) where
    pub run_refused : (n ≡ accepted → ⊥) → outcome n images set_of room ≡ run_outcome plan images a b c d es room
    unfolding run_outcome
    run_refused z = rw (← e, ← h, ne_eqb n accepted z)

    module _ (z : n ≡ accepted) where
      all_passed : Passed r.good set_of es (length room)
      all_passed = passed r.good set_of es (length room) (sym h ∙ z)

      read_well : (reading_of plan images).good ≡ true
      read_well = sym (ap (λ (x : Reading). x.good) e) ∙ all_passed.well

      pub images_long : length images ≡ image_size * r.set.count
      unfolding reading_of
      images_long =
          reading_length plan images read_well ∙ ap (λ (x : Reading). image_size * x.set.count) (sym e)

      pub some_device : 0 < r.set.count
      some_device = leb-true 1 r.set.count (and_split (leb 1 r.set.count) (leb r.set.count most)
          all_passed.count).0

      pub room_enough : length es ≤ length room
      room_enough = all_passed.enough

      pub set_fit : SetFit set_of
      set_fit =
          record {
            lent = all_passed.lent;
            within =
                subst (λ (x : Reading). places_are is_within (lent_to x.set a b c d) ≡ true) (sym e)
                (reading_within plan images read_well a b c d);
          }

      pub run_written : (t' : Together) (images' answers : List ℕ) → RanThrough set_of es room t' answers
          → images' ≡ images_of r.set.count t'.set images
          → outcome n images' t' answers ≡ run_outcome plan images a b c d es room
      unfolding run_outcome
      run_written t' images' answers w i =
          rw (← e, ← h, z, i, w.answers, w.image) refl
