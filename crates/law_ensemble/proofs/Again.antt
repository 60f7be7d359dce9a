-- SPDX-License-Identifier: Apache-2.0
-- The images that a list run writes hold the set that the events lead to: each at its place, of the size and the select
-- bits of the plan, within the limits.
use Prim.Native.Nat.{ℕ, ◌*◌, ◌%◌, ◌≤◌}
use mathlib.Core.Path.{◌≡◌, refl, sym, ap, subst, ◌∙◌}
use mathlib.Core.Bool.{Bool, true, false}
use mathlib.Core.List.{List, [], ◌∷◌}
use native.Mathlib.Omega.{arith}
use lib.Dec.{eqb, ltb}
use lib.ListN.{length, get_or}
use borrow.Author.Tests.{ltb-false, lt-ltb, eq-eqb}
use Rattle.wire.proofs.Tests.{by_test, and_split}
use Rattle.bits.proofs.Cases.{by_cond}
use Rattle.fm31.specs.Chip.{size_of}
use Rattle.fm31.specs.Limits.{well_formed}
use Rattle.fm31.specs.declared.Size.{Size}
use Rattle.fm31.specs.declared.State.{State}
use Rattle.set_event.specs.Set.{Held, Together, Place, first, second, third, fourth, number_of, at, select_in, hears}
use Rattle.set_event.specs.Set.{after_at, after_event, after_events}
use Rattle.set_event.specs.Make.{is_within}
use Rattle.set_event.specs.Outcome.{lent_to, SetFit}
use Rattle.set_event.specs.declared.Member.{Member}
use Rattle.set_event.proofs.Facts.{four_of, here_is, place_has}
use Rattle.set_event.proofs.Kept.{set_fit_next}
use Rattle.law_wired.proofs.Wire.{not_true}
use Rattle.fm31_image.specs.Image.{image_size, decode_of}
use Rattle.std.specs.Prelude.{Option, Some, None}
use Rattle.fm31_image.proofs.Images.{decode_image}
use Rattle.set_image.specs.Read.{count_of, mark_size, image_at, absent, got_of, device_at, place_of, reading_of}
use Rattle.set_image.specs.Write.{images_of}
use Rattle.set_image.proofs.Readings.{reading_length}
use Rattle.law_set.proofs.Heard.{at_after}
use Rattle.law_ensemble.proofs.Stand.{count_kept}
use Rattle.law_set.proofs.Written.{images_long, image_at_lem}

-- what no event changes of a device
size_at : (n v : ℕ) (h : Held) (e : ℕ) → (after_at n v h e).member.size ≡ h.member.size
size_at n v h e = by_cond (λ (k : Held). k.member.size ≡ h.member.size) (hears n v e) (λ g. refl) (λ g. refl)

select_at : (n v : ℕ) (h : Held) (e : ℕ) → select_in (after_at n v h e) ≡ select_in h
select_at n v h e = by_cond (λ (k : Held). select_in k ≡ select_in h) (hears n v e) (λ g. refl) (λ g. refl)

size_kept : (t : Together) (es : List ℕ) (v : Place) → (at v (after_events t es)).member.size ≡ (at v t).member.size
size_kept t [] v = refl
size_kept t (e ∷ es) v =
    size_kept (after_event t e) es v
    ∙ (ap (λ (h : Held). h.member.size) (at_after t v e) ∙ size_at t.set.count (number_of v) (at v t) e)

pub select_kept : (t : Together) (es : List ℕ) (v : Place) → select_in (at v (after_events t es)) ≡ select_in (at v t)
select_kept t [] v = refl
select_kept t (e ∷ es) v =
    select_kept (after_event t e) es v
    ∙ (ap select_in (at_after t v e) ∙ select_at t.set.count (number_of v) (at v t) e)

unheard : (n v e : ℕ) → ltb v n ≡ false → hears n v e ≡ false
unfolding hears
unheard n v e f = rw f

away_kept : (t : Together) (es : List ℕ) (v : Place) → ltb (number_of v) t.set.count ≡ false
    → at v (after_events t es) ≡ at v t
away_kept t [] v f = refl
away_kept t (e ∷ es) v f =
    away_kept (after_event t e) es v f
    ∙ (at_after t v e ∙ rw (unheard t.set.count (number_of v) e f) refl)

pub fit_kept : (t : Together) (es : List ℕ) → SetFit t → SetFit (after_events t es)
fit_kept t [] f = f
fit_kept t (e ∷ es) f = fit_kept (after_event t e) es (set_fit_next t e f)

-- a device that was read well
got_size : (fits : Bool) (k : Size) (z : ℕ) (d : Option State) → (got_of fits k z d).member.size ≡ k
got_size fits k z (Some s) = refl
got_size fits k z None = refl

got_select : (fits : Bool) (k : Size) (z : ℕ) (d : Option State) → (got_of fits k z d).member.select ≡ z
got_select fits k z (Some s) = refl
got_select fits k z None = refl

got_fits : (fits : Bool) (k : Size) (z : ℕ) (d : Option State) → (got_of fits k z d).good ≡ true → fits ≡ true
got_fits fits k z (Some s) e = e
got_fits fits k z None e = not_true e

-- the first four places of a plan are on the line
in_count : (plan : List ℕ) (v : ℕ) → v ≤ 3 → ltb v (count_of plan) ≡ ltb v (length plan)
unfolding count_of
in_count plan v h =
    by_test (ltb (length plan) 5)
    (λ t. rw t)
    (λ f.
    let l = ltb-false (length plan) 5 f in
    rw (f, lt-ltb v 5 (omega arith), lt-ltb v (length plan) (omega arith)))

small : (v : Place) → number_of v ≤ 3
small first = omega arith
small second = omega arith
small third = omega arith
small fourth = omega arith

same_member : (x : Member) (k : Size) (z : ℕ) → x.size ≡ k → x.select ≡ z
    → record { size = k; select = z; state = x.state } ≡ x
same_member x k z p q = λ i. record { size = sym p i; select = sym q i; state = x.state }

module _ (plan images : List ℕ) (good : (reading_of plan images).good ≡ true) (k l m n : List ℕ)
    (fit : SetFit (lent_to (reading_of plan images).set k l m n)) (es : List ℕ)
  where
    abbrev before : Together
    before = lent_to (reading_of plan images).set k l m n

    abbrev after : Together
    after = after_events before es

    abbrev left : List ℕ
    left = images_of (count_of plan) after.set images

    count_is : after.set.count ≡ count_of plan
    unfolding reading_of
    count_is = count_kept before es

    member_is : (v : Place) → (at v before).member ≡ (place_of plan images (number_of v)).member
    unfolding reading_of
    member_is first = refl
    member_is second = refl
    member_is third = refl
    member_is fourth = refl

    good_at : (v : Place) → (place_of plan images (number_of v)).good ≡ true
    unfolding reading_of
    good_at v = each v
      where
        all : ((place_of plan images 0).good ≡ true) × ((place_of plan images 1).good ≡ true)
            × ((place_of plan images 2).good ≡ true) × ((place_of plan images 3).good ≡ true)
        all =
            four_of (place_of plan images 0).good (place_of plan images 1).good (place_of plan images 2).good
            (place_of plan images 3).good (and_split (eqb (length images) (image_size * count_of plan)) _ good).1

        each : (v : Place) → (place_of plan images (number_of v)).good ≡ true
        each first = all.0
        each second = all.1
        each third = all.2
        each fourth = all.3

    -- a place that the plan has
    module _ (v : Place) (t : ltb (number_of v) (length plan) ≡ true) where
      abbrev mark : ℕ
      mark = get_or plan (number_of v) 0

      abbrev device : Held
      device = at v after

      place_size : (place_of plan images (number_of v)).member.size ≡ mark_size mark
      unfolding place_of device_at
      place_size = rw t (got_size _ _ _ (decode_of (size_of (mark_size mark)) (mark % 4) (image_at (number_of v) images)))

      place_select : (place_of plan images (number_of v)).member.select ≡ mark % 4
      unfolding place_of device_at
      place_select = rw t (got_select _ _ _ (decode_of (size_of (mark_size mark)) (mark % 4) (image_at (number_of v) images)))

      mark_fits : ltb mark 8 ≡ true
      unfolding place_of device_at
      mark_fits =
          let g : (device_at plan images (number_of v)).good ≡ true = rw t at (good_at v) in
          got_fits _ (mark_size mark) (mark % 4) (decode_of (size_of (mark_size mark)) (mark % 4) (image_at (number_of v)
          images)) g

      size_is : device.member.size ≡ mark_size mark
      size_is = size_kept before es v ∙ (ap (λ (x : Member). x.size) (member_is v) ∙ place_size)

      select_is : device.member.select ≡ mark % 4
      select_is = select_kept before es v ∙ (ap (λ (x : Member). x.select) (member_is v) ∙ place_select)

      on_line : ltb (number_of v) (count_of plan) ≡ true
      on_line = in_count plan (number_of v) (small v) ∙ t

      within : well_formed (size_of (mark_size mark)) (mark % 4) device.member.state ≡ true
      unfolding is_within
      within =
          let c = subst (λ (x : ℕ). ltb (number_of v) x ≡ true) (sym count_is) on_line in
          let w = here_is after.set.count (number_of v) _ (place_has is_within after (fit_kept before es fit).within
          v) c in
          subst (λ (x : ℕ). well_formed (size_of (mark_size mark)) x device.member.state ≡ true) select_is
          (subst (λ (x : Size). well_formed (size_of x) (select_in device) device.member.state ≡ true) size_is
          (and_split (ltb (select_in device) 4) _ w).1)

      decoded : decode_of (size_of (mark_size mark)) (mark % 4) (image_at (number_of v) left) ≡ Some device.member.state
      decoded =
          ap (decode_of (size_of (mark_size mark)) (mark % 4)) (image_at_lem (count_of plan) after images (reading_length plan
          images good) v on_line)
          ∙ decode_image (size_of (mark_size mark)) (mark % 4) device.member.state within

      place_here : place_of plan left (number_of v) ≡ record { good = true; member = device.member }
      unfolding place_of device_at
      place_here =
          rw (t, decoded, mark_fits)
          (ap (λ (x : Member). record { good = true; member = x }) (same_member device.member (mark_size mark) (mark
          % 4) size_is select_is))

    place_away : (v : Place) → ltb (number_of v) (length plan) ≡ false
        → place_of plan left (number_of v) ≡ record { good = true; member = (at v after).member }
    unfolding place_of reading_of
    place_away v f =
        let c : ltb (number_of v) before.set.count ≡ false = in_count plan (number_of v) (small v) ∙ f in
        let e : (place_of plan images (number_of v)).member ≡ absent.member = rw f refl in
        rw f
        (ap (λ (x : Member). record { good = true; member = x })
        (sym (ap (λ (h : Held). h.member) (away_kept before es v c) ∙ (member_is v ∙ e))))

    place_again : (v : Place) → place_of plan left (number_of v) ≡ record { good = true; member = (at v after).member }
    place_again v = by_test (ltb (number_of v) (length plan)) (place_here v) (place_away v)

    pub reading_again : reading_of plan left ≡ record { good = true; set = after.set }
    unfolding reading_of
    reading_again =
        rw (
          place_again first,
          place_again second,
          place_again third,
          place_again fourth,
          eq-eqb (length left) (image_size * count_of plan)
              (images_long (count_of plan) after.set images (reading_length plan images good)),
        )
        (λ i.
        record {
          good = true;
          set = record {
            count = sym count_is i;
            first = after.set.first;
            second = after.set.second;
            third = after.set.third;
            fourth = after.set.fourth;
          };
        })
