-- SPDX-License-Identifier: Apache-2.0
-- A valid core stays valid from image to image: an accepted call is a run, any other leaves the image.
use Prim.Native.Nat.{ℕ}
use mathlib.Core.Path.{◌≡◌, refl, sym, ap, subst, ◌∙◌}
use mathlib.Core.Bool.{Bool, true, false}
use mathlib.Core.List.{List, [], ◌∷◌}
use lib.Dec.{eqb}
use borrow.Author.Tests.{eqb-true, eqb-false}
use Rattle.calendar.specs.Next.{is_valid}
use Rattle.calendar.specs.declared.Calendar.{Calendar}
use Rattle.numbers.specs.Numbers.{accepted}
use Rattle.fm3130.specs.declared.State.{State}
use Rattle.fm3130_image.specs.Image.{image_of, calendar_at}
use Rattle.fm3130_image.proofs.Images.{image_decode}
use Rattle.fm3130_list.specs.Run.{Outcome, run_of, outcome_of}
use Rattle.fm3130_list.proofs.Ends.{accepted_by, accepted_outcome, run_refused}
use Rattle.law_table.specs.Dates.{DateIn, CallStaysValid, CallsStayValid}
use Rattle.law_table.proofs.Valid.{stays_valid}

-- the core in an image
core_in_lem : (s : State) → calendar_at (image_of s) 15 ≡ s.companion.core
unfolding calendar_at image_of
core_in_lem s = refl

pub call_stays_valid : CallStaysValid
call_stays_valid i m es a v = by_number (eqb (outcome_of i m es a).number accepted) refl
  where
    by_number : (t : Bool) → eqb (outcome_of i m es a).number accepted ≡ t → DateIn (outcome_of i m es a).image
    by_number true t =
        let c = accepted_by i m es a (eqb-true (outcome_of i m es a).number accepted t) in
        let s = c.state in
        let before = ap (λ (x : List ℕ). calendar_at x 15) (sym (image_decode i s c.image).1) ∙ core_in_lem s in
        let after =
        ap (λ (o : Outcome). calendar_at o.image 15) (accepted_outcome i m es a c) ∙ core_in_lem (run_of s m es).state in
        let held = ap (λ (x : Calendar). is_valid x) (sym before) ∙ v in
        ap (λ (x : Calendar). is_valid x) after ∙ stays_valid s m es held
    by_number false t =
        let same = run_refused i m es a (eqb-false (outcome_of i m es a).number accepted t) in
        subst (λ (o : Outcome). DateIn o.image) (sym same) v

pub calls_stay_valid : CallsStayValid
calls_stay_valid i m [] v = v
calls_stay_valid i m (c ∷ cs) v =
    let o = outcome_of i m c.events c.answers in
    calls_stay_valid o.image o.memory cs (call_stays_valid i m c.events c.answers v)
