-- SPDX-License-Identifier: Apache-2.0
-- The tests of the bytes, one after the other, are those of the definition.
use mathlib.Core.Path.{sym, ◌∙◌}
use native.Mathlib.Omega.{arith}
use Rattle.fm31_image.proofs.Accepts.{image_not_long, wrong_same, wrong_places, right_so_far}
use Rattle.fm31_image.proofs.accept.is_image.Goals as goal

pub returns-then-image-ne-LENGTH : goal.returns-then-image-ne-LENGTH
returns-then-image-ne-LENGTH c = sym (image_not_long _ _ _ c.if-image-ne-LENGTH.true)

pub returns-then-not-same_in_all : goal.returns-then-not-same_in_all
returns-then-not-same_in_all c =
    let k = c in
    wrong_same _ _ _ c.if-image-ne-LENGTH.false ((λ k₁. omega (arith, k.shared_slice_known-1.given k₁)))
    (sym c.same_in_all.ensures ∙ c.if-not-same_in_all.true)

pub returns-then-not-places_within : goal.returns-then-not-places_within
returns-then-not-places_within c =
    let k = c in
    wrong_places _ _ _ c.if-image-ne-LENGTH.false ((λ k₁. omega (arith, k.shared_slice_known-1.given k₁)))
    (sym c.same_in_all.ensures ∙ c.if-not-same_in_all.false)
    (sym c.places_within.ensures ∙ c.if-not-places_within.true)

pub returns : goal.returns
returns c =
    let t = c in
    let k = t in
    c.bus_within.ensures
    ∙ rw c.transfer_at.ensures
    (right_so_far _ _ _ t.if-image-ne-LENGTH.false ((λ k₁. omega (arith, k.shared_slice_known-1.given k₁)))
    (sym t.same_in_all.ensures ∙ t.if-not-same_in_all.false)
    (sym t.places_within.ensures ∙ t.if-not-places_within.false))
