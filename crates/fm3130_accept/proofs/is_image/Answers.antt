-- SPDX-License-Identifier: Apache-2.0
-- The tests of the bytes, one after the other, are those of the definition.
use mathlib.Core.Path.{sym, ◌∙◌}
use mathlib.Core.Bool.{false≢true}
use native.Mathlib.Omega.{arith}
use borrow.Author.Tests.{ne_eqb}
use Rattle.fm3130_image.proofs.Accepts.{image_not_long}
use Rattle.fm3130_accept.proofs.Tests.{wrong_end, wrong_places, right_so_far}
use Rattle.fm3130_accept.proofs.is_image.Goals as goal
use Rattle.fm3130_accept.proofs.is_image.Goals.{then-image-eq-LENGTH, else-image-eq-LENGTH, then-has_end, else-has_end}

pub returns-then-places_within : goal.returns-then-places_within
returns-then-places_within c =
    elim c.if-has_end.branch [
      | then-has_end w ↦ elim c.if-image-eq-LENGTH.branch [
        | then-image-eq-LENGTH v ↦
            rw c.transfer_at.ensures at c.bus_within.ensures ∙ right_so_far _ v.if-image-eq-LENGTH.true (λ k. omega (arith, c.type_inv.image k))
            (sym v.has_end.ensures ∙ sym v.value-is ∙ w.if-has_end.true)
            (sym w.places_within.ensures ∙ sym w.value-is ∙ c.if-places_within.true)
        | else-image-eq-LENGTH v ↦ absurd (false≢true (sym (ne_eqb _ _ v.if-image-eq-LENGTH.false) ∙ sym v.value-is ∙ w.if-has_end.true))
      ]
      | else-has_end w ↦ absurd (false≢true (sym w.if-has_end.false ∙ sym w.value-is ∙ c.if-places_within.true))
    ]

pub returns-else-places_within : goal.returns-else-places_within
returns-else-places_within c =
    elim c.if-has_end.branch [
      | then-has_end w ↦ elim c.if-image-eq-LENGTH.branch [
        | then-image-eq-LENGTH v ↦
            c.if-places_within.false ∙ wrong_places _ v.if-image-eq-LENGTH.true (λ k. omega (arith, c.type_inv.image k))
            (sym v.has_end.ensures ∙ sym v.value-is ∙ w.if-has_end.true)
            (sym w.places_within.ensures ∙ sym w.value-is ∙ c.if-places_within.false)
        | else-image-eq-LENGTH v ↦ absurd (false≢true (sym (ne_eqb _ _ v.if-image-eq-LENGTH.false) ∙ sym v.value-is ∙ w.if-has_end.true))
      ]
      | else-has_end w ↦ elim c.if-image-eq-LENGTH.branch [
        | then-image-eq-LENGTH v ↦
            c.if-places_within.false ∙ wrong_end _ v.if-image-eq-LENGTH.true (λ k. omega (arith, c.type_inv.image k))
            (sym v.has_end.ensures ∙ sym v.value-is ∙ w.if-has_end.false)
        | else-image-eq-LENGTH v ↦ c.if-places_within.false ∙ sym (image_not_long _ v.if-image-eq-LENGTH.false)
      ]
    ]
