-- SPDX-License-Identifier: Apache-2.0
-- The tests of the definition, one by one.
use mathlib.Core.Path.{◌≡◌, refl, sym, ◌∙◌}
use mathlib.Core.Bool.{Bool, true, false, not}
use borrow.Author.Rules.{rules}
use borrow.Author.Tests.{eq-eqb, eqb-true}
use Rattle.fm3130_image.specs.Image.{calendar_at}
use Rattle.c_line.proofs.loads_bad_date.Goals.{then-image-eq-CONTROL, else-image-eq-CONTROL, then-not-has, else-not-has}
use Rattle.c_line.proofs.loads_bad_date.Goals as goal

low : (b : Bool) → not b ≡ true → b ≡ false
low true e = sym e
low false e = refl

both_ways : (b : Bool) → b ≡ true → b ≡ false → ⊥
both_ways b t f = search rules

pub returns-then-has : goal.returns-then-has
unfolding calendar_at
returns-then-has c =
    elim c.if-not-has.branch [
      | then-not-has w ↦
          elim c.if-image-eq-CONTROL.branch [
            | then-image-eq-CONTROL v ↦
                rw (
                  eq-eqb _ _ v.if-image-eq-CONTROL.true,
                  sym v.has.ensures ∙ low _ (sym v.value-is ∙ w.if-not-has.true),
                  sym w.has-then-not-has.ensures ∙ sym w.value-is ∙ c.if-has.true,
                  c.is_valid.ensures,
                  c.calendar_at.ensures,
                )
            | else-image-eq-CONTROL v ↦
                absurd (v.if-image-eq-CONTROL.false (eqb-true _ _ (sym v.value-is ∙ w.if-not-has.true)))
          ]
      | else-not-has w ↦ absurd (both_ways _ c.if-has.true (w.value-is ∙ w.if-not-has.false))
    ]
