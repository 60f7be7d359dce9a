-- SPDX-License-Identifier: Apache-2.0
-- The tests in the order of the numbers, each way by its law.
use Prim.Native.Nat.{ℕ, ◌+◌}
use mathlib.Core.Path.{refl, sym, ap, ◌∙◌}
use native.Mathlib.Omega.{arith}
use lib.Seq.{length-take-le}
use borrow.Author.Tests.{eq-eqb}
use Rattle.c_view.specs.View.{end_number}
use Rattle.c_view.proofs.Views.{view_wrong_memory, view_wrong_image, view_memory, view_registers, view_unknown}
use Rattle.c_view.proofs.chosen.Viewed.chosen.Goals as goal

pub returns-then-memory-self : goal.returns-then-memory-self
returns-then-memory-self c = λ start len. view_wrong_memory _ _ _ _ _ _ _ c.if-memory-self.true

pub returns-then-image-ne-LENGTH : goal.returns-then-image-ne-LENGTH
returns-then-image-ne-LENGTH c = λ start len. view_wrong_image _ _ _ _ _ _ _ c.if-memory-self.false c.if-image-ne-LENGTH.true

pub returns-in-0 : goal.returns-in-0
returns-in-0 c =
    let z = c.in-0.is in (
      rw (eq-eqb _ 0 z) refl,
      rw (eq-eqb _ 0 z) refl,
      λ start len.
          view_memory _ _ _ _ _ _ _ c.if-memory-self.false c.if-image-ne-LENGTH.false z
          ∙ ap (λ (n : ℕ). end_number (start + len) n) (sym c.if-memory-self.false),
    )

pub returns-in-1 : goal.returns-in-1
returns-in-1 c =
    let a = c.args in
    let z = c.in-1.is in (
      rw z refl,
      rw z refl,
      λ start len.
          view_registers _ _ _ _ _ _ _ c.if-memory-self.false c.if-image-ne-LENGTH.false a.self.in_image z
          ∙ ap (λ (n : ℕ). end_number (start + len) n)
          (sym (length-take-le a.self.count a.image.now (omega (arith, a.self.in_image, c.if-image-ne-LENGTH.false)))),
    )

pub returns-in_default : goal.returns-in_default
returns-in_default c = λ start len. view_unknown _ _ _ _ _ _ _ c.if-memory-self.false c.if-image-ne-LENGTH.false
    (let d = c.in_default in λ z. omega arith) (let d = c.in_default in λ z. omega arith)
