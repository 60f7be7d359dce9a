-- SPDX-License-Identifier: Apache-2.0
-- Heard or not: eight stores.
use mathlib.Core.Path.{sym}
use native.Mathlib.Omega.{arith}
use lib.ListN.{length-set}
use borrow.Author.Rules.{rules}
use Rattle.wire.specs.declared.Phase.TheVariants.{Idle}
use Rattle.bus.specs.declared.Power.TheVariants.{Backup}
use Rattle.fm3130_companion.specs.Part.{backed_of}
use Rattle.fm3130.specs.declared.State.{State}
use Rattle.fm3130_image.specs.Image.{image_of}
use Rattle.fm3130_image.proofs.Lies.{phase_over}
use Rattle.place_event.proofs.Quiets.{loss_heard, loss_unheard}
use Rattle.place_event.proofs.event.lose.Goals as goal

abbrev at_rest : State → State
at_rest s = record { power = Backup; phase = s.phase; address = 0; companion = backed_of s.companion }

pub returns-then-image-ne-POWER_ON : goal.returns-then-image-ne-POWER_ON
unfolding image_of
returns-then-image-ne-POWER_ON c s e = rw (loss_unheard s (λ z. c.if-image-ne-POWER_ON.true (rw e z))) e

pub bounds-image-25-2 : goal.bounds-image-25-2
bounds-image-25-2 c = let l = c.requires in simp length-set (omega arith)

pub shape_of-image : goal.shape_of-image
shape_of-image c = search (rules, c.image-1.given)

pub returns : goal.returns
unfolding image_of
returns c s e =
    rw (loss_heard s (rw e at c.if-image-ne-POWER_ON.false), c.begin.ensures, e) (sym (phase_over (at_rest s) Idle))
