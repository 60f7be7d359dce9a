-- SPDX-License-Identifier: Apache-2.0
-- By the supplies that were present.
use mathlib.Core.Path.{refl}
use Rattle.fm3130_image.specs.Image.{image_of}
use Rattle.fm3130_companion.specs.Power.{returned_of}
use Rattle.place_event.proofs.Quiets.{back_after_backup, back_else}
use Rattle.place_event.proofs.event.restore.Goals as goal

pub returns-then-image-eq-POWER_BACKUP : goal.returns-then-image-eq-POWER_BACKUP
unfolding image_of returned_of
returns-then-image-eq-POWER_BACKUP c s e =
    rw (back_after_backup s (rw e at c.if-image-eq-POWER_BACKUP.true), c.por_set.ensures, e) refl

pub returns : goal.returns
unfolding image_of returned_of
returns c s e = rw (back_else s (λ z. c.if-image-eq-POWER_BACKUP.false (rw e z)), e) refl
