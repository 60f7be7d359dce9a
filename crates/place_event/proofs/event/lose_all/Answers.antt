-- SPDX-License-Identifier: Apache-2.0
-- The fresh device, without a supply.
use mathlib.Core.Path.{refl}
use native.Mathlib.Omega.{arith}
use Rattle.fm3130_image.specs.Image.{image_of}
use Rattle.fm3130_image.proofs.Accepts.{image_long, image_read, decoded_end}
use Rattle.place_event.proofs.Quiets.{all_lost, all_lost_before}
use Rattle.place_event.proofs.event.lose_all.Goals as goal

pub bounds-image-25 : goal.bounds-image-25
bounds-image-25 c = let l = image_long _ c.requires in omega arith

pub returns-then-image-eq-POWER_OFF : goal.returns-then-image-eq-POWER_OFF
unfolding image_of
returns-then-image-eq-POWER_OFF c s e = rw (all_lost_before s (rw e at c.if-image-eq-POWER_OFF.true)) e

pub write_over-requires : goal.write_over-requires
write_over-requires c =
    let h = c.requires in (image_long _ h, decoded_end _ _ (image_read _ h))

pub bounds-image-25-2 : goal.bounds-image-25-2
bounds-image-25-2 c =
    let l = image_long _ c.requires in
    let k = c.slice_known-3-1.given in omega arith

pub returns : goal.returns
unfolding image_of
returns c s e =
    rw (
      all_lost s (λ z. c.if-image-eq-POWER_OFF.false (rw e z)),
      c.write_over.ensures,
      c.fresh.ensures,
    ) refl
