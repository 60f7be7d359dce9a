-- SPDX-License-Identifier: Apache-2.0
-- A byte that has begun, or its first bit.
use mathlib.Core.Path.{refl, sym, ◌∙◌}
use native.Mathlib.Omega.{arith}
use lib.ListN.{length-set}
use Rattle.fm3130_image.proofs.Accepts.{image_long, image_written}
use Rattle.fm3130_image.proofs.Lies.{image_places}
use Rattle.place_rows.proofs.Rowing.{begun_still, row_begun, shown_both}
use Rattle.place_rows.proofs.first_sent.Goals as goal

pub bounds-image-27 : goal.bounds-image-27
bounds-image-27 c = omega (arith, image_long _ c.requires.accepted.image)

pub returns-then-image-ne0 : goal.returns-then-image-ne0
returns-then-image-ne0 c =
    begun_still _ _ _ _ _ c.requires.accepted (omega (arith, c.requires.from_in_bounds.0)) c.requires.bound.0 c.if-image-ne0.true
    c.requires.bound.1

pub fetched-byte-requires : goal.fetched-byte-requires
fetched-byte-requires c =
    record {
      image_len = (image_long _ c.requires.accepted.image, c.requires.accepted.memory);
      image_bound = image_places c.args.image.now c.args.memory.now c.requires.accepted.memory c.requires.accepted.image;
    }

pub shown-requires : goal.shown-requires
shown-requires c = image_long _ c.requires.accepted.image

pub bounds-image-27-2 : goal.bounds-image-27-2
bounds-image-27-2 c = omega (arith, image_long _ c.requires.accepted.image)

pub bounds-image-28 : goal.bounds-image-28
bounds-image-28 c = let l = image_long _ c.requires.accepted.image in simp length-set (omega arith)

pub returns : goal.returns
returns c =
    let w = sym (image_written _ c.requires.accepted.image) in
    let h = c.requires.from_in_bounds in
    row_begun _ _ _ _ _ c.requires.accepted h.0 h.1 h.2 c.requires.bound.0 c.if-image-ne0.false _ _ _ _
    (c.fetched-byte.ensures _ w) (shown_both c.shown.ensures _ w).0
    (c.lined.ensures ∙ rw c.sending_line-line.ensures refl) refl
