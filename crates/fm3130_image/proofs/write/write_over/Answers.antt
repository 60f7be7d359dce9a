-- SPDX-License-Identifier: Apache-2.0
-- The companion and the rest, over the bytes of an image by their places; the end is that of every image.
use Rattle.fm3130_image.specs.Image.{image_of}
use Rattle.fm3130_image.proofs.Accepts.{listed, front_end}
use Rattle.fm3130_image.proofs.write.write_over.Goals as goal

pub returns : goal.returns
unfolding image_of listed
returns c =
    rw (
      c.write_bus.ensures,
      c.write_companion.ensures,
      ← front_end c.args.image.now c.requires.0 c.requires.1,
    )
