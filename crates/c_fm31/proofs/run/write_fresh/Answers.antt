-- SPDX-License-Identifier: Apache-2.0
-- The two ways through the test of the length.
use borrow.Author.Tests.{eq-eqb, ne_eqb}
use Rattle.bus_list.specs.Fresh.{fresh_of}
use Rattle.c_fm31.proofs.run.write_fresh.Goals as goal

pub returns-then-image-ne-LENGTH : goal.returns-then-image-ne-LENGTH
unfolding fresh_of
returns-then-image-ne-LENGTH c = rw (ne_eqb _ _ c.if-image-ne-LENGTH.true)

pub returns : goal.returns
unfolding fresh_of
returns c =
    rw (
      eq-eqb _ _ c.if-image-ne-LENGTH.false,
      c.write_image.ensures,
      c.fresh.ensures,
    )
