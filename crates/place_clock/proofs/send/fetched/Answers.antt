-- SPDX-License-Identifier: Apache-2.0
-- The byte of the memory, or the register.
use borrow.Author.Tests.{ne_eqb}
use Rattle.fm3130_image.specs.Image.{image_of}
use Rattle.bus_image.proofs.Back.{address_of_bytes}
use Rattle.place_clock.proofs.send.fetched.Goals as goal

pub returns-then-number-eq-READ_MEMORY : goal.returns-then-number-eq-READ_MEMORY
unfolding image_of
returns-then-number-eq-READ_MEMORY c =
    λ s e. rw (c.if-number-eq-READ_MEMORY.true, c.pair-at.ensures, e, address_of_bytes s.address)

pub returns : goal.returns
returns c = λ s e. rw (ne_eqb _ _ c.if-number-eq-READ_MEMORY.false) (c.load.ensures s e)
