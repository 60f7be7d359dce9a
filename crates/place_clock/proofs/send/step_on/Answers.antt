-- SPDX-License-Identifier: Apache-2.0
-- The address of the state that lies in the image, from its two bytes and back.
use Rattle.fm3130_image.specs.Image.{image_of}
use Rattle.bus_image.proofs.Back.{address_of_bytes}
use Rattle.place_clock.proofs.send.step_on.Goals as goal

pub returns : goal.returns
unfolding image_of
returns c s e =
    rw (c.move_to.ensures, c.pair.ensures, e, address_of_bytes s.address)
