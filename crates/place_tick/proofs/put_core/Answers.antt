-- SPDX-License-Identifier: Apache-2.0
-- The seven bytes of the core, as a calendar's.
use Rattle.std.proofs.Common.{refl, arith}
use Rattle.fm3130_image.specs.Image.{image_of}
use Rattle.place_tick.proofs.put_core.Goals as goal

pub write_calendar-requires : goal.write_calendar-requires
write_calendar-requires c = (c.requires, omega arith)

pub shape_of-image : goal.shape_of-image
shape_of-image c = c.image-1.given

pub returns : goal.returns
unfolding image_of
returns c s e = rw (c.write_calendar.ensures, e) refl
