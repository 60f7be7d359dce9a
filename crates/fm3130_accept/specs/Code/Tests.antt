-- SPDX-License-Identifier: Apache-2.0
-- The tests of bytes that are the FM3130's own; those that every image has in common are of `bus_accept`. All is auxiliary: the
-- contract of `is_image` speaks of `is_image`.
--   places_within   the limits that lie in bytes 0 to 24
use Rattle.std.specs.Prelude.{ℕ, ◌+◌, ◌*◌, Bool, ◌&&◌, List, ltb, get_or}
use Rattle.fm3130_companion.specs.Part.{is_within}
use Rattle.fm3130.specs.Chip.{memory_size}
use Rattle.bus_image.specs.Places.{ADDRESS_HIGH_AT, ADDRESS_LOW_AT}
use Rattle.fm3130_image.specs.Image.{companion_at}

-- The registers, the core and the two addresses.
abbrev pub places_within : List ℕ → Bool
places_within i = ltb (get_or i ADDRESS_HIGH_AT 0 * 256 + get_or i ADDRESS_LOW_AT 0) memory_size && is_within (companion_at i)
