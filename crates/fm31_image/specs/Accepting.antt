-- SPDX-License-Identifier: Apache-2.0
-- Which images are accepted, as one test over size and select, and its parts by their bytes. All is auxiliary: the contracts
-- of the entries speak of `decode_of`.
--   is_image         the test inside `decode_of`, by name
--   same_in_all       the bytes that all images have alike: 20, 21, and 30 to 63
--   places_within    the limits that lie in bytes 0 to 24
use Rattle.std.specs.Prelude.{ℕ, ◌+◌, ◌*◌, Bool, ◌&&◌, List, eqb, ltb, get_or, drop}
use Rattle.fm31_counters.specs.Part.{is_within}
use Rattle.fm31.specs.Limits.{well_formed}
use Rattle.bus_image.specs.Bytes.{same_bytes}
use Rattle.bus_accept.specs.Tests.{the_end}
use Rattle.fm31_image.specs.Image.{image_of, counters_at, candidate}

-- The candidate is well-formed for size and select and writes this very image.
unfoldable pub is_image : ℕ → ℕ → List ℕ → Bool
is_image size select i = well_formed size select (candidate i) && same_bytes (image_of (candidate i)) i

-- Two zeros behind the snapshot; zeros and the mark at the end.
unfoldable pub same_in_all : List ℕ → Bool
same_in_all i = (eqb (get_or i 20 0) 0 && eqb (get_or i 21 0) 0) && same_bytes (drop 30 i) (the_end 0x31 0xCC 0x01)

-- The registers and the two addresses.
unfoldable pub places_within : ℕ → List ℕ → Bool
places_within size i = ltb (get_or i 23 0 * 256 + get_or i 24 0) size && is_within (counters_at i)
