-- SPDX-License-Identifier: Apache-2.0
-- Which images are accepted, as one test, and the parts of an image that its laws speak of. All is auxiliary: the contracts
-- of the entries speak of `decode_of`.
--   is_image                     the test inside `decode_of`, by name
--   the_end, companion_bytes      bytes 30 to 63 of every image; bytes 0 to 22 of a companion
--   transfer_bytes               bytes 26 to 29 of a phase
use Rattle.std.specs.Prelude.{ℕ, Bool, ◌&&◌, List, [], ◌∷◌, ◌++◌, replicate}
use Rattle.wire.specs.declared.Phase.{Phase}
use Rattle.fm3130_companion.specs.Registers.{register_bytes}
use Rattle.fm3130_companion.specs.declared.Companion.{Companion}
use Rattle.fm3130.specs.Limits.{well_formed}
use Rattle.bus_image.specs.Layout.{transfer_of}
use Rattle.bus_image.specs.Bytes.{same_bytes}
use Rattle.fm3130_image.specs.Image.{mark, calendar_bytes, image_of, candidate}

-- The candidate is well-formed and writes this very image.
unfoldable pub is_image : List ℕ → Bool
is_image i = well_formed (candidate i) && same_bytes (image_of (candidate i)) i

abbrev pub the_end : List ℕ
the_end = replicate 31 0 ++ mark

-- Bytes 0 to 22.
abbrev pub companion_bytes : Companion → List ℕ
companion_bytes c = register_bytes c.registers ++ calendar_bytes c.core ++ c.address ∷ []

-- Bytes 26 to 29.
abbrev pub transfer_bytes : Phase → List ℕ
transfer_bytes p = (transfer_of p).phase ∷ (transfer_of p).clocks ∷ (transfer_of p).byte ∷ (transfer_of p).first ∷ []
