-- SPDX-License-Identifier: Apache-2.0
-- What the code takes of a phase's number: the device that a read names.
use Rattle.std.specs.Prelude.{ℕ, cond, eqb}
use Rattle.wire.specs.declared.Side.{Side}
use Rattle.wire.specs.declared.Side.TheVariants.{Memory, Companion}
use Rattle.bus_image.specs.Places.{READ_MEMORY}

-- Auxiliary: the device of a byte that goes out, by the phase's number, 7 or 8.
abbrev pub side_of : ℕ → Side
side_of n = cond (eqb n READ_MEMORY) Memory Companion
