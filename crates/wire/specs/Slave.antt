-- SPDX-License-Identifier: Apache-2.0
-- The slave byte (01, Transfers: "Slave byte 1010 000x is memory, 1101 000x the companion; x = 1 reads").
--   slave_names          whom a byte names
--   Says, named_says     01's values for each answer of `slave_names`: acknowledged or not, and what follows
--   answers, opened     the two by themselves
use Rattle.std.specs.Prelude.{ℕ, Bool, true, false, cond, eqb}
use Rattle.wire.specs.declared.Side.{Side}
use Rattle.wire.specs.declared.Side.TheVariants.{Memory, Companion}
use Rattle.wire.specs.declared.Named.{Named}
use Rattle.wire.specs.declared.Named.TheVariants.{Nobody, Reads, Writes}
use Rattle.wire.specs.declared.Phase.{Phase}
use Rattle.wire.specs.declared.Phase.TheVariants.{Idle, AddressHigh, Pointer, Read}

-- A0h, A1h, D0h, D1h; "any other (ruling) is not acknowledged".
unfoldable pub slave_names : ℕ → Named
slave_names b =
    cond (eqb b 0xA0) (Writes Memory)
    (cond (eqb b 0xA1) (Reads Memory)
    (cond (eqb b 0xD0) (Writes Companion)
    (cond (eqb b 0xD1) (Reads Companion) Nobody)))

-- What 01 says of a slave byte that names so: whether it is acknowledged, and the phase that its acknowledge leads to.
pub record Says : Type 0 where
  pub acknowledged : Bool
  pub opens : Phase

-- Auxiliary: the first address byte of a write to a device.
abbrev pub addressing : Side → Phase
addressing Memory = AddressHigh 0 0
addressing Companion = Pointer 0 0

-- 01's values, case by case: "any other (ruling) is not acknowledged, and the device waits for a Start"; "x = 1 reads":
-- data bytes go out; else the address bytes of the named device come in.
abbrev pub named_says : Named → Says
named_says Nobody = record { acknowledged = false; opens = Idle }
named_says (Reads s) = record { acknowledged = true; opens = Read s 0 0 }
named_says (Writes s) = record { acknowledged = true; opens = addressing s }

-- Auxiliary: each of the two.
unfoldable pub answers : Named → Bool
answers n = (named_says n).acknowledged

unfoldable pub opened : Named → Phase
opened n = (named_says n).opens
