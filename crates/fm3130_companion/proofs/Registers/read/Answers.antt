-- SPDX-License-Identifier: Apache-2.0
-- `fm3130_companion::Registers::read` meets its contract. The last arm is at 0Eh, the only address left.
use Prim.Native.Nat.{zero-le}
use Rattle.bits.proofs.Cases.{is_last}
use Rattle.fm3130_companion.proofs.Registers.read.Goals as goal

pub returns-in_default : goal.returns-in_default
returns-in_default c = rw (is_last 0 14 _ zero-le c.in_default.in_default-own.rest c.requires)
