-- SPDX-License-Identifier: Apache-2.0
-- The bits of a byte fit its clocks: fewer than eight, eight, and no more.
use native.Mathlib.Omega.{arith}
use borrow.Author.Tests.{le-leb, lt-ltb, lt-leb}
use Rattle.wire.specs.Limits.{bits_fit}
use Rattle.bus_limits.proofs.Tests.{shifted_out}
use Rattle.bus_limits.proofs.bits_fit.Goals as goal

pub returns-in-0-to-7 : goal.returns-in-0-to-7
unfolding bits_fit
returns-in-0-to-7 c = rw (le-leb c.args.clocks 8 (omega arith)) (shifted_out c.args.clocks c.args.byte)

pub returns-in-8 : goal.returns-in-8
unfolding bits_fit
returns-in-8 c = rw (c.in-8.is, lt-ltb c.args.byte 256 (omega arith))

pub returns-in_default : goal.returns-in_default
unfolding bits_fit
returns-in_default c = rw (lt-leb c.args.clocks 8 (omega arith))
