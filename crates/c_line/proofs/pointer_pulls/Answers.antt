-- SPDX-License-Identifier: Apache-2.0
-- Seven bits below 7 give at most 0Dh, 7 gives 0Eh or 0Fh, and more gives more than 0Eh.
use Prim.Native.Nat.{◌+◌, ◌*◌, ◌%◌}
use native.Mathlib.Omega.{arith}
use borrow.Author.Tests.{le-leb, lt-leb}
use Rattle.wire.specs.Bits.{pushed}
use Rattle.c_line.proofs.pointer_pulls.Goals as goal

pub returns-in-0-to-6 : goal.returns-in-0-to-6
unfolding pushed
returns-in-0-to-6 c =
    let b = c.args.byte in
    let d = c.in-0-to-6 in
    rw (le-leb (b % 128 * 2) 14 (omega arith), le-leb (b % 128 * 2 + 1) 14 (omega arith))

pub returns-in-7 : goal.returns-in-7
unfolding pushed
returns-in-7 c = rw c.in-7.is

pub returns-in_default : goal.returns-in_default
unfolding pushed
returns-in_default c =
    let b = c.args.byte in
    let d = c.in_default in
    rw (lt-leb (b % 128 * 2) 14 (omega arith), lt-leb (b % 128 * 2 + 1) 14 (omega arith))
