-- SPDX-License-Identifier: Apache-2.0
-- The number of the phase that follows, by the number.
use borrow.Author.Tests.{ne_eqb}
use Rattle.place_clock.specs.Code.Incoming.{followed_by}
use Rattle.place_clock.proofs.receive.follows.Goals as goal

pub returns-in-1 : goal.returns-in-1
unfolding followed_by
returns-in-1 c = rw c.in-1.is c.opens.ensures

pub returns-in-2 : goal.returns-in-2
unfolding followed_by
returns-in-2 c = rw c.in-2.is

pub returns-in-3 : goal.returns-in-3
unfolding followed_by
returns-in-3 c = rw c.in-3.is

pub returns-in-4 : goal.returns-in-4
unfolding followed_by
returns-in-4 c = rw c.in-4.is

pub returns-in_default : goal.returns-in_default
unfolding followed_by
returns-in_default c =
    let r = c.in_default.in_default-own.rest in
    rw (ne_eqb _ _ r.1, ne_eqb _ _ r.0.1, ne_eqb _ _ r.0.0.1, ne_eqb _ _ r.0.0.0.1)
