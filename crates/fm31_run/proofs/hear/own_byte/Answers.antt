-- SPDX-License-Identifier: Apache-2.0
-- `fm31_run::hear::own_byte` meets its contract.
use borrow.Author.Tests.{lt-ltb, le-ltb}
use Rattle.fm31_run.specs.Seat.{own_byte}
use Rattle.fm31_run.proofs.hear.own_byte.Goals as goal

pub returns-then-event-lt8 : goal.returns-then-event-lt8
unfolding own_byte
returns-then-event-lt8 c = rw (lt-ltb _ _ c.if-event-lt8.true)

pub returns : goal.returns
unfolding own_byte
returns c = rw (le-ltb _ _ c.if-event-lt8.false)
