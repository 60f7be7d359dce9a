-- SPDX-License-Identifier: Apache-2.0
-- The first address byte is kept for the second.
use borrow.Author.Tests.{eq-eqb, ne_eqb}
use Rattle.place_clock.specs.Code.Incoming.{first_by}
use Rattle.place_clock.proofs.receive.keeps.Goals as goal

pub returns-then-number-eq-ADDRESS_HIGH : goal.returns-then-number-eq-ADDRESS_HIGH
unfolding first_by
returns-then-number-eq-ADDRESS_HIGH c = rw (eq-eqb _ _ c.if-number-eq-ADDRESS_HIGH.true)

pub returns : goal.returns
unfolding first_by
returns c = rw (ne_eqb _ _ c.if-number-eq-ADDRESS_HIGH.false)
