-- SPDX-License-Identifier: Apache-2.0
-- `fm31_run::hear::joined` meets its contract.
use Rattle.fm31_run.specs.Seat.{joined_at}
use Rattle.fm31_run.proofs.hear.joined.Goals as goal

pub returns-then-place-before : goal.returns-then-place-before
unfolding joined_at
returns-then-place-before c = rw c.if-place-before.true

pub returns : goal.returns
unfolding joined_at
returns c = rw c.if-place-before.false
