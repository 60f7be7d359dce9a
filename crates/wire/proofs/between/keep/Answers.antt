-- SPDX-License-Identifier: Apache-2.0
-- An unacknowledged byte ends the transfer.
use Rattle.wire.specs.Clock.{kept}
use Rattle.wire.proofs.between.keep.Goals as goal

pub returns-then-acknowledged : goal.returns-then-acknowledged
unfolding kept
returns-then-acknowledged c = rw c.if-acknowledged.true

pub returns-else-acknowledged : goal.returns-else-acknowledged
unfolding kept
returns-else-acknowledged c = rw c.if-acknowledged.false
