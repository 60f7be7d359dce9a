-- SPDX-License-Identifier: Apache-2.0
-- The memory or the companion.
use borrow.Author.Tests.{ne_eqb}
use Rattle.place_clock.proofs.send.finish.Goals as goal

pub returns-then-number-eq-READ_MEMORY : goal.returns-then-number-eq-READ_MEMORY
returns-then-number-eq-READ_MEMORY c = λ s e. rw c.if-number-eq-READ_MEMORY.true (c.step_on.ensures s e)

pub returns : goal.returns
returns c =
    λ s e. rw (ne_eqb _ _ c.if-number-eq-READ_MEMORY.false) (c.loaded.ensures s e)
