-- SPDX-License-Identifier: Apache-2.0
-- The phase that a slave byte opens, by whom it names.
use Rattle.std.proofs.Common.{rules}
use Rattle.wire.specs.Slave.{opened}
use Rattle.wire.proofs.slave.opened.Goals as goal

pub returns-in-Nobody : goal.returns-in-Nobody
unfolding opened
returns-in-Nobody c = search rules

pub returns-in-Reads : goal.returns-in-Reads
unfolding opened
returns-in-Reads c = search rules

pub returns-in-Writes-Memory : goal.returns-in-Writes-Memory
unfolding opened
returns-in-Writes-Memory c = search rules

pub returns-in-Writes-Companion : goal.returns-in-Writes-Companion
unfolding opened
returns-in-Writes-Companion c = search rules
