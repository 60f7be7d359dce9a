-- SPDX-License-Identifier: Apache-2.0
-- One state stands in a local through all turns, and is lent to `hear_in_place` for each of them. What is known before
-- a turn, and why it is known after it, is `Turns.antt`.
use Rattle.fm31_run.proofs.Turns.{Known}
use Rattle.fm31_run.proofs.list.run_at.Given as goal

abbrev pub invariant-loop-i : goal.invariant-loop-i
invariant-loop-i l = Known l.seat l.fn.state l.fn.memory l.events l.fn.answers l.at l.memory l.answers l.i
