-- SPDX-License-Identifier: Apache-2.0
-- By the low digit.
use Rattle.std.proofs.Common.{eq-eqb, ne_eqb}
use Rattle.place_tick.specs.Code.Tick.{one_more}
use Rattle.place_tick.proofs.one_more.Goals as goal

pub returns-then-byte-eq9 : goal.returns-then-byte-eq9
unfolding one_more
returns-then-byte-eq9 c = rw (eq-eqb _ _ c.if-byte-eq9.true) c.wrapping_add_u8.ensures.value

pub returns : goal.returns
unfolding one_more
returns c = rw (ne_eqb _ _ c.if-byte-eq9.false) c.wrapping_add_u8-2.ensures.value
