-- SPDX-License-Identifier: Apache-2.0
-- `wire_clocks::lay::lay_byte` meets its contract: the nine Clocks, laid as a list.
use Rattle.wire_clocks.proofs.lay.lay_byte.Goals as goal

pub returns : goal.returns
returns c = rw c.nine_clocks-clocks.ensures at c.lay.ensures
