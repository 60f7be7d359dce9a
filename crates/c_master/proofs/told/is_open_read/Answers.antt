-- SPDX-License-Identifier: Apache-2.0
-- `c_master::told::is_open_read` meets its contract: one acknowledge more.
use Rattle.c_master.proofs.told.is_open_read.Goals as goal

pub returns : goal.returns
returns c = rw (c.is_low.ensures, c.is_open.ensures)
