-- SPDX-License-Identifier: Apache-2.0
-- `c_lamps::run::part` meets its contract.
use Rattle.c_lamps.proofs.run.part.Goals as goal

pub returns : goal.returns
returns c = record { ran = c.row.ensures.ran; proving = c.row.ensures.proving c.args.proving.lamps }
