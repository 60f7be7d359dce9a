-- SPDX-License-Identifier: Apache-2.0
-- The list run's outcome, without the count.
use mathlib.Core.Path.{ap}
use Rattle.bus_list.specs.Outcome.{numbered}
use Rattle.c_run_number.proofs.fm3130_run_number.Goals as goal

pub returns : goal.returns
returns c = ap numbered c.fm3130_run.ensures
