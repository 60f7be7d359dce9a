-- SPDX-License-Identifier: Apache-2.0
-- `set_event::hear::hears` meets its contract.
use Rattle.std.proofs.Common.{rules}
use Rattle.set_event.specs.Set.{hears}
use Rattle.set_event.proofs.hear.hears.Goals as goal

pub returns : goal.returns
unfolding hears
returns c = search rules
