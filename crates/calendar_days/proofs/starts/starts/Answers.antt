-- SPDX-License-Identifier: Apache-2.0
-- `calendar_days::starts::starts` meets its contract: the static passes the table's test, which is computed here, once over all
-- of it.
use mathlib.Core.Path.{refl}
use Rattle.calendar.specs.Month.{month_length}
use Rattle.calendar_days.specs.Table.{entries, climbs}
use Rattle.calendar_days.proofs.starts.starts.Goals as goal

pub returns : goal.returns
unfolding entries climbs month_length
returns c = record { years = refl; months = tt; climb = tt; last = refl }
