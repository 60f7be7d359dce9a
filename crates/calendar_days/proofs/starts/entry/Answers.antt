-- SPDX-License-Identifier: Apache-2.0
-- `calendar_days::starts::entry` meets its contract: the month's place in the row of its year.
use Prim.Native.Nat.{◌/◌}
use native.Mathlib.Omega.{arith}
use Rattle.calendar_days.proofs.StartTable.{row_at, entry_by_row}
use Rattle.calendar_days.proofs.starts.entry.Goals as goal

pub returns : goal.returns
returns c =
    entry_by_row c.args.month _ _ c.requires (row_at _ c.starts.ensures (c.args.month / 12) (omega (arith, c.requires)))
    c.from.ensures
