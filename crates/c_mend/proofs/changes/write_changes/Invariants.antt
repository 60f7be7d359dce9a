-- SPDX-License-Identifier: Apache-2.0
-- `c_mend::changes::write_changes` meets its contract. The loop's invariant: what was written and what is still to come are
-- the whole list.
use Prim.Native.Nat.{◌≤◌, ◌+◌}
use lib.ListN.{length, drop}
use Rattle.c_mend.specs.Changes.{changes_from}
use Rattle.c_mend.proofs.Listing.{Going}
use Rattle.c_mend.proofs.changes.write_changes.Given as goal

abbrev pub invariant-loop-i : goal.invariant-loop-i
invariant-loop-i l =
    (l.i ≤ length l.before)
    × Going l.initial.changes (changes_from 2 l.before l.after) l.changes l.at (changes_from (l.i + 2) (drop l.i l.before) (drop l.i l.after))
