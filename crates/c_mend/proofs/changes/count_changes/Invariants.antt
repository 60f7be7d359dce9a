-- SPDX-License-Identifier: Apache-2.0
-- `c_mend::changes::count_changes` meets its contract. The loop's invariant: what was counted is the count of the places before.
use Rattle.std.proofs.Common.{◌≡◌, ◌≤◌, ◌==◌, not, count_by, length, zip, take}
use Rattle.c_mend.proofs.changes.count_changes.Given as goal

abbrev pub invariant-loop-i : goal.invariant-loop-i
invariant-loop-i l =
    (l.i ≤ length l.before) × (l.count ≤ l.i)
    × (l.count ≡ count_by (λ p. not (p.0 == p.1)) (take l.i (zip l.before l.after)))
