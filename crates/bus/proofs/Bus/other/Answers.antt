-- SPDX-License-Identifier: Apache-2.0
-- An event that is no Clock, under each supply: those that change something one by one, the others together.
use Rattle.std.proofs.Common.{rules}
use Rattle.wire.specs.Machine.{lined}
use Rattle.bus.specs.Happening.{happening, edges}
use Rattle.bus.specs.Event.{event_on}
use Rattle.bus.proofs.Cases.{at_power}
use Rattle.bus.proofs.Cases.{below_ten, same_on, same_backup, same_off}
use Rattle.bus.proofs.Bus.other.Goals as goal
use Rattle.bus.proofs.Bus.other.Goals.{in-Backup+in-7-1, in-Off+in-7-1}
use Rattle.bus.proofs.Bus.other.Goals.{in-On+in-6-1, in-Backup+in-6-1}

pub returns-in-On-eq0 : goal.returns-in-On-eq0
unfolding happening event_on lined
returns-in-On-eq0 c = λ size z g y m. rw (c.with_phase.ensures, c.in-On-eq0.is-1, c.in-On-eq0.is-0)

pub returns-in-On-eq1 : goal.returns-in-On-eq1
unfolding happening event_on lined
returns-in-On-eq1 c = λ size z g y m. rw (c.with_phase-in-On-eq1.ensures, c.in-On-eq1.is-1, c.in-On-eq1.is-0)

pub returns-in-On-eq5 : goal.returns-in-On-eq5
unfolding happening event_on lined
returns-in-On-eq5 c = λ size z g y m. rw (c.resting.ensures, c.in-On-eq5.is-1, c.in-On-eq5.is-0)

pub returns-in-On-eq6 : goal.returns-in-On-eq6
unfolding happening event_on
returns-in-On-eq6 c =
    λ size z g y m.
    elim c.in-On-eq6-1.branch [ in-On+in-6-1 w ↦ search rules | in-Backup+in-6-1 w ↦ search rules ]

pub returns-in-Backup-eq7 : goal.returns-in-Backup-eq7
unfolding happening event_on
returns-in-Backup-eq7 c =
    λ size z g y m.
    elim c.in-Backup-eq7-1.branch [ in-Backup+in-7-1 w ↦ search rules | in-Off+in-7-1 w ↦ search rules ]

pub returns-in_default : goal.returns-in_default
returns-in_default c =
    let a = c.args in let p = c.requires in let n = c.in_default.is-1 in
    λ size z g y m. at_power size z g y a.self m (happening edges a.event) c.in_default.is-0
    (same_on size z g y a.self m a.event (below_ten _ p.0) p.1 n.0.0.0.1 n.0.0.1 n.0.1 n.1)

pub returns-in_default-2 : goal.returns-in_default-2
returns-in_default-2 c =
    let a = c.args in let p = c.requires in let n = c.in_default.is-1 in
    λ size z g y m. at_power size z g y a.self m (happening edges a.event) c.in_default.is-0
    (same_backup size z g y a.self m a.event (below_ten _ p.0) p.1 n.0.1 n.1)

pub returns-in_default-3 : goal.returns-in_default-3
returns-in_default-3 c =
    let a = c.args in let p = c.requires in let n = c.in_default.is-1 in
    λ size z g y m. at_power size z g y a.self m (happening edges a.event) c.in_default.is-0
    (same_off size z g y a.self m a.event (below_ten _ p.0) p.1 n.1)
