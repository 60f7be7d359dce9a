-- SPDX-License-Identifier: Apache-2.0
-- Demand 3 of two masters (02, number 8: "Demand 3's lists may come from both masters and hold the events of answered
-- calls"): a session leaves and answers what the list of its answered events does, whoever made the calls and however the
-- list was cut into them. So demand 3 holds of sessions.
--   SessionAsList           a session is the list of its answered events
--   DemandThreeOfSessions   demand 3 of three sessions
use Rattle.std.specs.Prelude.{ℕ, ◌≡◌, List}
use Rattle.wire.specs.declared.Side.TheVariants.{Memory, Companion}
use Rattle.wire.specs.declared.Phase.TheVariants.{Idle}
use Rattle.bus.specs.declared.Power.TheVariants.{On}
use Rattle.fm3130.specs.Chip.{fm3130}
use Rattle.fm3130.specs.declared.State.{State}
use Rattle.fm3130_list.specs.Run.{run_of}
use Rattle.fm3130_list.specs.Held.{Ran, held, ran_by}
use Rattle.law_merging.specs.Merge.{events_of}
use Rattle.law_merging.specs.Party.{to, BusEvent, PartyEvent, Whole}
use Rattle.law_merging.specs.Demand.{Merge}
use Rattle.law_isolation.specs.Demand3.{bytes_of, WritesSteadyIn, Demanded}
use Rattle.law_assurance.specs.Session.{World, Act, begin, answered_of, session_of}

abbrev pub SessionAsList : Type 0
SessionAsList = (w : World) (l : List Act) → session_of w l ≡ run_of w.state w.memory (answered_of w l)

-- Demand 3 of what three sessions leave and answer, the third with a merge of the lists of the first two, whoever made
-- the calls of each.
abbrev pub DemandThreeOfSessions : Type 0
DemandThreeOfSessions =
    (s : State) (m : List ℕ) (xs ys : List (BusEvent fm3130)) (l : List (PartyEvent fm3130)) (one two both : List Act)
    → s.power ≡ On → s.phase ≡ Idle
    → Whole fm3130 (to Memory) xs → Whole fm3130 (to Companion) ys → Merge fm3130 xs ys l → WritesSteadyIn (held s m) ys
    → answered_of (begin s m) one ≡ bytes_of xs
    → answered_of (begin s m) two ≡ bytes_of ys
    → answered_of (begin s m) both ≡ bytes_of (events_of l)
    → let ran : List Act → Ran = λ acts. ran_by (session_of (begin s m) acts) in
    Demanded (ran one) (ran two) (ran both) l
