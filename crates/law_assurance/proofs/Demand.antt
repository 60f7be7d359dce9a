-- SPDX-License-Identifier: Apache-2.0
-- A session is the list of its answered events: an act adds its events at the end of what was done. Demand 3 is then that
-- of the lists.
use Prim.Native.Nat.{ℕ}
use mathlib.Core.Path.{◌≡◌, refl, sym, ap, ◌∙◌}
use mathlib.Core.Bool.{Bool, true, false, cond}
use mathlib.Core.List.{List, [], ◌∷◌, ◌++◌}
use Rattle.fm3130_list.specs.Run.{following, run_of}
use Rattle.fm3130_list.specs.Held.{held}
use Rattle.fm3130_list.proofs.Pieces.{run_append}
use Rattle.law_isolation.proofs.Demand3.{demand_three}
use Rattle.law_assurance.specs.Session.{World, Act, asks, calls, begin, is_answered, ran_on, after_act, answered_of, session_of}
use Rattle.law_assurance.specs.Demand.{SessionAsList, DemandThreeOfSessions}

-- one call, answered or not, and the session after it
called : (b : Bool) (w : World) (es : List ℕ) (l : List Act)
    → session_of (cond b (ran_on w es) w) l
    ≡ run_of (cond b (ran_on w es) w).state (cond b (ran_on w es) w).memory (answered_of (cond b (ran_on w es) w) l)
    → following (cond b (run_of w.state w.memory es).answers []) (session_of (cond b (ran_on w es) w) l)
    ≡ run_of w.state w.memory (cond b es [] ++ answered_of (cond b (ran_on w es) w) l)
called true w es l h =
    ap (following (run_of w.state w.memory es).answers) h
    ∙ sym (run_append w.state w.memory es (answered_of (ran_on w es) l))
called false w es l h = ap (following []) h

pub session_as_list : SessionAsList
unfolding run_of
session_as_list w [] = refl
session_as_list w (asks x ∷ l) = ap (following []) (session_as_list (after_act w (asks x)) l)
session_as_list w (calls x es ∷ l) =
    called (is_answered w.holder x es) w es l (session_as_list (after_act w (calls x es)) l)

pub demand_three_of_sessions : DemandThreeOfSessions
demand_three_of_sessions s m xs ys l one two both on idle first second merge steady p q r =
    let w = begin s m in
    rw (session_as_list w one, session_as_list w two, session_as_list w both, p, q, r)
    (demand_three (held s m) xs ys l on idle first second merge steady)
