-- SPDX-License-Identifier: Apache-2.0
-- What two masters do, one act after another, on a state and its memory. A call stands here by its events: its image,
-- memory and answers are in order, so that its number is 3, 7 or 0 (one that is refused otherwise changes nothing). That
-- the two entries do exactly this is `AsTheEntries`.
--   World, Act, begin                       who holds the bus, the state, the memory; an act; where a session begins
--   is_answered, call_number                  what comes of a call
--   after_act, after_acts                     the acts one by one
--   answered_in, answered_of                  the events of answered calls
--   answers_in, session_of                    what a session leaves, and all its answers
--   neithers, own_in, own_of                  the events of one master, with those that belong to neither
use Rattle.std.specs.Prelude.{ℕ, Bool, cond, ◌&&◌, List, [], ◌∷◌, ◌++◌, None}
use Rattle.numbers.specs.Numbers.{accepted, unknown_event, not_held}
use Rattle.fm3130.specs.Event.{happening}
use Rattle.fm3130.specs.declared.State.{State}
use Rattle.fm3130_list.specs.Run.{Ended, following, run_of, all_known}
use Rattle.masters_hold.specs.Bus.{Holder, same_master, after_ask, is_bus, may_call, holder_after}
use Rattle.masters_hold.specs.declared.Master.{Master}

pub record World : Type 0 where
  pub holder : Holder
  pub state : State
  pub memory : List ℕ

pub data Act : Type 0 where
  asks : Master → Act
  calls : Master → List ℕ → Act

-- Nobody holds the bus.
abbrev pub begin : State → List ℕ → World
begin s m = record { holder = None; state = s; memory = m }

abbrev pub is_answered : Holder → Master → List ℕ → Bool
is_answered g x es = all_known es && may_call g x es

abbrev pub call_number : Holder → Master → List ℕ → ℕ
call_number g x es = cond (all_known es) (cond (may_call g x es) accepted not_held) unknown_event

-- Auxiliary: after an answered call.
abbrev pub ran_on : World → List ℕ → World
ran_on w es =
    let r = run_of w.state w.memory es in
    record { holder = holder_after w.holder es; state = r.state; memory = r.memory }

abbrev pub after_act : World → Act → World
after_act w (asks x) = record { holder = after_ask w.holder x; state = w.state; memory = w.memory }
after_act w (calls x es) = cond (is_answered w.holder x es) (ran_on w es) w

abbrev pub after_acts : World → List Act → World
after_acts w [] = w
after_acts w (x ∷ l) = after_acts (after_act w x) l

-- "The events of answered calls": what demand 3's lists hold.
abbrev pub answered_in : World → Act → List ℕ
answered_in w (asks x) = []
answered_in w (calls x es) = cond (is_answered w.holder x es) es []

abbrev pub answered_of : World → List Act → List ℕ
answered_of w [] = []
answered_of w (x ∷ l) = answered_in w x ++ answered_of (after_act w x) l

-- The answers that were given to them.
abbrev pub answers_in : World → Act → List ℕ
answers_in w (asks x) = []
answers_in w (calls x es) = cond (is_answered w.holder x es) (run_of w.state w.memory es).answers []

-- What a session leaves, and all its answers, one after another.
abbrev pub session_of : World → List Act → Ended
session_of w [] = record { state = w.state; memory = w.memory; answers = [] }
session_of w (x ∷ l) = following (answers_in w x) (session_of (after_act w x) l)

-- "Ticks and power events belong to neither."
abbrev pub neithers : List ℕ → List ℕ
neithers [] = []
neithers (e ∷ es) = cond (is_bus (happening e)) (neithers es) (e ∷ neithers es)

-- Of one act: a master's own events in an answered call of its own; of the other's, those that belong to neither.
abbrev pub own_in : Master → World → Act → List ℕ
own_in me w (asks x) = []
own_in me w (calls x es) = cond (is_answered w.holder x es) (cond (same_master me x) es (neithers es)) []

abbrev pub own_of : Master → World → List Act → List ℕ
own_of me w [] = []
own_of me w (x ∷ l) = own_in me w x ++ own_of me (after_act w x) l
