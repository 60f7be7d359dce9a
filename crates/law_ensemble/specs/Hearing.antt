-- SPDX-License-Identifier: Apache-2.0
-- What a device of a set hears (D169). Here each device hears the master; on wires it hears the line, which another device or it
-- itself may pull low. In a set as a made one stands that makes no difference.
use Rattle.std.specs.Prelude.{◌≡◌, Bool}
use Rattle.law_parts.specs.Events.{clock_event}
use Rattle.set_event.specs.Set.{Together, Place, at, after_own, after_event, line_to}
use Rattle.law_ensemble.specs.Transaction.{Here, Unlike}
use Rattle.law_ensemble.specs.Stand.{Stands}

-- After a Clock each device is as if it had heard the line of the set in place of the master's.
abbrev pub HearsTheLine : Type 0
HearsTheLine =
    (t : Together) (v : Place) (d : Bool) → Unlike t → Stands t → Here t v
    → at v (after_event t (clock_event d)) ≡ after_own (at v t) (clock_event (line_to t (clock_event d)))
