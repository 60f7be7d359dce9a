-- SPDX-License-Identifier: Apache-2.0
-- How the devices of a set stand that may be inside a transfer: what a list run asks (`stand_together`) is true of every
-- set that was made, and no event ends it. So a set that was made is never refused by number 11 in a later run.
--   Stands         each two devices are clear of each other, and one without main power is idle
--   MadeStands     a set that is not refused when it is made
--   RunStands      a set that a list run does not refuse: the limits of its devices ask the second
--   StandsOn       after every list of events
--   MadeRunsOn     what a made set has after every list of events
use Rattle.std.specs.Prelude.{ℕ, ◌≡◌, true, List}
use Rattle.bus_limits.specs.Limits.{power_within}
use Rattle.bus.specs.declared.Bus.{Bus}
use Rattle.set_event.specs.Set.{Held, Together, Place, at, after_events}
use Rattle.set_event.specs.Make.{is_within, places_are, selects_differ, make_number}
use Rattle.set_event.specs.Stand.{stand_together}
use Rattle.law_ensemble.specs.Transaction.{Here, Unlike}

abbrev pub bus_in : Held → Bus
bus_in h = h.member.state.bus

pub record Stands (t : Together) : Type 0 where
  pub together : stand_together t ≡ true
  pub powered : (v : Place) → Here t v → power_within (bus_in (at v t)).power (bus_in (at v t)).phase ≡ true

abbrev pub MadeStands : Type 0
MadeStands = (t : Together) → make_number t ≡ 0 → Stands t

abbrev pub RunStands : Type 0
RunStands =
    (t : Together) → places_are is_within t ≡ true → selects_differ t ≡ true → stand_together t ≡ true
    → Unlike t × Stands t

abbrev pub StandsOn : Type 0
StandsOn = (t : Together) (es : List ℕ) → Unlike t → Stands t → Stands (after_events t es)

abbrev pub MadeRunsOn : Type 0
MadeRunsOn = (t : Together) (es : List ℕ) → make_number t ≡ 0 → stand_together (after_events t es) ≡ true
