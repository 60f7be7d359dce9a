-- SPDX-License-Identifier: Apache-2.0
-- One event on a state and the lent memory (01, Event bytes and answer bytes; Ticks, alarm, power): that of the part.
--   Happening, happening   what an event byte says
--   event_on                an event, by the supplies that are present
--   event_of                an event byte
--   rolled_by, rolled_in     the field of the calendar that an event, an event byte, says changed
use Rattle.std.specs.Prelude.{ℕ, cond, List}
use Rattle.wire.specs.Slave.{slave_names}
use Rattle.calendar.specs.declared.Rolled.{Rolled}
use Rattle.calendar.specs.declared.Rolled.TheVariants.{Nothing}
use Rattle.bus.specs.Happening as part
use Rattle.bus.specs.Event as bus
pub use Rattle.bus.specs.Happening.{Happening, on_wire, beat, lost, gone, returned}
use Rattle.bus.specs.declared.Beat.TheVariants.{Second}
use Rattle.bus.specs.declared.Power.{Power}
use Rattle.fm3130_companion.specs.Part.{rolled_of}
use Rattle.fm3130.specs.Desk.{companion30}
use Rattle.fm3130.specs.Chip.{memory_size, Done, bus_of, done_with}
use Rattle.fm3130.specs.Power.{is_supplied}
use Rattle.fm3130.specs.declared.State.{State}

-- What an event byte says to the FM3130.
unfoldable pub happening : ℕ → Happening
unfolding part.happening
happening e = part.happening companion30.beyond e

-- "4 one-second tick".
abbrev pub second : Happening
second = beat Second

-- Each event under each supply, as of every part.
unfoldable pub event_on : Power → Happening → State → List ℕ → Done
unfolding bus.event_on
event_on p x s m = done_with (bus.event_on memory_size slave_names companion30 p x (bus_of s) s.companion m)

abbrev pub event_of : State → List ℕ → ℕ → Done
event_of s m e = event_on s.power (happening e) s m

-- 02, number 4: "Let the tick itself say the highest field that changed .. A tick that does not count .. says nothing";
-- no other event says a field.
unfoldable pub rolled_by : Happening → State → Rolled
rolled_by (on_wire x) s = Nothing
rolled_by (beat t) s = cond (is_supplied s.power) (rolled_of s.companion) Nothing
rolled_by lost s = Nothing
rolled_by gone s = Nothing
rolled_by returned s = Nothing

abbrev pub rolled_in : State → ℕ → Rolled
rolled_in s e = rolled_by (happening e) s
