-- SPDX-License-Identifier: Apache-2.0
-- What an event that is no Clock makes of the state that lies in an image: it touches no memory.
use Rattle.std.specs.Prelude.{[]}
use Rattle.fm3130.specs.Event.{Happening, event_on}
use Rattle.fm3130.specs.declared.State.{State}

abbrev pub quiet_of : Happening → State → State
quiet_of x s = (event_on s.power x s []).state
