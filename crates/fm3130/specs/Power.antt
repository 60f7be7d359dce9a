-- SPDX-License-Identifier: Apache-2.0
-- The supplies (01, Ticks, alarm, power): those of every part, and the fresh state.
--   is_supplied, fresh   a supply is present; the fresh state
pub use Rattle.bus.specs.Event.{is_supplied}
use Rattle.bus.specs.Event.{resting}
use Rattle.bus.specs.declared.Power.TheVariants.{On}
use Rattle.fm3130_companion.specs.Part.{lost_of}
use Rattle.fm3130.specs.Chip.{state_with}
use Rattle.fm3130.specs.declared.State.{State}

-- "The fresh state has these registers and core, power on, no transfer, both addresses 0."
abbrev pub fresh : State
fresh = state_with (resting On) lost_of
