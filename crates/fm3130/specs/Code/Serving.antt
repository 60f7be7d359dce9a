-- SPDX-License-Identifier: Apache-2.0
-- The field of the calendar that what an event asks of the companion says. Auxiliary: what the code returns below an event.
use Rattle.std.specs.Prelude.{unwrap_or}
use Rattle.calendar.specs.declared.Rolled.{Rolled}
use Rattle.calendar.specs.declared.Rolled.TheVariants.{Nothing}
use Rattle.bus_deeds.specs.Serve.{told_by}
use Rattle.bus_deeds.specs.declared.Deed.{Deed}
use Rattle.fm3130_companion.specs.Part.{rolled_of}
use Rattle.fm3130_companion.specs.declared.Companion.{Companion}

-- A tick says a field; nothing else that is asked does.
abbrev pub said_by : Deed → Companion → Rolled
said_by q c = unwrap_or (told_by (λ t c. rolled_of c) q c) Nothing
