-- SPDX-License-Identifier: Apache-2.0
-- Bus events that the device does not hear.
--   masters_bit, unchanged          the master's line in an event; an event that leaves all as it was
--   OffUnheard, OutsideUnheard     the statements
use Rattle.std.specs.Prelude.{ℕ, ◌<◌, ◌≡◌, Bool, not, List, eqb}
use Rattle.wire.specs.declared.Phase.TheVariants.{Idle}
use Rattle.bus.specs.declared.Power.TheVariants.{On}
use Rattle.fm3130.specs.Chip.{Done}
use Rattle.fm3130.specs.Event.{event_of}
use Rattle.fm3130.specs.declared.State.{State}
use Rattle.law_table.specs.Stored.{clock_event}

-- "2 Clock with the master's data line low"; in no other event is it low.
abbrev pub masters_bit : ℕ → Bool
masters_bit e = not (eqb e 2)

-- Auxiliary: state and memory are as they were, and the line is as said.
abbrev pub unchanged : State → List ℕ → Bool → Done
unchanged s m line = record { state = s; memory = m; line = line }

-- 01, Ticks, alarm, power: "While off, bus events do nothing and a Clock's line is the master's." Events 0 to 3, on
-- backup and with no supply.
abbrev pub OffUnheard : Type 0
OffUnheard =
    (s : State) (m : List ℕ) (e : ℕ) → (s.power ≡ On → ⊥) → e < 4 → event_of s m e ≡ unchanged s m (masters_bit e)

-- 01, Transfers: "A Clock outside a transfer, or after it has ended, changes nothing and its line is the master's."
abbrev pub OutsideUnheard : Type 0
OutsideUnheard =
    (s : State) (m : List ℕ) (d : Bool) → s.phase ≡ Idle → event_of s m (clock_event d) ≡ unchanged s m d
