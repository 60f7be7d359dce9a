-- SPDX-License-Identifier: Apache-2.0
-- The events that fall while a transfer goes on, as the machine has them: a Clock, a tick, and a return of power that is
-- there already.
use Prim.Native.Nat.{ℕ}
use mathlib.Core.Path.{◌≡◌}
use mathlib.Core.Bool.{Bool, true, false}
use mathlib.Core.List.{List}
use Rattle.wire.specs.Memory.{lent}
use Rattle.wire.specs.Machine.{clocked, lined}
use Rattle.bus.specs.declared.Power.TheVariants.{On}
use Rattle.fm3130_companion.specs.Part.{tick_of}
use Rattle.fm3130.specs.Chip.{fm3130, done_of}
use Rattle.fm3130.specs.Code.Bus.{with_companion}
use Rattle.fm3130.specs.Event.{happening, event_on, event_of}
use Rattle.fm3130.specs.declared.State.{State}
use Rattle.fm3130.proofs.Cases.{still}
use Rattle.law_table.specs.Stored.{clock_event}

module _ (s : State) (m : List ℕ) (on : s.power ≡ On) where
  pub clock_event_lem : (d : Bool)
      → event_of s m (clock_event d) ≡ done_of (clocked fm3130 s.phase (lent m s.address) s.companion d)
  unfolding happening event_on lined
  clock_event_lem true = rw on
  clock_event_lem false = rw on

  pub tick_event : event_of s m 4 ≡ still (with_companion s (tick_of s.companion)) m
  unfolding happening event_on
  tick_event = rw on

  pub power_event : event_of s m 7 ≡ still s m
  unfolding happening event_on
  power_event = rw on
