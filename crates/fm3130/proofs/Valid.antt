-- SPDX-License-Identifier: Apache-2.0
-- Every event keeps a valid core valid, whatever the state and the memory (02, number 6). The bus events and the tick are
-- the machine's law at the FM3130; the others by cases on the supply.
use Prim.Native.Nat.{ℕ}
use mathlib.Core.List.{List}
use Rattle.wire.specs.Memory.{lent}
use Rattle.wire.specs.Machine.{line}
use Rattle.wire.specs.Machine as Machine
use Rattle.wire.proofs.Desk.{DeskKeeps, step_desk}
use Rattle.bus.specs.declared.Power.{Power}
use Rattle.bus.specs.declared.Power.TheVariants.{On, Backup, Off}
use Rattle.fm3130_companion.proofs.Valid.{CoreValid, aim_valid, store_valid, loaded_valid, tick_valid, lost_valid, returned_valid}
use Rattle.fm3130.specs.Chip.{fm3130}
use Rattle.fm3130.specs.Power.{fresh}
use Rattle.fm3130.specs.Event.{Happening, on_wire, beat, lost, gone, returned, happening, event_on, event_of}
use Rattle.fm3130.specs.declared.State.{State}

fm3130_valid : DeskKeeps fm3130 CoreValid
fm3130_valid = record { aim = aim_valid; store = store_valid; loaded = loaded_valid; ticked = λ t. tick_valid }

-- a state with the lent memory, as the machine has it
abbrev machine_of : State → List ℕ → Machine.State fm3130
machine_of s m = record { phase = s.phase; memory = lent m s.address; companion = s.companion }

module _ (s : State) (m : List ℕ) (v : CoreValid s.companion) where
  event_on_lem : (p : Power) (x : Happening) → CoreValid (event_on p x s m).state.companion
  unfolding event_on
  event_on_lem On (on_wire x) = step_desk fm3130 CoreValid fm3130_valid (machine_of s m) (line x) v
  event_on_lem On (beat t) = tick_valid s.companion v
  event_on_lem On lost = v
  event_on_lem On gone = lost_valid
  event_on_lem On returned = v
  event_on_lem Backup (on_wire x) = v
  event_on_lem Backup (beat t) = tick_valid s.companion v
  event_on_lem Backup lost = v
  event_on_lem Backup gone = lost_valid
  event_on_lem Backup returned = returned_valid s.companion v
  event_on_lem Off (on_wire x) = v
  event_on_lem Off (beat t) = v
  event_on_lem Off lost = v
  event_on_lem Off gone = v
  event_on_lem Off returned = v

pub event_valid : (s : State) (m : List ℕ) (e : ℕ) → CoreValid s.companion → CoreValid (event_of s m e).state.companion
event_valid s m e v = event_on_lem s m v s.power (happening e)

pub fresh_valid : CoreValid fresh.companion
fresh_valid = lost_valid
