-- SPDX-License-Identifier: Apache-2.0
-- A state with another companion, and after a Clock in a phase. Auxiliary to the contracts of the crates that do an
-- event where the device lies.
use Rattle.std.specs.Prelude.{ℕ, Bool, List}
use Rattle.wire.specs.Machine.{Out, clocked}
use Rattle.wire.specs.Memory.{lent}
use Rattle.wire.specs.declared.Phase.{Phase}
use Rattle.fm3130_companion.specs.declared.Companion.{Companion}
use Rattle.fm3130.specs.Chip.{fm3130, Done}
use Rattle.fm3130.specs.declared.State.{State}

abbrev pub with_companion : State → Companion → State
with_companion s c = record { power = s.power; phase = s.phase; address = s.address; companion = c }

abbrev pub power_kept : State → Out fm3130 → Done
power_kept s o =
    record {
      state =
          record {
            power = s.power;
            phase = o.state.phase;
            address = o.state.memory.address;
            companion = o.state.companion;
          };
      memory = o.state.memory.bytes;
      line = o.line;
    }

-- A Clock in a phase: the machine's, with the state's own power.
abbrev pub clocked_with : State → List ℕ → Phase → Bool → Done
clocked_with s m p high = power_kept s (clocked fm3130 p (lent m s.address) s.companion high)
