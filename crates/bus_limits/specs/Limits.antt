-- SPDX-License-Identifier: Apache-2.0
-- The limits of all of a part but its companion, over the size and the companion's first and last address (01,
-- Entries).
use Rattle.std.specs.Prelude.{ℕ, Bool, true, false, ◌&&◌, ltb, leb}
use Rattle.wire.specs.Limits.{phase_within}
use Rattle.wire.specs.declared.Phase.{Phase}
use Rattle.wire.specs.declared.Phase.TheVariants.{Idle, Slave, AddressHigh, AddressLow, Pointer, Write, Read}
use Rattle.bus.specs.Select.{slave_names_for}
use Rattle.bus.specs.declared.Power.{Power}
use Rattle.bus.specs.declared.Power.TheVariants.{On, Backup, Off}
use Rattle.bus.specs.declared.Bus.{Bus}

-- The companion addresses that are acknowledged.
abbrev pub is_between : ℕ → ℕ → ℕ → Bool
is_between first last b = leb first b && leb b last

abbrev pub is_idle : Phase → Bool
is_idle Idle = true
is_idle (Slave k b) = false
is_idle (AddressHigh k b) = false
is_idle (AddressLow h k b) = false
is_idle (Pointer k b) = false
is_idle (Write s k b) = false
is_idle (Read s k b) = false

-- A transfer exists only while main power is present.
unfoldable pub power_within : Power → Phase → Bool
power_within On p = true
power_within Backup p = is_idle p
power_within Off p = is_idle p

-- "A memory address below that size"; "clocks within a byte 0 to 8".
unfoldable pub bus_within : ℕ → ℕ → ℕ → ℕ → Bus → Bool
bus_within size select first last u =
    ltb u.address size && phase_within (slave_names_for select) (is_between first last) u.phase && power_within
    u.power u.phase
