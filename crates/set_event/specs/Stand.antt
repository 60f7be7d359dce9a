-- SPDX-License-Identifier: Apache-2.0
-- Which transfers can be under way in a set at the same time: what a list run asks of a set that may be inside a
-- transfer. That a device without main power is in none is asked by its limits (`is_within`).
--   is_in_slave_byte              a device takes this slave byte, so far
--   are_clear, stand_clear       two transfers, two devices
--   stand_together              each two devices on the line
use Rattle.std.specs.Prelude.{ℕ, Bool, true, false, ◌&&◌, ◌||◌, eqb, ltb}
use Rattle.wire.specs.declared.Phase.{Phase}
use Rattle.wire.specs.declared.Phase.TheVariants.{Idle, Slave, AddressHigh, AddressLow, Pointer, Write, Read}
use Rattle.bus_limits.specs.Limits.{is_idle}
use Rattle.set_event.specs.Set.{Held, Together}
use Rattle.set_event.specs.Make.{pairs_are}

-- Auxiliary: in a slave byte of which so many clocks are done, with these bits.
abbrev pub is_in_slave_byte : ℕ → ℕ → Phase → Bool
is_in_slave_byte k b Idle = false
is_in_slave_byte k b (Slave l c) = eqb l k && eqb c b
is_in_slave_byte k b (AddressHigh l c) = false
is_in_slave_byte k b (AddressLow h l c) = false
is_in_slave_byte k b (Pointer l c) = false
is_in_slave_byte k b (Write s l c) = false
is_in_slave_byte k b (Read s l c) = false

-- Of two devices one is idle; or both take the same slave byte, which has not named one of them yet. All devices
-- hear the same line, and a whole slave byte names one device at most: so no made set comes to stand otherwise, and
-- of two devices that stand otherwise one could send a byte over what the other hears.
abbrev pub are_clear : Phase → Phase → Bool
are_clear Idle q = true
are_clear (Slave k b) q = is_idle q || (ltb k 8 && is_in_slave_byte k b q)
are_clear (AddressHigh k b) q = is_idle q
are_clear (AddressLow h k b) q = is_idle q
are_clear (Pointer k b) q = is_idle q
are_clear (Write s k b) q = is_idle q
are_clear (Read s k b) q = is_idle q

abbrev pub stand_clear : Held → Held → Bool
stand_clear a b = are_clear a.member.state.bus.phase b.member.state.bus.phase

-- What a list run asks of a set that may be inside a transfer.
abbrev pub stand_together : Together → Bool
stand_together t = pairs_are stand_clear t
