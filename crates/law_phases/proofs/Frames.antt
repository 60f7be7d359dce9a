-- SPDX-License-Identifier: Apache-2.0
-- Start and Stop whatever is under way: on main power the machine's, which do not look at the phase. The four slave bytes
-- compute; the line is bit 0 of an answer, which is twice the pin's number and the line.
use Prim.Native.Nat.{ℕ, ◌+◌, ◌*◌, ◌%◌}
use mathlib.Core.Path.{◌≡◌, refl}
use native.Mathlib.Omega.{arith}
use Rattle.wire.specs.Bits.{pushed, place_at}
use Rattle.wire.specs.Slave.{slave_names, answers, opened}
use Rattle.wire.specs.Clock.{kept, received_at}
use Rattle.wire.specs.Machine.{clocked, lined}
use Rattle.fm3130.specs.Event.{happening, event_on}
use Rattle.fm3130_list.specs.Run.{run_of}
use Rattle.law_phases.specs.Frames.{StartBegins, StopEnds, EverySlaveOpens, StartForgets, StopForgets}

pub start_begins : StartBegins
unfolding run_of happening event_on lined
start_begins q a c m = record { state = refl; memory = refl }

pub stop_ends : StopEnds
unfolding run_of happening event_on lined
stop_ends q a c m = record { state = refl; memory = refl }

pub start_forgets : StartForgets
unfolding run_of happening event_on lined
start_forgets q q' a c m es = refl

pub stop_forgets : StopForgets
unfolding run_of happening event_on lined
stop_forgets q q' a c m es = refl

line_low : (n : ℕ) → (2 * n + 0) % 2 ≡ 0
line_low n = omega arith

pub every_slave_opens : EverySlaveOpens
unfolding run_of happening event_on lined clocked received_at place_at pushed slave_names answers opened kept
every_slave_opens q a c m =
    record {
      memory_write = record { state = refl; memory = refl; acknowledged = line_low _ };
      memory_read = record { state = refl; memory = refl; acknowledged = line_low _ };
      companion_write = record { state = refl; memory = refl; acknowledged = line_low _ };
      companion_read = record { state = refl; memory = refl; acknowledged = line_low _ };
    }
