-- SPDX-License-Identifier: Apache-2.0
-- The record by value: what it keeps, and what an event makes of it. The code's contracts cite this; what it is worth is
-- said by specs/Statement.
--   at_rest, followed      the byte under way
--   step_of, report_of      the record
use Rattle.std.specs.Prelude.{ℕ, Bool, false, cond, not, ◌&&◌, eqb}
use Rattle.wire.specs.Bits.{pushed}
use Rattle.wire.specs.Machine.{start, stop, clock}
use Rattle.wire.specs.declared.Side.TheVariants.{Memory, Companion}
use Rattle.wire.specs.declared.Phase.{Phase}
use Rattle.wire.specs.declared.Phase.TheVariants.{Idle, Slave, AddressHigh, AddressLow, Pointer, Write, Read}
use Rattle.bus_limits.specs.Limits.{is_idle}
use Rattle.bus.specs.declared.Power.{Power}
use Rattle.bus.specs.declared.Power.TheVariants.{On, Backup, Off}
use Rattle.fm3130.specs.Event.{Happening, on_wire, beat, lost, gone, returned, happening}
use Rattle.fm3130.specs.declared.State.{State}
use Rattle.fm3130.specs.declared.Answered.{Answered}
use Rattle.wire_clocks.specs.Clocks.{is_high}
use Rattle.lamps.specs.Log.{clocks_of, due_of, mark_from}
use Rattle.lamps_eight.specs.Eight.{lamps_next, dark, byte_of}
use Rattle.lamps_eight.specs.declared.Mark.{Mark}
use Rattle.lamps.specs.declared.Due.{Due}
use Rattle.lamps.specs.declared.Due.TheVariants.{Acknowledge}
use Rattle.lamps.specs.declared.Follower.{Follower}
use Rattle.lamps.specs.declared.Proving.{Proving}

abbrev pub following : Bool → ℕ → ℕ → Follower
following w p b = record { refused = w; place = p; byte = b }

abbrev pub at_rest : Follower
at_rest = following false 0 0

-- The eighth clock of a byte that the device did not take.
abbrev pub refusing : Phase → Phase → Bool
refusing before after = eqb (clocks_of before) 7 && is_idle after

-- A Clock: a byte from the memory is gathered from the line.
abbrev pub gathered_at : ℕ → Follower → ℕ → Bool → Bool → Follower
gathered_at k f a w line =
    cond (eqb k 0) (following w a (pushed 0 line)) (following w f.place (pushed f.byte line))

abbrev pub gathered : Phase → Follower → ℕ → Bool → Bool → Follower
gathered Idle f a w line = following w 0 0
gathered (Slave k b) f a w line = following w 0 0
gathered (AddressHigh k b) f a w line = following w 0 0
gathered (AddressLow h k b) f a w line = following w 0 0
gathered (Pointer k b) f a w line = following w 0 0
gathered (Write s k b) f a w line = following w 0 0
gathered (Read Companion k b) f a w line = following w 0 0
gathered (Read Memory k b) f a w line = gathered_at k f a w line

abbrev pub followed : Follower → Happening → State → Phase → Bool → Follower
followed f (on_wire start) s after line = at_rest
followed f (on_wire stop) s after line = at_rest
followed f (on_wire (clock d)) s after line = gathered s.phase f s.address (refusing s.phase after) line
followed f (beat t') s after line = f
followed f lost s after line = at_rest
followed f gone s after line = at_rest
followed f returned s after line = f

-- At a ninth clock: a powered device in a transfer pulls.
abbrev pub pulls_of : Power → Phase → Bool
pulls_of On p = not (is_idle p)
pulls_of Backup p = false
pulls_of Off p = false

abbrev pub clocks_by : Follower → Phase → ℕ
clocks_by f p = cond f.refused 8 (clocks_of p)

abbrev pub due_by : Follower → Phase → Due
due_by f p = cond f.refused Acknowledge (due_of p)

abbrev pub mark_by : Follower → State → ℕ → Mark
mark_by f s e =
    mark_from (happening e) (clocks_by f s.phase) (due_by f s.phase) (pulls_of s.power s.phase) f.place f.byte

-- The record before any event.
abbrev pub begun : Proving
begun = record { follower = at_rest; lamps = dark }

abbrev pub step_of : Proving → State → ℕ → Answered → Proving
step_of r s e d =
    record {
      follower = followed r.follower (happening e) s d.state.phase (is_high d.answer);
      lamps = lamps_next (mark_by r.follower s e) r.lamps;
    }

abbrev pub report_of : Proving → ℕ
report_of r = byte_of r.lamps
