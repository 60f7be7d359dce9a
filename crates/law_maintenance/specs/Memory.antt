-- SPDX-License-Identifier: Apache-2.0
-- What a lit lamp says of the memory: its byte was read as 1; and if the master left the line high in the eight clocks of
-- that read, and no write has gone to its address since, the memory holds 1 there. Without the first condition it is false
-- (specs/Examples: `LineNotMemory`): a read gives what the line showed, and a master can pull 3 down to 1.
--   is_left_high, all_high   a Clock at which the master leaves the line high; all of some Clocks
--   writes_to, no_writes    an event at which a data byte for an address is taken; none of some
--   WasRead, LitWasRead   a lamp that is lit was read as 1
--   HoldsOne              then the memory holds 1
use Rattle.std.specs.Prelude.{ℕ, ◌<◌, ◌≡◌, Bool, true, false, not, ◌&&◌, List, [], ◌∷◌, ◌++◌, eqb, get_or, take}
use Rattle.wire.specs.Machine.{start, stop, clock}
use Rattle.wire.specs.declared.Side.TheVariants.{Memory, Companion}
use Rattle.wire.specs.declared.Phase.{Phase}
use Rattle.wire.specs.declared.Phase.TheVariants.{Idle, Slave, AddressHigh, AddressLow, Pointer, Write, Read}
use Rattle.fm3130.specs.Event.{Happening, on_wire, beat, lost, gone, returned}
use Rattle.fm3130.specs.declared.State.{State}
use Rattle.fm3130_list.specs.Run.{run_of}
use Rattle.lamps.specs.History.{Moment, History, happened, past_of}
use Rattle.lamps.specs.Log.{is_clock, clocks_in, mark_of}
use Rattle.lamps_eight.specs.Lit.{lamp_address, is_lit}
use Rattle.lamps.specs.Statement.{logged}
use Rattle.lamps_eight.specs.declared.Mark.TheVariants.{Gave}

-- "2 Clock with the master's data line low; 3 Clock with it high": the second.
abbrev pub is_high_clock : Happening → Bool
is_high_clock (on_wire start) = false
is_high_clock (on_wire stop) = false
is_high_clock (on_wire (clock d)) = d
is_high_clock (beat t') = false
is_high_clock lost = false
is_high_clock gone = false
is_high_clock returned = false

abbrev pub is_left_high : Moment → Bool
is_left_high x = is_high_clock (happened x)

abbrev pub all_high : History → Bool
all_high [] = true
all_high (x ∷ xs) = is_left_high x && all_high xs

-- 01: "A data byte is stored at its eighth clock."
abbrev pub is_eighth_of_data : Phase → Bool
is_eighth_of_data Idle = false
is_eighth_of_data (Slave k b) = false
is_eighth_of_data (AddressHigh k b) = false
is_eighth_of_data (AddressLow h k b) = false
is_eighth_of_data (Pointer k b) = false
is_eighth_of_data (Write Memory k b) = eqb k 7
is_eighth_of_data (Write Companion k b) = false
is_eighth_of_data (Read s k b) = false

abbrev pub writes_to : ℕ → Moment → Bool
writes_to a x = is_clock (happened x) && (is_eighth_of_data x.state.phase && eqb x.state.address a)

abbrev pub no_writes : ℕ → History → Bool
no_writes a [] = true
no_writes a (x ∷ xs) = not (writes_to a x) && no_writes a xs

-- The history back to the ninth clock of a read of the byte that gave 1, and what was before it.
pub record WasRead (at : ℕ) (h : History) : Type 0 where
  pub since : History
  pub ninth : Moment
  pub before : History
  pub cut : h ≡ since ++ (ninth ∷ before)
  pub gave : mark_of ninth before ≡ Gave at 1

abbrev pub LitWasRead : Type 0
LitWasRead =
    (k : ℕ) (s : State) (m es : List ℕ) → is_lit k (logged s m es) ≡ true → WasRead (lamp_address k) (past_of [] s m es)

-- Of every read that gave 1, the one above too. The eight Clocks before the ninth are those of the byte; the last condition
-- says that the memory's element is a byte.
abbrev pub HoldsOne : Type 0
HoldsOne =
    (at : ℕ) (s : State) (m es : List ℕ) → s.phase ≡ Idle → (r : WasRead at (past_of [] s m es))
    → all_high (take 8 (clocks_in r.before)) ≡ true → no_writes at r.since ≡ true
    → get_or (run_of s m es).memory at 0 < 256 → get_or (run_of s m es).memory at 0 ≡ 1
