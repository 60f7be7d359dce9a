-- SPDX-License-Identifier: Apache-2.0
-- 01, Transfers: "Start at any moment begins a slave byte; Stop at any moment ends the transfer. Either drops a part
-- byte." On main power, in every phase, with any memory.
--   live                          a device on main power
--   StartBegins, StopEnds         what a Start leaves, what a Stop leaves
--   Opens, SlaveOpens             the four slave bytes after a Start, and what each opens
--   StartForgets, StopForgets     after either nothing is known of what was under way
use Rattle.std.specs.Prelude.{ℕ, ◌%◌, ◌≡◌, List, [], ◌∷◌, get_or}
use Rattle.wire.specs.declared.Side.TheVariants.{Memory, Companion}
use Rattle.wire.specs.declared.Phase.{Phase}
use Rattle.wire.specs.declared.Phase.TheVariants.{Idle, Slave, AddressHigh, Pointer, Read}
use Rattle.bus.specs.declared.Power.TheVariants.{On}
use Rattle.fm3130_companion.specs.declared.Companion as chip
use Rattle.fm3130.specs.declared.State.{State}
use Rattle.fm3130_list.specs.Run.{run_of}

-- A device on main power: where the transfer stands, the memory address, the companion.
abbrev pub live : Phase → ℕ → chip.Companion → State
live q a c = record { power = On; phase = q; address = a; companion = c }

-- "Begins a slave byte": none of its clocks is done and no bit of it is there; addresses, registers and memory stay.
pub record StartLeaves (q : Phase) (a : ℕ) (c : chip.Companion) (m : List ℕ) : Type 0 where
  pub state : (run_of (live q a c) m (0 ∷ [])).state ≡ live (Slave 0 0) a c
  pub memory : (run_of (live q a c) m (0 ∷ [])).memory ≡ m

abbrev pub StartBegins : Type 0
StartBegins = (q : Phase) (a : ℕ) (c : chip.Companion) (m : List ℕ) → StartLeaves q a c m

-- "Ends the transfer"; "Between transfers nothing of an earlier transfer is kept but the two addresses."
pub record StopLeaves (q : Phase) (a : ℕ) (c : chip.Companion) (m : List ℕ) : Type 0 where
  pub state : (run_of (live q a c) m (1 ∷ [])).state ≡ live Idle a c
  pub memory : (run_of (live q a c) m (1 ∷ [])).memory ≡ m

abbrev pub StopEnds : Type 0
StopEnds = (q : Phase) (a : ℕ) (c : chip.Companion) (m : List ℕ) → StopLeaves q a c m

-- Auxiliary: after these events the transfer stands here, all else is as it was, and the line of the tenth event, the
-- ninth clock, at which the master leaves it high, is low.
pub record Opens (q : Phase) (a : ℕ) (c : chip.Companion) (m es : List ℕ) (stands : Phase) : Type 0 where
  pub state : (run_of (live q a c) m es).state ≡ live stands a c
  pub memory : (run_of (live q a c) m es).memory ≡ m
  pub acknowledged : get_or (run_of (live q a c) m es).answers 9 1 % 2 ≡ 0

-- "Slave byte 1010 000x is memory, 1101 000x the companion; x = 1 reads": a Start, the eight bits, the ninth clock.
pub record SlaveOpens (q : Phase) (a : ℕ) (c : chip.Companion) (m : List ℕ) : Type 0 where
  pub memory_write : Opens q a c m (0 ∷ 3 ∷ 2 ∷ 3 ∷ 2 ∷ 2 ∷ 2 ∷ 2 ∷ 2 ∷ 3 ∷ []) (AddressHigh 0 0)
  pub memory_read : Opens q a c m (0 ∷ 3 ∷ 2 ∷ 3 ∷ 2 ∷ 2 ∷ 2 ∷ 2 ∷ 3 ∷ 3 ∷ []) (Read Memory 0 0)
  pub companion_write : Opens q a c m (0 ∷ 3 ∷ 3 ∷ 2 ∷ 3 ∷ 2 ∷ 2 ∷ 2 ∷ 2 ∷ 3 ∷ []) (Pointer 0 0)
  pub companion_read : Opens q a c m (0 ∷ 3 ∷ 3 ∷ 2 ∷ 3 ∷ 2 ∷ 2 ∷ 2 ∷ 3 ∷ 3 ∷ []) (Read Companion 0 0)

abbrev pub EverySlaveOpens : Type 0
EverySlaveOpens = (q : Phase) (a : ℕ) (c : chip.Companion) (m : List ℕ) → SlaveOpens q a c m

-- "Either drops a part byte": whatever was under way, the same events after a Start, or after a Stop, are answered the
-- same and leave the same.
abbrev pub StartForgets : Type 0
StartForgets =
    (q q' : Phase) (a : ℕ) (c : chip.Companion) (m es : List ℕ)
    → run_of (live q a c) m (0 ∷ es) ≡ run_of (live q' a c) m (0 ∷ es)

abbrev pub StopForgets : Type 0
StopForgets =
    (q q' : Phase) (a : ℕ) (c : chip.Companion) (m es : List ℕ)
    → run_of (live q a c) m (1 ∷ es) ≡ run_of (live q' a c) m (1 ∷ es)
