-- SPDX-License-Identifier: Apache-2.0
-- What a master's transactions do on a powered device, over the list run's own definition, and the round trip (02, number 1:
-- "With the device powered and no other event between, bytes written to unprotected addresses and then read come back the
-- same, at most 256 at a time"). Of every state on main power, whatever transfer is under way: a Start begins anew at any
-- moment.
--   WriteTells    what a write is told and leaves, under any protection
--   ReadTells     what a read is told: the bytes that are there
--   RoundTrip     the round trip
use Rattle.std.specs.Prelude.{ℕ, ◌≤◌, ◌<◌, ◌≡◌, List, length, replicate}
use Rattle.wire.specs.declared.Phase.TheVariants.{Idle}
use Rattle.bus.specs.declared.Power.TheVariants.{On}
use Rattle.fm3130_companion.specs.Part.{guard_of}
use Rattle.fm3130.specs.Chip.{memory_size}
use Rattle.fm3130.specs.declared.State.{State}
use Rattle.fm3130_list.specs.Run.{Ended, run_of}
use Rattle.wire_clocks.specs.Clocks.{lines_of}
use Rattle.c_master.specs.Numbers.{most}
use Rattle.wire_clocks.specs.Events.{write_events, read_events}
use Rattle.c_master.specs.Told.{flags_of, bytes_of}
use Rattle.law_roundtrip.specs.Stretch.{AllBytes, Free, flags_by, stored_by, fetched_from}

-- What the answers say of n data bytes.
abbrev pub flags_in : ℕ → Ended → List ℕ
flags_in n r = flags_of n (lines_of r.answers)

abbrev pub bytes_in : ℕ → Ended → List ℕ
bytes_in n r = bytes_of n (lines_of r.answers)

-- A byte at a protected address is flagged as not acknowledged, and all after it; those before it are flagged as
-- acknowledged, and stored. Supplies, registers and calendar stay, and the transfer has ended.
pub record WriteTold (s : State) (m : List ℕ) (a : ℕ) (bs : List ℕ) (r : Ended) : Type 0 where
  pub flags : flags_in (length bs) r ≡ flags_by (guard_of s.companion) a bs
  pub memory : r.memory ≡ stored_by (guard_of s.companion) m a bs
  pub companion : r.state.companion ≡ s.companion
  pub power : r.state.power ≡ On
  pub phase : r.state.phase ≡ Idle

abbrev pub WriteTells : Type 0
WriteTells =
    (s : State) (m : List ℕ) (a : ℕ) (bs : List ℕ) → s.power ≡ On → a < memory_size → AllBytes bs
    → WriteTold s m a bs (run_of s m (write_events a bs))

-- The bytes from the address on, whatever address was set before; memory and all else stay.
pub record ReadTold (s : State) (m : List ℕ) (a n : ℕ) (r : Ended) : Type 0 where
  pub bytes : bytes_in n r ≡ fetched_from m a n
  pub memory : r.memory ≡ m
  pub companion : r.state.companion ≡ s.companion
  pub power : r.state.power ≡ On
  pub phase : r.state.phase ≡ Idle

abbrev pub ReadTells : Type 0
ReadTells =
    (s : State) (m : List ℕ) (a n : ℕ) → s.power ≡ On → a < memory_size → 1 ≤ n → AllBytes (fetched_from m a n)
    → ReadTold s m a n (run_of s m (read_events a n))

-- All acknowledged, and what is read is what was written.
pub record Returned (bs : List ℕ) (w r : Ended) : Type 0 where
  pub acknowledged : flags_in (length bs) w ≡ replicate (length bs) 1
  pub back : bytes_in (length bs) r ≡ bs

-- At least one byte: a read of none is refused.
abbrev pub RoundTrip : Type 0
RoundTrip =
    (s : State) (m : List ℕ) (a : ℕ) (bs : List ℕ)
    → s.power ≡ On → length m ≡ memory_size → a < memory_size
    → 1 ≤ length bs → length bs ≤ most → AllBytes bs → Free (guard_of s.companion) a (length bs)
    → Returned bs (run_of s m (write_events a bs))
    (run_of (run_of s m (write_events a bs)).state (run_of s m (write_events a bs)).memory (read_events a (length bs)))
