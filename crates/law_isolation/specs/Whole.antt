-- SPDX-License-Identifier: Apache-2.0
-- What the master's side writes is a whole transaction of the memory, in demand 3's sense (01, Transfers: "A whole
-- transaction opens with a Start, ends with its only Stop, and has only Clocks and further Starts between"; "it is a memory or a
-- companion transaction if every complete slave byte in it names that device"): what demand 3 says of its first list, it
-- says of the master's.
--   OfMemory       event bytes that are such a list
--   MasterWhole    the statement
use Rattle.std.specs.Prelude.{ℕ, ◌≡◌, List}
use Rattle.wire.specs.declared.Side.TheVariants.{Memory}
use Rattle.fm3130.specs.Chip.{fm3130}
use Rattle.law_merging.specs.Party.{to, BusEvent, Whole}
use Rattle.law_isolation.specs.Demand3.{bytes_of}
use Rattle.wire_clocks.specs.Events.{write_events, read_events}

pub record OfMemory (bytes : List ℕ) : Type 0 where
  pub events : List (BusEvent fm3130)
  pub are : bytes_of events ≡ bytes
  pub whole : Whole fm3130 (to Memory) events

pub record MasterWhole : Type 0 where
  pub write : (a : ℕ) (bs : List ℕ) → OfMemory (write_events a bs)
  pub read : (a n : ℕ) → OfMemory (read_events a n)
