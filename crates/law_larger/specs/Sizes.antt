-- SPDX-License-Identifier: Apache-2.0
-- 02, number 5: "in its 64Kb and 256Kb sizes, the facts about memory proved once over the size": what is said over the
-- size, cited for 8,192 and 32,768 bytes, as one statement.
--   EachSize     what is said over the size holds of both
--   BothSizes    all of it
use Rattle.std.specs.Prelude.{ℕ}
use Rattle.fm31.specs.Chip.{size_of}
use Rattle.fm31.specs.declared.Size.{Size}
use Rattle.law_larger.specs.Addresses.{RollsOver, UpperBitsIgnored, ProtectedRanges}
use Rattle.law_larger.specs.Edges.{EdgesCount, InTransfersToo, TicksNothing}
use Rattle.law_larger.specs.Memory.{AcknowledgedStored, ProtectedKept, OnlyStoresProtect}
use Rattle.law_larger.specs.Demand3.{DemandThree, DemandThreeMerged}
use Rattle.law_larger.specs.Numbers.{EveryNumber}
use Rattle.law_larger.specs.Entry.{CallStores, CallKeeps, CallLocks, CountByNumber}

abbrev pub EachSize : (ℕ → Type 0) → Type 0
EachSize X = (k : Size) → X (size_of k)

pub record BothSizes : Type 0 where
  -- addresses, roll and protection
  pub upper_bits : UpperBitsIgnored
  pub rolls : EachSize RollsOver
  pub ranges : ProtectedRanges
  pub protecting : EachSize OnlyStoresProtect
  -- edges and ticks
  pub edges : EachSize EdgesCount
  pub during : EachSize InTransfersToo
  pub ticks : EachSize TicksNothing
  -- lists of events
  pub stored : EachSize AcknowledgedStored
  pub kept : EachSize ProtectedKept
  pub apart : EachSize DemandThree
  pub apart_merged : EachSize DemandThreeMerged
  -- the entries
  pub numbers : EachSize EveryNumber
  pub call_stores : EachSize CallStores
  pub call_keeps : EachSize CallKeeps
  pub call_locks : EachSize CallLocks
  pub counted : EachSize CountByNumber
