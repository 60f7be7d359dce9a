-- SPDX-License-Identifier: Apache-2.0
-- A worked merge of two fresh devices on one line, select bits 0 and 1: a memory transaction that writes 5Ah at 0005h of
-- the first, with an edge on CNT1 of the second inside it; then a companion transaction that writes 15h to 0Ah (watchdog
-- control) of the second, with an edge on CNT2 of the first inside it.
--   pair                                    the set, of any two sizes and memories
--   merged                                  the merge
--   ExampleDemanded, ExampleOutcome         demand 3 of each device; what they do
use Rattle.std.specs.Prelude.{ℕ, ◌≡◌, Bool, List, [], ◌∷◌, ◌++◌, set}
use Rattle.wire.specs.Machine.{start, stop, clock}
use Rattle.wire.specs.declared.Side.TheVariants.{Memory, Companion}
use Rattle.law_merging.specs.Clocks.{bits_of}
use Rattle.fm31.specs.Chip.{fresh}
use Rattle.fm31.specs.declared.Size.{Size}
use Rattle.law_wired.specs.Wire.{Seat, Word, says, ticks}
use Rattle.set_event.specs.Set.{Together, first, second, at, after_events}
use Rattle.set_event.specs.declared.Member.{Member}
use Rattle.law_ensemble.specs.Alone.{counters_in}
use Rattle.law_ensemble.specs.Demand.{Device, Tock, edge_one, edge_two, word_bytes, Demanded}

abbrev pub fresh_member : Size → ℕ → Member
fresh_member k z = record { size = k; select = z; state = fresh }

-- What stands at the places that are not on the line is never looked at.
abbrev pub pair : Size → Size → List ℕ → List ℕ → Together
pair j k a b =
    record {
      set =
          record {
            count = 2;
            first = fresh_member j 0;
            second = fresh_member k 1;
            third = fresh_member j 0;
            fourth = fresh_member j 0;
          };
      one = a;
      two = b;
      three = [];
      four = [];
    }

abbrev pub one : Device 2
one = record { place = first; here = tt }

abbrev pub other : Device 2
other = record { place = second; here = tt }

-- Auxiliary: clocks of a seat before other words.
abbrev pub clocks_of : Seat (Device 2) → List Bool → List (Word (Device 2) Tock) → List (Word (Device 2) Tock)
clocks_of a [] l = l
clocks_of a (d ∷ ds) l = says a (clock d) ∷ clocks_of a ds l

-- The memory of the first, and the companion of the second.
abbrev pub writer : Seat (Device 2)
writer = record { at = one; side = Memory }

abbrev pub setter : Seat (Device 2)
setter = record { at = other; side = Companion }

abbrev pub merged : List (Word (Device 2) Tock)
merged =
    says writer start ∷ clocks_of writer (bits_of 0xA0) (ticks (edge_one second)
    ∷ clocks_of writer (bits_of 0x00 ++ bits_of 0x05 ++ bits_of 0x5A) (says writer stop
    ∷ says setter start ∷ clocks_of setter (bits_of 0xD2) (clocks_of setter (bits_of 0x0A) (ticks (edge_two first)
    ∷ clocks_of setter (bits_of 0x15) (says setter stop ∷ [])))))

-- The merge meets all that demand 3 asks, so what is demanded holds of both devices.
abbrev pub ExampleDemanded : Type 0
ExampleDemanded = (j k : Size) (a b : List ℕ) (v : Device 2) → Demanded (pair j k a b) v merged

-- And both transactions, and both edges, did something, each on its own device.
pub record Did (a b : List ℕ) (t : Together) : Type 0 where
  pub memory : t.one ≡ set a 5 0x5A
  pub address : t.set.first.state.bus.address ≡ 6
  pub edges : (counters_in (at first t)).registers.counts.two ≡ record { low = 1; high = 0 }
  pub other_memory : t.two ≡ b
  pub other_watchdog : (counters_in (at second t)).registers.watchdog ≡ 0x15
  pub other_edges : (counters_in (at second t)).registers.counts.one ≡ record { low = 1; high = 0 }

abbrev pub ExampleOutcome : Type 0
ExampleOutcome = (j k : Size) (a b : List ℕ) → Did a b (after_events (pair j k a b) (word_bytes merged))
