-- SPDX-License-Identifier: Apache-2.0
-- A worked merge on a fresh device: a memory transaction that writes 5Ah at 0005h, and a companion transaction that
-- writes 15h to 0Ah (watchdog control), with an edge on CNT1 inside the first and one on CNT2 inside the second.
--   memory_list, companion_list, merged_list   the two lists and their merge
--   ExampleDemanded, ExampleOutcome         demand 3 of them, at both sizes; what they do
use Rattle.std.specs.Prelude.{ℕ, ◌≡◌, List, [], ◌∷◌, ◌++◌, set}
use Rattle.wire.specs.Machine.{start, stop, Event, line, tick}
use Rattle.wire.specs.declared.Side.TheVariants.{Memory, Companion}
use Rattle.bus.specs.declared.Beat.{Beat}
use Rattle.bus.specs.declared.Beat.TheVariants.{Cnt1, Cnt2}
use Rattle.law_merging.specs.Merge.{Said, by, events_of}
use Rattle.law_merging.specs.Party.{Party, to}
use Rattle.law_merging.specs.Clocks.{clocks, clocks_by, bits_of}
use Rattle.bus.specs.Select.{lone, slave_names_for}
use Rattle.fm31.specs.Chip.{size_of, companion31, fresh}
use Rattle.fm31.specs.Run.{Ended, run_of}
use Rattle.fm31.specs.declared.Size.{Size}
use Rattle.law_parts.specs.Demand3.{bytes_of, Ran}
use Rattle.law_larger.specs.Demand3.{held, list_run, Demanded}

abbrev pub memory_list : List (Event Beat)
memory_list =
    line start ∷ clocks (bits_of 0xA0) (clocks (bits_of 0x00 ++ bits_of 0x05 ++ bits_of 0x5A) (line stop ∷ []))

abbrev pub companion_list : List (Event Beat)
companion_list =
    tick Cnt1
    ∷ line start ∷ clocks (bits_of 0xD0) (clocks (bits_of 0x0A) (tick Cnt2 ∷ clocks (bits_of 0x15) (line stop ∷ [])))

abbrev pub merged_list : List (Said Party Beat)
merged_list =
    let m = to Memory in
    let c = to Companion in
    by m (line start) ∷ clocks_by m (bits_of 0xA0) (by c (tick Cnt1)
    ∷ clocks_by m (bits_of 0x00 ++ bits_of 0x05 ++ bits_of 0x5A) (by m (line stop)
    ∷ by c (line start) ∷ clocks_by c (bits_of 0xD0) (clocks_by c (bits_of 0x0A) (by c (tick Cnt2)
    ∷ clocks_by c (bits_of 0x15) (by c (line stop) ∷ [])))))

-- The merge meets all that demand 3 asks, so what is demanded holds of it.
abbrev pub ExampleDemanded : Type 0
ExampleDemanded =
    (k : Size) (m : List ℕ)
    → let run : List (Event Beat) → Ran (size_of k) (slave_names_for lone) companion31 =
    λ es. list_run (size_of k) (held (size_of k) fresh m) (bytes_of (size_of k) (slave_names_for lone) companion31 es) in
    Demanded (size_of k) (run memory_list) (run companion_list) (run (events_of merged_list)) merged_list

-- And both transactions, and both edges, did something.
pub record Did (m : List ℕ) (r : Ended) : Type 0 where
  pub memory : r.memory ≡ set m 5 0x5A
  pub address : r.state.bus.address ≡ 6
  pub watchdog : r.state.counters.registers.watchdog ≡ 0x15
  pub first : r.state.counters.registers.counts.one ≡ record { low = 1; high = 0 }
  pub second : r.state.counters.registers.counts.two ≡ record { low = 1; high = 0 }
  pub companion_address : r.state.counters.address ≡ 0x0B

abbrev pub ExampleOutcome : Type 0
ExampleOutcome =
    (k : Size) (m : List ℕ)
    → Did m (run_of (size_of k) lone fresh m (bytes_of (size_of k) (slave_names_for lone) companion31 (events_of merged_list)))
