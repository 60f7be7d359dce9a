-- SPDX-License-Identifier: Apache-2.0
-- An edge on CNT1 or CNT2, already filtered by its polarity (02, number 5).
--   number_of, count_of   a counter's two bytes as a number, and back
--   pair_of, counts_of    both counters as one number, and back
--   next_count, next_pair one more
--   edged, edge_of       the counters after an edge; the companion
use Rattle.std.specs.Prelude.{ℕ, ◌+◌, ◌*◌, ◌/◌, ◌%◌, Bool, true, false}
use Rattle.bits.specs.Weight.{has}
use Rattle.fm31_counters.specs.declared.Input.{Input}
use Rattle.fm31_counters.specs.declared.Input.TheVariants.{Cnt1, Cnt2}
use Rattle.fm31_counters.specs.declared.Count.{Count}
use Rattle.fm31_counters.specs.declared.Counts.{Counts}
use Rattle.fm31_counters.specs.declared.Counters.{Counters}
use Rattle.fm31_counters.specs.Map.{CC}
use Rattle.fm31_counters.specs.Change.{with_counts, with_registers}

-- "Each counter is 16 bits, low byte first (our ruling)."
abbrev pub number_of : Count → ℕ
number_of n = n.high * 256 + n.low

-- Auxiliary: and back.
abbrev pub count_of : ℕ → Count
count_of n = record { low = n % 256; high = n / 256 }

-- "The pair is one 32-bit counter .. counter 1 the low half."
abbrev pub pair_of : Counts → ℕ
pair_of n = number_of n.two * 65536 + number_of n.one

-- Auxiliary: and back.
abbrev pub counts_of : ℕ → Counts
counts_of n = record { one = count_of (n % 65536); two = count_of (n / 65536) }

-- "And rolls from FFFFh to 0000h."
unfoldable pub next_count : Count → Count
next_count n = count_of ((number_of n + 1) % 65536)

-- "Rolling to zero from its top."
unfoldable pub next_pair : Counts → Counts
next_pair n = counts_of ((pair_of n + 1) % 4294967296)

-- With CC at 0 each counter by its own input; "with CC set the pair is one 32-bit counter on CNT1"; 003: "CNT2 is not
-- used in this mode".
abbrev pub edged : Bool → Input → Counts → Counts
edged false Cnt1 n = record { one = next_count n.one; two = n.two }
edged false Cnt2 n = record { one = n.one; two = next_count n.two }
edged true Cnt1 n = next_pair n
edged true Cnt2 n = n

-- "Edges count while power or backup is present": what such an edge leaves.
unfoldable pub edge_of : Counters → Input → Counters
edge_of c i =
    with_registers c (with_counts c.registers (edged (has c.registers.counting CC) i c.registers.counts))
