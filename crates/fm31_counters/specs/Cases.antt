-- SPDX-License-Identifier: Apache-2.0
-- The counters in the customer's own numbers (02, number 5), and what a frozen read shows.
--   counts     both counters, each by its low and its high byte
--   Rolls      edges by edges: a counter at its top, a carry between bytes, the pair at its top, CNT2 beside the pair
--   Frozen     while RC is 1 no edge changes what a read shows
use Rattle.std.specs.Prelude.{◌≡◌, ℕ, true, false}
use Rattle.bits.specs.Weight.{has}
use Rattle.fm31_counters.specs.declared.Input.{Input}
use Rattle.fm31_counters.specs.declared.Input.TheVariants.{Cnt1, Cnt2}
use Rattle.fm31_counters.specs.declared.Counts.{Counts}
use Rattle.fm31_counters.specs.declared.Counters.{Counters}
use Rattle.fm31_counters.specs.Map.{RC}
use Rattle.fm31_counters.specs.Edge.{edged, edge_of}
use Rattle.fm31_counters.specs.Part.{load_of}

-- Auxiliary: 0Dh, 0Eh, 0Fh, 10h.
abbrev pub counts : ℕ → ℕ → ℕ → ℕ → Counts
counts d e f g = record { one = record { low = d; high = e }; two = record { low = f; high = g } }

pub record Rolls : Type 0 where
  -- "rolls from FFFFh to 0000h", and leaves the other
  pub one_rolls : edged false Cnt1 (counts 0xFF 0xFF 7 9) ≡ counts 0 0 7 9
  pub two_rolls : edged false Cnt2 (counts 7 9 0xFF 0xFF) ≡ counts 7 9 0 0
  -- "low byte first (our ruling)"
  pub one_carries : edged false Cnt1 (counts 0xFF 0x12 7 9) ≡ counts 0 0x13 7 9
  pub two_carries : edged false Cnt2 (counts 7 9 0xFF 0x12) ≡ counts 7 9 0 0x13
  -- "counter 1 the low half, rolling to zero from its top"
  pub pair_carries : edged true Cnt1 (counts 0xFF 0xFF 0xFF 0x12) ≡ counts 0 0 0 0x13
  pub pair_rolls : edged true Cnt1 (counts 0xFF 0xFF 0xFF 0xFF) ≡ counts 0 0 0 0
  -- 003: "CNT2 is not used in this mode"
  pub second_unused : (n : Counts) → edged true Cnt2 n ≡ n

-- 003: "a snapshot of all four counter bytes allowing a stable value even if a count occurs during the read".
abbrev pub Frozen : Type 0
Frozen = (c : Counters) (i : Input) → has c.registers.counting RC ≡ true → load_of (edge_of c i) ≡ load_of c
