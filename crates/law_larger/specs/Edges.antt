-- SPDX-License-Identifier: Apache-2.0
-- When an edge counts (02, number 5: "Edges count while power or backup is present, during a write too (our ruling)"),
-- and that ticks change nothing, over the size.
--   counts               whether an edge counts
--   edge_byte, left       its byte; an event that changes at most the companion, and leaves the line high
--   EdgesCount, InTransfersToo, TicksNothing   the statements
use Rattle.std.specs.Prelude.{ℕ, ◌≡◌, Bool, true, false, cond, List}
use Rattle.bus.specs.Event.{is_supplied, done}
use Rattle.bus_limits.specs.Limits.{is_idle}
use Rattle.bus.specs.declared.Power.TheVariants.{On}
use Rattle.fm31_counters.specs.Part.{edge_of}
use Rattle.fm31_counters.specs.declared.Counters.{Counters}
use Rattle.fm31_counters.specs.declared.Input.{Input}
use Rattle.fm31_counters.specs.declared.Input.TheVariants.{Cnt1, Cnt2}
use Rattle.bus.specs.Select.{lone, slave_names_for}
use Rattle.fm31.specs.Chip.{companion31, Done, event_of}
use Rattle.fm31.specs.declared.State.{State}

-- By the supplies alone: in every phase, at every clock of every byte.
abbrev pub counts : State → Bool
counts s = is_supplied s.bus.power

-- "8 and 9, are already polarity-filtered edges on CNT1 and CNT2."
abbrev pub edge_byte : Input → ℕ
edge_byte Cnt1 = 8
edge_byte Cnt2 = 9

-- Auxiliary: an event that leaves this companion and all else as it was, and the line high.
abbrev pub left : (size : ℕ) → State → List ℕ → Counters → Done size lone
left size s m c = done size (slave_names_for lone) companion31 s.bus c m true

-- An edge that counts leaves the counters one on; any other changes nothing.
abbrev pub EdgesCount : ℕ → Type 0
EdgesCount size =
    (s : State) (m : List ℕ) (i : Input)
    → event_of size lone s m (edge_byte i) ≡ left size s m (cond (counts s) (edge_of s.counters i) s.counters)

-- "During a write too (our ruling)": while a transfer is under way, at whatever clock.
abbrev pub InTransfersToo : ℕ → Type 0
InTransfersToo size =
    (s : State) (m : List ℕ) (i : Input) → s.bus.power ≡ On → is_idle s.bus.phase ≡ false
    → event_of size lone s m (edge_byte i) ≡ left size s m (edge_of s.counters i)

-- "It has no calendar: ticks change nothing."
abbrev pub TicksNothing : ℕ → Type 0
TicksNothing size = (s : State) (m : List ℕ) → event_of size lone s m 4 ≡ left size s m s.counters
