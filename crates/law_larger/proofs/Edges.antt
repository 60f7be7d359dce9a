-- SPDX-License-Identifier: Apache-2.0
-- When an edge counts: by cases on the supplies and the input, each by computation.
use Prim.Native.Nat.{ℕ}
use mathlib.Core.Path.{◌≡◌, refl, ap, ◌∙◌}
use mathlib.Core.Bool.{cond}
use mathlib.Core.List.{List}
use Rattle.bus.specs.Happening.{happening, edges}
use Rattle.bus.specs.Event.{is_supplied, event_on}
use Rattle.bus.specs.declared.Power.{Power}
use Rattle.bus.specs.declared.Power.TheVariants.{On, Backup, Off}
use Rattle.fm31_counters.specs.Part.{edge_of}
use Rattle.fm31_counters.specs.declared.Input.{Input}
use Rattle.fm31_counters.specs.declared.Input.TheVariants.{Cnt1, Cnt2}
use Rattle.bus.specs.Select.{lone, slave_names_for}
use Rattle.fm31.specs.Chip.{companion31}
use Rattle.fm31.specs.declared.State.{State}
use Rattle.law_larger.specs.Edges.{edge_byte, left, EdgesCount, InTransfersToo, TicksNothing}

module _ (size : ℕ) (s : State) (m : List ℕ) where
  edge_under : (p : Power) (i : Input)
      → event_on size (slave_names_for lone) companion31 p (happening edges (edge_byte i)) s.bus s.counters m
      ≡ left size s m (cond (is_supplied p) (edge_of s.counters i) s.counters)
  unfolding happening event_on
  edge_under On Cnt1 = refl
  edge_under On Cnt2 = refl
  edge_under Backup Cnt1 = refl
  edge_under Backup Cnt2 = refl
  edge_under Off Cnt1 = refl
  edge_under Off Cnt2 = refl

  tick_under : (p : Power)
      → event_on size (slave_names_for lone) companion31 p (happening edges 4) s.bus s.counters m ≡ left size s m
      s.counters
  unfolding happening event_on
  tick_under On = refl
  tick_under Backup = refl
  tick_under Off = refl

pub edges_count : (size : ℕ) → EdgesCount size
edges_count size s m i = edge_under size s m s.bus.power i

pub in_transfers_too : (size : ℕ) → InTransfersToo size
in_transfers_too size s m i on busy =
    edges_count size s m i
    ∙ ap (λ (p : Power). left size s m (cond (is_supplied p) (edge_of s.counters i) s.counters)) on

pub ticks_nothing : (size : ℕ) → TicksNothing size
ticks_nothing size s m = tick_under size s m s.bus.power
