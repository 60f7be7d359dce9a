-- SPDX-License-Identifier: Apache-2.0
-- Bus events that the device does not hear: while off, by the four event bytes; outside a transfer, by the supply,
-- where on main power it is the machine's clock in the phase Idle.
use Prim.Native.Nat.{ℕ, ◌<◌}
use mathlib.Core.Path.{◌≡◌, refl, ◌∙◌}
use mathlib.Core.Bool.{Bool, true, false}
use mathlib.Core.List.{List}
use Rattle.bits.proofs.Cases.{none, ◌then◌, below}
use Rattle.wire.specs.Memory.{lent}
use Rattle.wire.specs.Machine.{clock, clocked, lined}
use Rattle.wire.specs.declared.Phase.{Phase}
use Rattle.wire.specs.declared.Phase.TheVariants.{Idle}
use Rattle.bus.specs.declared.Power.{Power}
use Rattle.bus.specs.declared.Power.TheVariants.{On, Backup, Off}
use Rattle.fm3130_companion.specs.declared.Companion.{Companion}
use Rattle.fm3130.specs.Chip.{fm3130, done_of}
use Rattle.fm3130.specs.Event.{on_wire, happening, event_on, event_of}
use Rattle.fm3130.specs.declared.State.{State}
use Rattle.law_table.specs.Stored.{clock_event}
use Rattle.law_table.specs.Unheard.{masters_bit, unchanged, OffUnheard, OutsideUnheard}

-- on main power, outside a transfer
outside_on : (p : Power) (q : Phase) (a : ℕ) (c : Companion) (m : List ℕ) (d : Bool) → p ≡ On → q ≡ Idle
    → done_of (clocked fm3130 q (lent m a) c d)
    ≡ unchanged (record { power = p; phase = q; address = a; companion = c }) m d
unfolding clocked
outside_on p q a c m d e h = rw (e, h)

module _ (s : State) (m : List ℕ) where
  -- an event byte under a supply leaves all as it was
  abbrev Leaves : Power → ℕ → Type 0
  Leaves p e = event_on p (happening e) s m ≡ unchanged s m (masters_bit e)

  off_by : (p : Power) (e : ℕ) → (p ≡ On → ⊥) → e < 4 → Leaves p e
  unfolding happening event_on
  off_by On e n h = absurd (n refl)
  off_by Backup e n h = below (Leaves Backup) (none then refl then refl then refl then refl) e h
  off_by Off e n h = below (Leaves Off) (none then refl then refl then refl then refl) e h

  -- a Clock under a supply, outside a transfer
  outside_by : (p : Power) (d : Bool) → s.power ≡ p → s.phase ≡ Idle
      → event_on p (on_wire (clock d)) s m ≡ unchanged s m d
  unfolding event_on lined
  outside_by On d e h = outside_on s.power s.phase s.address s.companion m d e h
  outside_by Backup d e h = refl
  outside_by Off d e h = refl

  clock_says : (d : Bool) → event_of s m (clock_event d) ≡ event_on s.power (on_wire (clock d)) s m
  unfolding happening
  clock_says true = refl
  clock_says false = refl

pub off_unheard : OffUnheard
off_unheard s m e n h = off_by s m s.power e n h

pub outside_unheard : OutsideUnheard
outside_unheard s m d h = clock_says s m d ∙ outside_by s m s.power d refl h
