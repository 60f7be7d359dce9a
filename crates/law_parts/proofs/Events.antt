-- SPDX-License-Identifier: Apache-2.0
-- The events that fall while a transfer goes on, as the machine has them: a Clock, a tick of the part, and a return of
-- power that is there already. A list in two pieces is the second piece after the first. The byte of a second says so
-- in every part, and each edge's in a part with counter inputs: what is asked of a part's event bytes.
use Prim.Native.Nat.{ℕ}
use mathlib.Core.Path.{◌≡◌, refl}
use mathlib.Core.Bool.{Bool, true, false}
use mathlib.Core.List.{List, [], ◌∷◌, ◌++◌}
use Rattle.wire.specs.Memory.{lent}
use Rattle.wire.specs.Machine.{clocked, lined}
use Rattle.wire.specs.declared.Named.{Named}
use Rattle.bus.specs.Desk.{Desks, part_of}
use Rattle.bus.specs.Happening.{Happening, beat, happening, edges}
use Rattle.bus.specs.Event.{done, done_of, event_on}
use Rattle.bus.specs.declared.Beat.{Beat}
use Rattle.bus.specs.declared.Beat.TheVariants.{Second, Cnt1, Cnt2}
use Rattle.bus.specs.declared.Power.TheVariants.{On}
use Rattle.law_parts.specs.Events.{clock_event, beat_byte, tick_byte, TicksHeard, Held, event, held_by, after_events}

pub second_heard : (beyond : ℕ → Happening) → happening beyond (beat_byte Second) ≡ beat Second
unfolding happening
second_heard beyond = refl

pub edge_heard : (t : Beat) → happening edges (beat_byte t) ≡ beat t
unfolding happening
edge_heard Second = refl
edge_heard Cnt1 = refl
edge_heard Cnt2 = refl

module _ (size : ℕ) (names : ℕ → Named) (D : Desks) (h : Held size names D) where
  module _ (on : h.bus.power ≡ On) where
    pub clock_event_lem : (d : Bool)
        → event size names D h (clock_event d)
        ≡ done_of size names D (clocked (part_of size names D) h.bus.phase (lent h.memory h.bus.address)
        h.companion d)
    unfolding happening event_on lined
    clock_event_lem true = rw on
    clock_event_lem false = rw on

    pub beat_event_lem : TicksHeard D → (t : D.Tick)
        → event size names D h (tick_byte D t)
        ≡ done size names D h.bus (D.ticked (D.beat_of t) h.companion) h.memory true
    unfolding event_on
    beat_event_lem T t = rw (on, T t)

    pub power_event : event size names D h 7 ≡ done size names D h.bus h.companion h.memory true
    unfolding happening event_on
    power_event = rw on

pub after_append : (size : ℕ) (names : ℕ → Named) (D : Desks) (h : Held size names D) (xs ys : List ℕ)
    → after_events size names D h (xs ++ ys) ≡ after_events size names D (after_events size names D h xs) ys
after_append size names D h [] ys = refl
after_append size names D h (e ∷ xs) ys = after_append size names D (held_by size names D (event size names D h e))
    xs ys
