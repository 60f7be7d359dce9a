-- SPDX-License-Identifier: Apache-2.0
-- What an event byte is to each device of a set (02, number 12: "ticks and power events reach all four, and a counter edge names its
-- device"), and the line ("the line is low if any pulls it low"). Of every set, whatever its devices are.
--   HearsAll                  event bytes 0 to 7
--   HearsEdges, OthersLeft    8 and 9 are the first device's edges, 10 and 11 the second's, and so on
--   AbsentLeft                a place that is not on the line
--   LineHigh, LineLow         when the line is high; that one device pulls it low
use Rattle.std.specs.Prelude.{ℕ, ◌+◌, ◌*◌, ◌≤◌, ◌<◌, ◌≡◌, true, false}
use Rattle.set_event.specs.Set.{Together, Place, number_of, at, done_in, after_own, after_event, line_to}

-- The device at a place is on the line: there are more devices than that place.
abbrev pub OnLine : Together → Place → Type 0
OnLine t v = number_of v < t.set.count

-- Start, Stop, both Clocks, a tick, the three power events: each device does what it does alone.
abbrev pub HearsAll : Type 0
HearsAll = (t : Together) (v : Place) (e : ℕ) → OnLine t v → e ≤ 7 → at v (after_event t e) ≡ after_own (at v t) e

-- Its own edges are its event bytes 8 and 9.
pub record HearsEdges : Type 0 where
  pub first : (t : Together) (v : Place) → OnLine t v → at v (after_event t (8 + 2 * number_of v)) ≡ after_own (at v t) 8
  pub second : (t : Together) (v : Place) → OnLine t v → at v (after_event t (9 + 2 * number_of v)) ≡ after_own (at v t) 9

-- Another device's edge leaves it: e is none of its two.
abbrev pub OthersLeft : Type 0
OthersLeft =
    (t : Together) (v : Place) (e : ℕ) → 8 ≤ e → (e ≡ 8 + 2 * number_of v → ⊥) → (e ≡ 9 + 2 * number_of v → ⊥)
    → at v (after_event t e) ≡ at v t

abbrev pub AbsentLeft : Type 0
AbsentLeft = (t : Together) (v : Place) (e : ℕ) → t.set.count ≤ number_of v → at v (after_event t e) ≡ at v t

-- Of an event that all hear, the line is high if each device, alone, leaves it high; and low if one pulls it low.
abbrev pub LineHigh : Type 0
LineHigh =
    (t : Together) (e : ℕ) → e ≤ 7 → ((v : Place) → OnLine t v → (done_in (at v t) e).line ≡ true) → line_to t e ≡ true

abbrev pub LineLow : Type 0
LineLow =
    (t : Together) (e : ℕ) (v : Place) → e ≤ 7 → OnLine t v → (done_in (at v t) e).line ≡ false → line_to t e ≡ false
