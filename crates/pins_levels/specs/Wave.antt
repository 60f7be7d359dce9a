-- SPDX-License-Identifier: Apache-2.0
-- What a list of looks at SCL and SDA spells, by the bus's own rules (000, Start: "drives SDA from high to low while the SCL
-- signal is high"; Stop: "from low to high while the SCL signal is high"). It looks back at what was seen, and knows no machine.
--   seen_of     what three readings see: SCL, SDA, SCL again
--   steady     SCL was seen to rise, and SDA had this level ever since
--   happened   what one look more tells, after those before it
--   spelt      the events that looks spell, as 01's event bytes 0 to 3
--   Repeated   a look that sees what the one before it saw changes nothing: one in each stretch of levels is enough
-- Looks are listed newest first, events oldest first.
use Rattle.std.specs.Prelude.{ℕ, ◌≡◌, Bool, true, false, cond, ◌&&◌, List, [], ◌∷◌, ◌++◌}
use Rattle.std.specs.Bool.{beq}
use Rattle.pins_levels.specs.declared.Seen.{Seen}
use Rattle.pins_levels.specs.declared.Seen.TheVariants.{Low, Fell, High}

-- SCL is low; SCL was high and fell while SDA was read, so that SDA is not looked at; SCL is high and SDA has this level.
abbrev pub seen_of : Bool → Bool → Bool → Seen
seen_of scl sda again = cond scl (cond again (High sda) Fell) Low

-- SCL was seen low before, and since it rose every look saw SDA at the level d. A pulse that had begun before the first
-- look is not whole.
unfoldable pub steady : Bool → List Seen → Bool
steady d [] = false
steady d (Low ∷ w) = true
steady d (Fell ∷ w) = true
steady d (High e ∷ w) = beq d e && steady d w

-- "2 Clock with .. data line low; 3 Clock with it high." "0 Start; 1 Stop."
abbrev pub clock_of : Bool → ℕ
clock_of d = cond d 3 2

abbrev pub turn_of : Bool → ℕ
turn_of d = cond d 1 0

-- A pulse of the level d has ended: it was a Clock if it was whole and SDA never turned in it.
abbrev pub end_of : Bool → List Seen → List ℕ
end_of d w = cond (steady d w) (clock_of d ∷ []) []

-- What one look more tells, after the looks w. Only where SCL was high before can it tell anything: SCL fell, or SDA turned.
unfoldable pub happened : List Seen → Seen → List ℕ
happened [] v = []
happened (Low ∷ w) v = []
happened (Fell ∷ w) v = []
happened (High d ∷ w) Low = end_of d w
happened (High d ∷ w) Fell = end_of d w
happened (High d ∷ w) (High e) = cond (beq d e) [] (turn_of e ∷ [])

unfoldable pub spelt : List Seen → List ℕ
spelt [] = []
spelt (v ∷ w) = spelt w ++ happened w v

-- SCL did not change in the look.
abbrev pub is_settled : Seen → Bool
is_settled Low = true
is_settled Fell = false
is_settled (High d) = true

abbrev pub Repeated : Type 0
Repeated =
    (xs w : List Seen) (v : Seen) → is_settled v ≡ true → spelt (xs ++ (v ∷ v ∷ w)) ≡ spelt (xs ++ (v ∷ w))
