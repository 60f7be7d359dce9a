-- SPDX-License-Identifier: Apache-2.0
-- What a session makes of a token fits the word, whatever is seen and handed in.
use Prim.Native.Nat.{ℕ, ◌<◌}
use mathlib.Core.Bool.{Bool, true, false, cond, beq}
use lib.Dec.{eqb, ltb}
use native.Mathlib.Omega.{arith}
use Rattle.pins_levels.specs.Wave.{clock_of, turn_of}
use Rattle.pins_levels.specs.Look.{Readings, was_high, none, late, unknown, with_levels, left, due_of, stayed, first_of}
use Rattle.pins_levels.specs.Look.{fallen, seen_by, look_of, driven_of, asks, hung, outlasted, handed_to, hand_of}
use Rattle.pins_levels.specs.Packed.{Small, Fits}
use Rattle.pins_levels.specs.declared.Seen.{Seen}
use Rattle.pins_levels.specs.declared.Seen.TheVariants.{Low, Fell, High}
use Rattle.pins_levels.specs.declared.Token.{Token}
use Rattle.pins_levels.specs.declared.Due.{Due}

-- a choice between two that fit
due_by_lem : (b : Bool) (x y : Due) → Fits x → Fits y → Fits (cond b x y)
due_by_lem true x y p q = p
due_by_lem false x y p q = q

pub token_by : (b : Bool) (x y : Token) → Small x → Small y → Small (cond b x y)
token_by true x y p q = p
token_by false x y p q = q

clock_small : (d : Bool) → clock_of d < 16
clock_small true = omega arith
clock_small false = omega arith

turn_small : (d : Bool) → turn_of d < 16
turn_small true = omega arith
turn_small false = omega arith

with_small : (t : Token) (c d o p : Bool) (w n : ℕ) → Small t → w < 16 → n < 256 → Small (with_levels t c d o p w n)
with_small t c d o p w n s h k = record { waiting = h; number = k; answer = s.answer }

pub left_small : (t : Token) (n : ℕ) → Small t → n < 256 → Small (left t n)
left_small t n s h = with_small t t.scl t.sda false false none n s (omega arith) h

due_fits : (t : Token) (a b c : ℕ) → Small t → a < 16 → b < 16 → c < 16 → Fits (due_of t a b c)
due_fits t a b c s p q r = record { token = s; first = p; second = q; third = r }

none_small : none < 16
none_small = omega arith

pub stay_fits : (t : Token) → Small t → Fits (stayed t)
stay_fits t s = due_fits t none none none s none_small none_small none_small

fallen_fits : (t : Token) → Small t → Fits (fallen t)
fallen_fits t s =
    due_by_lem t.pulse _ _
    (due_fits _ (clock_of t.sda) t.waiting none
    (with_small t false t.sda false (cond t.sda t.high t.low) none t.number s none_small s.number)
    (clock_small t.sda) s.waiting none_small)
    (stay_fits _ (with_small t false t.sda false t.next t.waiting t.number s s.waiting s.number))

seen_fits : (t : Token) (v : Seen) → Small t → Fits (seen_by t v)
seen_fits t Low s = due_by_lem t.scl _ _ (fallen_fits t s) (stay_fits t s)
seen_fits t Fell s =
    due_by_lem t.scl _ _ (fallen_fits t s) (stay_fits (left t late) (left_small t late s (omega arith)))
seen_fits t (High d) s =
    due_by_lem t.scl _ _
    (due_by_lem (beq t.sda d) _ _ (stay_fits t s)
    (due_fits _ t.waiting (turn_of d) none (with_small t true d false t.pulling none t.number s none_small s.number)
    s.waiting (turn_small d) none_small))
    (stay_fits _ (with_small t true d true t.pulling t.waiting t.number s s.waiting s.number))

pub look_fits : (t : Token) (v : Seen) → Small t → Fits (look_of t v)
unfolding look_of
look_fits t v s = due_by_lem (eqb t.number 0) (seen_by t v) (stayed t) (seen_fits t v s) (stay_fits t s)

hung_small : (t : Token) (o : Bool) (w : ℕ) → Small t → w < 16 → Small (hung t o w)
hung_small t o w s h = with_small t t.scl t.sda o t.pulling w t.number s h s.number

outlasted_fits : (t : Token) (e : ℕ) (b : Bool) → Small t → e < 16 → Fits (outlasted t e b)
outlasted_fits t e b s h =
    due_by_lem b _ _
    (due_fits (hung t true e) t.waiting none none (hung_small t true e s h) s.waiting none_small none_small)
    (due_fits (hung t false none) (clock_of t.sda) t.waiting e (hung_small t false none s none_small)
    (clock_small t.sda) s.waiting h)

handed_fits : (t : Token) (e : ℕ) (b : Bool) → Small t → e < 16 → Fits (handed_to t e b)
handed_fits t e b s h =
    due_by_lem t.pulse _ _
    (due_by_lem (ltb 7 t.waiting) _ _ (stay_fits (hung t true e) (hung_small t true e s h)) (outlasted_fits t e b s h))
    (due_fits t e none none s h none_small none_small)

pub hand_fits : (t : Token) (e : ℕ) (b : Bool) → Small t → e < 16 → Fits (hand_of t e b)
unfolding hand_of
hand_fits t e b s h =
    due_by_lem (eqb t.number 0) _ (stayed t)
    (due_by_lem (ltb e 4) (stayed (left t unknown)) _ (stay_fits (left t unknown) (left_small t unknown s (omega arith)))
    (due_by_lem (ltb 7 e) (stayed (left t unknown)) (handed_to t e b)
    (stay_fits (left t unknown) (left_small t unknown s (omega arith))) (handed_fits t e b s h)))
    (stay_fits t s)

pub driven_small : (p : Bool) (t : Token) (c : Readings) → Small t → Small (driven_of p t c)
unfolding driven_of
driven_small p t c s =
    token_by (eqb t.number 0) _ t
    (token_by (beq p t.pulling) t _ s
    (token_by (was_high c) (left t late) t (left_small t late s (omega arith)) s))
    s

pub first_small : (v : Seen) → Small (first_of v)
first_small Low = record { waiting = omega arith; number = omega arith; answer = omega arith }
first_small Fell = record { waiting = omega arith; number = omega arith; answer = omega arith }
first_small (High d) = record { waiting = omega arith; number = omega arith; answer = omega arith }

pub asks_small : (t : Token) (a b c : Bool) (n : ℕ) → Small t → n < 16 → Small (asks t a b c n)
asks_small t a b c n s h = record { waiting = s.waiting; number = s.number; answer = h }
