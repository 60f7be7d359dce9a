-- SPDX-License-Identifier: Apache-2.0
-- What the functions over the token do. Auxiliary: `Session` says what it comes to.
use Rattle.std.specs.Prelude.{ℕ, Bool, true, false, cond, ◌||◌, List, [], ◌∷◌, ◌++◌, eqb, ltb}
use Rattle.std.specs.Bool.{beq}
use Rattle.pins_levels.specs.Wave as Wave
use Rattle.pins_levels.specs.declared.Seen.{Seen}
use Rattle.pins_levels.specs.declared.Seen.TheVariants.{Low, Fell, High}
use Rattle.pins_levels.specs.declared.Token.{Token}
use Rattle.pins_levels.specs.declared.Due.{Due}

abbrev pub clock_of : Bool → ℕ
clock_of d = Wave.clock_of d

-- No event; an event that may not be handed in; a look that came too late; the answer before the part was asked.
abbrev pub none : ℕ
none = 8

abbrev pub unknown : ℕ
unknown = 3

abbrev pub late : ℕ
late = 0x80

abbrev pub unasked : ℕ
unasked = 1

-- The levels and the pulse, what SDA does, what waits, the number: the lines and the answer stay.
abbrev pub with_levels : Token → Bool → Bool → Bool → Bool → ℕ → ℕ → Token
with_levels t c d o p w n =
    record {
      scl = c;
      sda = d;
      pulse = o;
      pulling = p;
      next = t.next;
      low = t.low;
      high = t.high;
      waiting = w;
      number = n;
      answer = t.answer;
    }

abbrev pub start_of : Bool → Bool → Token
start_of c d =
    record {
      scl = c;
      sda = d;
      pulse = false;
      pulling = false;
      next = false;
      low = false;
      high = false;
      waiting = none;
      number = 0;
      answer = unasked;
    }

abbrev pub first_of : Seen → Token
first_of Low = start_of false false
first_of Fell = start_of false false
first_of (High d) = start_of true d

abbrev pub left : Token → ℕ → Token
left t n = with_levels t t.scl t.sda false false none n

abbrev pub due_of : Token → ℕ → ℕ → ℕ → Due
due_of t a b c = record { token = t; first = a; second = b; third = c }

abbrev pub stayed : Token → Due
stayed t = due_of t none none none

-- SDA at a fall: by the level of a whole pulse, or as it was to be anyway.
abbrev pub fallen : Token → Due
fallen t =
    cond t.pulse
    (due_of (with_levels t false t.sda false (cond t.sda t.high t.low) none t.number) (clock_of t.sda) t.waiting none)
    (stayed (with_levels t false t.sda false t.next t.waiting t.number))

abbrev pub risen : Token → Bool → Due
risen t d = stayed (with_levels t true d true t.pulling t.waiting t.number)

abbrev pub turned : Token → Bool → Due
turned t d = due_of (with_levels t true d false t.pulling none t.number) t.waiting (Wave.turn_of d) none

abbrev pub seen_by : Token → Seen → Due
seen_by t Low = cond t.scl (fallen t) (stayed t)
seen_by t Fell = cond t.scl (fallen t) (stayed (left t late))
seen_by t (High d) = cond t.scl (cond (beq t.sda d) (stayed t) (turned t d)) (risen t d)

unfoldable pub look_of : Token → Seen → Due
look_of t v = cond (eqb t.number 0) (seen_by t v) (stayed t)

-- SCL as it is read before SDA is turned, and as it is read after that.
pub record Readings : Type 0 where
  pub before : Bool
  pub after : Bool

abbrev pub was_high : Readings → Bool
was_high r = r.before || r.after

-- SDA, which was pulled or not (p), is to be as the token says: it is turned between two readings of SCL, or it is too late.
unfoldable pub driven_of : Bool → Token → Readings → Token
driven_of p t r =
    cond (eqb t.number 0) (cond (beq p t.pulling) t (cond (was_high r) (left t late) t)) t

abbrev pub asks : Token → Bool → Bool → Bool → ℕ → Token
asks t a b c n =
    record {
      scl = t.scl;
      sda = t.sda;
      pulse = t.pulse;
      pulling = cond t.scl t.pulling a;
      next = a;
      low = b;
      high = c;
      waiting = t.waiting;
      number = t.number;
      answer = n;
    }

abbrev pub hung : Token → Bool → ℕ → Token
hung t o w = with_levels t t.scl t.sda o t.pulling w t.number

-- An event that finds another one waiting.
abbrev pub outlasted : Token → ℕ → Bool → Due
outlasted t e eighth =
    cond eighth (due_of (hung t true e) t.waiting none none)
    (due_of (hung t false none) (clock_of t.sda) t.waiting e)

abbrev pub handed_to : Token → ℕ → Bool → Due
handed_to t e eighth =
    cond t.pulse (cond (ltb 7 t.waiting) (stayed (hung t true e)) (outlasted t e eighth)) (due_of t e none none)

unfoldable pub hand_of : Token → ℕ → Bool → Due
hand_of t e eighth =
    cond (eqb t.number 0)
    (cond (ltb e 4) (stayed (left t unknown)) (cond (ltb 7 e) (stayed (left t unknown)) (handed_to t e eighth)))
    (stayed t)

-- The events of the eight among those that are due.
unfoldable pub known : ℕ → List ℕ
known e = cond (ltb e 8) (e ∷ []) []

abbrev pub events_of : Due → List ℕ
events_of d = known d.first ++ (known d.second ++ known d.third)
