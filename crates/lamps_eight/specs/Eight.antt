-- SPDX-License-Identifier: Apache-2.0
-- The eight lamps by value, line by line of the log, and the report.
--   lamp_next, lamps_next   one lamp, and all, after one more line
--   byte_of                the report
use Rattle.std.specs.Prelude.{ℕ, ◌+◌, ◌-◌, Bool, cond, eqb, ltb}
use Rattle.lamps_eight.specs.Lit.{lamp_address}
use Rattle.lamps_eight.specs.declared.Mark.{Mark}
use Rattle.lamps_eight.specs.declared.Mark.TheVariants.{Failed, Ended, Ticked, Gave, Other}
use Rattle.lamps_eight.specs.declared.Lamp.{Lamp}
use Rattle.lamps_eight.specs.declared.Lamps.{Lamps}

-- A lamp keeps what the transaction under way gave (0 nothing, 1 lit, 2 dark), and for how many ticks it is still lit.
abbrev pub lamp : ℕ → ℕ → Lamp
lamp h n = record { held = h; left = n }

abbrev pub lamp_ended : Lamp → Lamp
lamp_ended l = cond (eqb l.held 0) l (cond (eqb l.held 1) (lamp 0 3) (lamp 0 0))

abbrev pub lamp_gave : ℕ → Lamp → Lamp
lamp_gave v l = cond (eqb v 1) (lamp 1 l.left) (lamp 2 l.left)

abbrev pub lamp_next : ℕ → Mark → Lamp → Lamp
lamp_next at Failed l = lamp 0 0
lamp_next at Ended l = lamp_ended l
lamp_next at Ticked l = lamp l.held (l.left - 1)
lamp_next at (Gave a v) l = cond (eqb a at) (lamp_gave v l) l
lamp_next at Other l = l

abbrev pub lamps_next : Mark → Lamps → Lamps
lamps_next x l =
    record {
      zero = lamp_next (lamp_address 0) x l.zero;
      one = lamp_next (lamp_address 1) x l.one;
      two = lamp_next (lamp_address 2) x l.two;
      three = lamp_next (lamp_address 3) x l.three;
      four = lamp_next (lamp_address 4) x l.four;
      five = lamp_next (lamp_address 5) x l.five;
      six = lamp_next (lamp_address 6) x l.six;
      seven = lamp_next (lamp_address 7) x l.seven;
    }

abbrev pub dark : Lamps
dark =
    record {
      zero = lamp 0 0;
      one = lamp 0 0;
      two = lamp 0 0;
      three = lamp 0 0;
      four = lamp 0 0;
      five = lamp 0 0;
      six = lamp 0 0;
      seven = lamp 0 0;
    }

abbrev pub bit : Bool → ℕ → ℕ
bit d n = cond d n 0

-- One byte, bit k for lamp k.
abbrev pub lamps_byte : Bool → Bool → Bool → Bool → Bool → Bool → Bool → Bool → ℕ
lamps_byte a b c d e f g h =
    bit a 1 + bit b 2 + bit c 4 + bit d 8 + bit e 16 + bit f 32 + bit g 64 + bit h 128

abbrev pub shines : Lamp → Bool
shines l = ltb 0 l.left

abbrev pub byte_of : Lamps → ℕ
byte_of l =
    lamps_byte (shines l.zero) (shines l.one) (shines l.two) (shines l.three) (shines l.four)
    (shines l.five) (shines l.six) (shines l.seven)
