-- SPDX-License-Identifier: Apache-2.0
-- The record as bytes in a caller's buffer, 20 of them; 20 zeros are the record before any event.
--   0 refused, 1 and 2 the address, 3 the byte so far, then held and left of each lamp.
--   kept_of, bytes_of   the record that the bytes hold, and back        is_kept   which bytes hold one
use Rattle.std.specs.Prelude.{ℕ, ◌+◌, ◌*◌, ◌/◌, ◌%◌, Bool, false, cond, ◌&&◌, List, [], ◌∷◌, eqb, leb, length, get_or}
use Rattle.lamps_eight.specs.Eight.{lamp, bit}
use Rattle.lamps.specs.Step.{following}
use Rattle.lamps_eight.specs.declared.Lamp.{Lamp}
use Rattle.lamps_eight.specs.declared.Lamps.{Lamps}
use Rattle.lamps.specs.declared.Proving.{Proving}

abbrev pub kept_size : ℕ
kept_size = 20

abbrev pub lamp_in : List ℕ → ℕ → Lamp
lamp_in b n = lamp (get_or b n 0) (get_or b (n + 1) 0)

abbrev pub lamps_in : List ℕ → Lamps
lamps_in b =
    record {
      zero = lamp_in b 4;
      one = lamp_in b 6;
      two = lamp_in b 8;
      three = lamp_in b 10;
      four = lamp_in b 12;
      five = lamp_in b 14;
      six = lamp_in b 16;
      seven = lamp_in b 18;
    }

unfoldable pub kept_of : List ℕ → Proving
kept_of b =
    record {
      follower = following (eqb (get_or b 0 0) 1) (get_or b 1 0 * 256 + get_or b 2 0) (get_or b 3 0);
      lamps = lamps_in b;
    }

unfoldable pub bytes_of : Proving → List ℕ
bytes_of r =
    bit r.follower.refused 1 ∷ r.follower.place / 256 ∷ r.follower.place % 256 ∷ r.follower.byte
    ∷ r.lamps.zero.held ∷ r.lamps.zero.left ∷ r.lamps.one.held ∷ r.lamps.one.left
    ∷ r.lamps.two.held ∷ r.lamps.two.left ∷ r.lamps.three.held ∷ r.lamps.three.left
    ∷ r.lamps.four.held ∷ r.lamps.four.left ∷ r.lamps.five.held ∷ r.lamps.five.left
    ∷ r.lamps.six.held ∷ r.lamps.six.left ∷ r.lamps.seven.held ∷ r.lamps.seven.left ∷ []

-- Held is 0, 1 or 2; at most three ticks are left.
abbrev pub lamp_fits : Lamp → Bool
lamp_fits l = leb l.held 2 && leb l.left 3

abbrev pub lamps_fit : Lamps → Bool
lamps_fit l =
    lamp_fits l.zero && lamp_fits l.one && lamp_fits l.two && lamp_fits l.three && lamp_fits l.four
    && lamp_fits l.five && lamp_fits l.six && lamp_fits l.seven

-- 20 bytes; refused 0 or 1; the address below 2000h; the lamps.
unfoldable pub is_kept : List ℕ → Bool
is_kept b =
    cond (eqb (length b) kept_size) (leb (get_or b 0 0) 1 && leb (get_or b 1 0) 31 && lamps_fit (lamps_in b)) false
