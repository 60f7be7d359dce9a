-- SPDX-License-Identifier: Apache-2.0
-- The events of whole bytes, as a master clocks them, and the lines that answers show (01, Event bytes and answer bytes;
-- Transfers).
--   clock_event, clocks_of        a Clock; Clocks
--   eight_clocks, nine_clocks     a byte; a byte and its ninth clock
--   write_to                     the opening of a memory write
--   is_high, lines_of, last_line   the lines of answers
use Rattle.std.specs.Prelude.{ℕ, ◌%◌, Bool, true, false, List, [], ◌∷◌, ◌++◌, map, eqb}
use Rattle.wire.specs.HighFirst.{sent_bits}
use Rattle.wire.specs.Whole.{nine_bits}

-- "2 Clock with the master's data line low; 3 Clock with it high."
abbrev pub clock_event : Bool → ℕ
clock_event false = 2
clock_event true = 3

abbrev pub clocks_of : List Bool → List ℕ
clocks_of ds = map clock_event ds

-- "Bits come high bit first."
abbrev pub eight_clocks : ℕ → List ℕ
eight_clocks b = clocks_of (sent_bits b)

-- "The ninth clock is the acknowledge"; there the master's line is d.
abbrev pub nine_clocks : ℕ → Bool → List ℕ
nine_clocks b d = clocks_of (nine_bits b d)

-- Start, the slave byte of a memory write, and the two address bytes. At each ninth clock the master leaves the line high.
abbrev pub write_to : ℕ → ℕ → List ℕ
write_to high low = 0 ∷ (nine_clocks 0xA0 true ++ (nine_clocks high true ++ nine_clocks low true))

-- "Bit 0 is the line."
abbrev pub is_high : ℕ → Bool
is_high answer = eqb (answer % 2) 1

abbrev pub lines_of : List ℕ → List Bool
lines_of answers = map is_high answers

-- The line of the last of some Clocks; with none the line is at rest, high.
abbrev pub last_line : List Bool → Bool
last_line [] = true
last_line (d ∷ []) = d
last_line (d ∷ x ∷ ds) = last_line (x ∷ ds)
