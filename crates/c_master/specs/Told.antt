-- SPDX-License-Identifier: Apache-2.0
-- What the lines of a transaction's answers say (02, number 1: "given the answer bytes, it says which data bytes were
-- acknowledged, or which bytes were read (none if a slave or address byte went unacknowledged)").
--   line_at, is_low, byte_from   one line; at a ninth clock, an acknowledge; the byte in eight lines
--   is_open, is_open_read        slave and address bytes were acknowledged
--   list_of                    a list by place
--   flags_of, bytes_of          what the lines of a write and of a read say
use Rattle.std.specs.Prelude.{ℕ, zero, suc, ◌+◌, ◌*◌, Bool, true, cond, not, ◌&&◌, List, [], ◌∷◌, ◌++◌, get_or}
use Rattle.wire.specs.HighFirst.{pushed_all}

-- The line at a place; past the end it is at rest, high.
abbrev pub line_at : List Bool → ℕ → Bool
line_at ls k = get_or ls k true

-- At a ninth clock, where the master leaves the line high, a low line is the device's acknowledge.
abbrev pub is_low : List Bool → ℕ → Bool
is_low ls k = not (line_at ls k)

-- The byte on the line from a place on. 01, Transfers: "Bits come high bit first."
abbrev pub byte_from : List Bool → ℕ → ℕ
byte_from ls k =
    pushed_all 0
    (line_at ls k ∷ line_at ls (k + 1) ∷ line_at ls (k + 2) ∷ line_at ls (k + 3)
    ∷ line_at ls (k + 4) ∷ line_at ls (k + 5) ∷ line_at ls (k + 6) ∷ line_at ls (k + 7) ∷ [])

-- After the Start at 0, the ninth clocks of the slave byte and of the two address bytes stand at 9, 18 and 27.
abbrev pub is_open : List Bool → Bool
is_open ls = is_low ls 9 && (is_low ls 18 && is_low ls 27)

-- Of a read also that of the second slave byte, after the second Start.
abbrev pub is_open_read : List Bool → Bool
is_open_read ls = is_open ls && is_low ls 37

-- The first n values of a function.
abbrev pub list_of : (ℕ → ℕ) → ℕ → List ℕ
list_of f zero = []
list_of f (suc n) = list_of f n ++ (f n ∷ [])

-- A data byte counts as acknowledged if the bytes before it, which open the write, were acknowledged too.
abbrev pub flag_at : List Bool → ℕ → ℕ
flag_at ls i = cond (is_open ls && is_low ls (36 + 9 * i)) 1 0

abbrev pub byte_at : List Bool → ℕ → ℕ
byte_at ls i = byte_from ls (38 + 9 * i)

-- "Which data bytes were acknowledged": of n, a flag for each, 1 if it was.
abbrev pub flags_of : ℕ → List Bool → List ℕ
flags_of n ls = list_of (flag_at ls) n

-- "Which bytes were read (none if a slave or address byte went unacknowledged)": of n, all or none.
unfoldable pub bytes_of : ℕ → List Bool → List ℕ
bytes_of n ls = cond (is_open_read ls) (list_of (byte_at ls) n) []
