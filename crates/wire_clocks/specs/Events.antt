-- SPDX-License-Identifier: Apache-2.0
-- The events of a master's whole transactions with the memory (02, number 1: "given an address and bytes, it writes the
-- events of one whole transaction .. A read sets its address first and ends its last byte high").
--   written, asked              a byte that the master sends; a byte that it asks for
--   opening                     Start, the slave byte of a write, the address
--   all_written, asked_on, all_asked   data bytes
--   write_events, read_events     the two transactions
--   write_count, read_count       how many events they have (laws `write_count_lem`, `read_count_lem`)
use Rattle.std.specs.Prelude.{ℕ, zero, suc, ◌+◌, ◌*◌, ◌/◌, ◌%◌, Bool, true, false, List, [], ◌∷◌, ◌++◌}
use Rattle.wire_clocks.specs.Clocks.{nine_clocks, write_to}

-- At its ninth clock the master leaves the line high, so that the device's acknowledge is seen.
abbrev pub written : ℕ → List ℕ
written b = nine_clocks b true

-- The master leaves the line high for the device's bits. 01, Transfers: "The master's low ninth bit continues, high ends."
abbrev pub asked : Bool → List ℕ
asked ends = nine_clocks 0xFF ends

-- 01, Transfers: "Memory write: two address bytes."
abbrev pub opening : ℕ → List ℕ
opening a = write_to (a / 256) (a % 256)

-- Auxiliary: bytes that the master sends, one after another.
abbrev pub all_written : List ℕ → List ℕ
all_written [] = []
all_written (b ∷ bs) = written b ++ all_written bs

-- Auxiliary: so many bytes, after each of which the read goes on.
abbrev pub asked_on : ℕ → List ℕ
asked_on zero = []
asked_on (suc n) = asked false ++ asked_on n

-- "Ends its last byte high."
abbrev pub all_asked : ℕ → List ℕ
all_asked zero = []
all_asked (suc n) = asked_on n ++ asked true

-- The address, the data bytes, Stop.
unfoldable pub write_events : ℕ → List ℕ → List ℕ
write_events a bs = opening a ++ (all_written bs ++ (1 ∷ []))

-- "A read sets its address first": then Start again, the slave byte with x = 1, the data bytes, Stop.
unfoldable pub read_events : ℕ → ℕ → List ℕ
read_events a n = opening a ++ (0 ∷ (written 0xA1 ++ (all_asked n ++ (1 ∷ []))))

-- Of n data bytes.
abbrev pub write_count : ℕ → ℕ
write_count n = 29 + 9 * n

abbrev pub read_count : ℕ → ℕ
read_count n = 39 + 9 * n
