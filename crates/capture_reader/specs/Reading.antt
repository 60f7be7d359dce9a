-- SPDX-License-Identifier: Apache-2.0
-- What a reader finds at its place: the byte, and the place after it.
use Rattle.std.specs.Prelude.{ℕ, ◌+◌, cond, List, ltb, length, get_or}
use Rattle.capture_reader.specs.declared.Taken.{Taken}

-- The byte at a place of a file, and the next place. Past the end a byte of 0 is found, and the place stays.
abbrev pub taken_at : List ℕ → ℕ → Taken
taken_at f p = record { byte = get_or f p 0; place = cond (ltb p (length f)) (p + 1) p }
