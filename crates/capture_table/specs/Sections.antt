-- SPDX-License-Identifier: Apache-2.0
-- The first faulty entry of a capture (02, 10: "A malformed file is named by its first faulty entry"), and the section
-- of each kind.
--   first_faulty          1 to 4, or none where all four are sound
--   entry_of, section_of   the entry and the body of a kind
use Rattle.std.specs.Prelude.{ℕ, cond, List, eqb, Option, Some, None}
use Rattle.capture_table.specs.Table.{entry_at, body_of, is_sound}
use Rattle.capture_table.specs.declared.Entry.{Entry}

-- "Named by its first faulty entry": entries are counted from 1 here, and none says that all four are sound.
unfoldable pub first_faulty : List ℕ → Option ℕ
first_faulty f =
    cond (is_sound f 0)
    (cond (is_sound f 1) (cond (is_sound f 2) (cond (is_sound f 3) None (Some 4)) (Some 3)) (Some 2))
    (Some 1)

-- Auxiliary: which entry is the one of a kind; the fourth, if it is none of the first three.
unfoldable pub index_of : List ℕ → ℕ → ℕ
index_of f k =
    cond (eqb (entry_at f 0).kind k) 0 (cond (eqb (entry_at f 1).kind k) 1 (cond (eqb (entry_at f 2).kind k) 2 3))

-- The entry of a kind.
abbrev pub entry_of : List ℕ → ℕ → Entry
entry_of f k = entry_at f (index_of f k)

-- The section of a kind.
abbrev pub section_of : List ℕ → ℕ → List ℕ
section_of f k = body_of f (entry_of f k)
