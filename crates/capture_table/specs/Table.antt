-- SPDX-License-Identifier: Apache-2.0
-- A capture's table of contents (02, 10: "a table of contents first, one entry a section with its kind, offset and
-- length, then the bodies"), and when an entry is sound.
--   kind_number, KindOf         the kinds of sections by their numbers
--   word_at, entry_at, body_of    an entry of the table, and its body
--   stands_in                   an entry by itself
--   clashes                    an entry with an earlier one
--   is_sound                    an entry of the table
use Rattle.std.specs.Prelude.{ℕ, zero, suc, ◌+◌, ◌*◌, Bool, true, false, cond, not, ◌&&◌, ◌||◌, List, leb, ltb, eqb, length, take, drop, get_or, is_some, ◌≡◌, Result, MatchResult}
use Rattle.fm3130.specs.Chip.{memory_size}
use Rattle.fm3130_image.specs.Image.{decode_of}
use Rattle.fm3130_list.specs.Run.{all_known}
use Rattle.capture_table.specs.declared.Entry.{Entry}
use Rattle.capture_table.specs.declared.UnknownKind.{UnknownKind}
use Rattle.capture_table.specs.declared.Kind.{Kind}
use Rattle.capture_table.specs.declared.Kind.TheVariants.{Image, Memory, Events, Answers}

-- "Starting image, memory, events, answers."
abbrev pub image_kind : ℕ
image_kind = 1

abbrev pub memory_kind : ℕ
memory_kind = 2

abbrev pub events_kind : ℕ
events_kind = 3

abbrev pub answers_kind : ℕ
answers_kind = 4

-- Each kind's number in the table; and the kind that a number is, or none where it is no kind's.
abbrev pub kind_number : Kind → ℕ
kind_number Image = image_kind
kind_number Memory = memory_kind
kind_number Events = events_kind
kind_number Answers = answers_kind

abbrev pub KindOf : ℕ → Result Kind UnknownKind → Type 0
KindOf n r = MatchResult r (λ k. n ≡ kind_number k) (λ _. (k : Kind) → n ≡ kind_number k → ⊥)

-- Four entries of twelve bytes.
abbrev pub entry_size : ℕ
entry_size = 12

abbrev pub table_size : ℕ
table_size = 48

-- Auxiliary: four bytes as a number, the low byte first.
abbrev pub word : ℕ → ℕ → ℕ → ℕ → ℕ
word a b c d = a + b * 0x100 + c * 0x10000 + d * 0x1000000

unfoldable pub word_at : List ℕ → ℕ → ℕ
word_at f p = word (get_or f p 0) (get_or f (p + 1) 0) (get_or f (p + 2) 0) (get_or f (p + 3) 0)

-- "One entry a section with its kind, offset and length." Entries are counted from 0 here.
unfoldable pub entry_at : List ℕ → ℕ → Entry
entry_at f n =
    record {
      kind = word_at f (n * entry_size);
      from = word_at f (n * entry_size + 4);
      size = word_at f (n * entry_size + 8);
    }

-- The section that an entry names.
abbrev pub body_of : List ℕ → Entry → List ℕ
body_of f e = take e.size (drop e.from f)

-- Two stretches of bytes overlap: neither is empty, and each begins before the other ends.
unfoldable pub overlap : ℕ → ℕ → ℕ → ℕ → Bool
overlap from size from₂ size₂ =
    ltb 0 size && ltb 0 size₂ && ltb from (from₂ + size₂) && ltb from₂ (from + size)

-- No "part that 01 refuses": an image by number 2, memory by number 1, events by number 3.
unfoldable pub is_accepted : ℕ → List ℕ → Bool
is_accepted kind body =
    cond (eqb kind image_kind) (is_some (decode_of body))
    (cond (eqb kind memory_kind) (eqb (length body) memory_size)
    (cond (eqb kind events_kind) (all_known body) true))

-- An entry by itself: not "of unknown .. kind", not "running past the end", not "overlapping the table", and not
-- "holding a part that 01 refuses".
unfoldable pub stands_in : List ℕ → Entry → Bool
stands_in f e =
    leb image_kind e.kind && leb e.kind answers_kind && leb (e.from + e.size) (length f)
    && not (overlap 0 table_size e.from e.size) && is_accepted e.kind (body_of f e)

-- "Unequal counts of events and answers", of two entries of known kinds.
abbrev pub uneven : Entry → Entry → Bool
uneven e d = leb events_kind e.kind && leb events_kind d.kind && not (eqb e.size d.size)

-- An entry with an earlier one: "of .. repeated kind", "overlapping .. an earlier entry's body", and the counts, which
-- "fault the later of the two".
unfoldable pub clashes : Entry → Entry → Bool
clashes e d =
    eqb e.kind d.kind || overlap d.from d.size e.from e.size || uneven e d

-- An entry with any of the first so many.
unfoldable pub clashes_below : List ℕ → Entry → ℕ → Bool
clashes_below f e zero = false
clashes_below f e (suc n) = clashes_below f e n || clashes e (entry_at f n)

-- An entry of the table: not "cut short", sound by itself, and no clash with an earlier one.
unfoldable pub is_sound : List ℕ → ℕ → Bool
is_sound f n =
    leb (n * entry_size + entry_size) (length f) && stands_in f (entry_at f n) && not (clashes_below f (entry_at f n) n)
