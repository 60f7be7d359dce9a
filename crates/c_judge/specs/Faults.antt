-- SPDX-License-Identifier: Apache-2.0
-- Which entries are faulty, by the file's bytes (02, 10: "Of its four entries one is faulty if cut short, of unknown or repeated kind,
-- running past the end, overlapping the table or an earlier entry's body, or holding a part that 01 refuses; unequal counts of events
-- and answers fault the later of the two").
--   number, kind, offset, size   four bytes as a number, low byte first; the three numbers of entry n, counted from 0
--   body                         the section that it names
--   Faultless                    an entry with none of those faults
--   SoundExactly                 an entry is sound exactly if it is that
--   FaultFirst, TooLongExactly   "before any event is judged; one over 60 KiB is named too long"
use Rattle.std.specs.Prelude.{ℕ, ◌+◌, ◌*◌, ◌≤◌, ◌<◌, ◌≡◌, true, false, ◌↔◌, List, [], ◌∷◌, length, take, drop, get_or}
use Rattle.fm3130.specs.declared.State.{State}
use Rattle.fm3130_image.specs.Reading.{WrittenBy}
use Rattle.capture_table.specs.Table.{is_sound}
use Rattle.c_judge.specs.Verdict.{verdict_of}
use Rattle.c_judge.specs.declared.Verdict.TheVariants.{Faulty, TooLong}

abbrev pub number : List ℕ → ℕ → ℕ
number f p = get_or f p 0 + get_or f (p + 1) 0 * 256 + get_or f (p + 2) 0 * 65536 + get_or f (p + 3) 0 * 16777216

-- Twelve bytes an entry.
abbrev pub kind : List ℕ → ℕ → ℕ
kind f n = number f (n * 12)

abbrev pub offset : List ℕ → ℕ → ℕ
offset f n = number f (n * 12 + 4)

abbrev pub size : List ℕ → ℕ → ℕ
size f n = number f (n * 12 + 8)

abbrev pub body : List ℕ → ℕ → List ℕ
body f n = take (size f n) (drop (offset f n) f)

abbrev pub EachKnown : List ℕ → Type 0
EachKnown [] = Unit {0}
EachKnown (e ∷ es) = (e ≤ 7) × EachKnown es

-- Kinds are 1 image, 2 memory, 3 events, 4 answers; the table is the first 48 bytes.
pub record Faultless (f : List ℕ) (n : ℕ) : Type 0 where
  pub uncut : n * 12 + 12 ≤ length f
  pub least : 1 ≤ kind f n
  pub most : kind f n ≤ 4
  pub inside : offset f n + size f n ≤ length f
  pub clear : 0 < size f n → 48 ≤ offset f n
  pub image : kind f n ≡ 1 → (s : State) × WrittenBy (body f n) s
  pub memory : kind f n ≡ 2 → length (body f n) ≡ 8192
  pub events : kind f n ≡ 3 → EachKnown (body f n)
  pub unrepeated : (j : ℕ) → j < n → kind f n ≡ kind f j → ⊥
  pub apart : (j : ℕ) → j < n → 0 < size f n → 0 < size f j → offset f j < offset f n + size f n
      → offset f j + size f j ≤ offset f n
  pub even : (j : ℕ) → j < n → 3 ≤ kind f n → 3 ≤ kind f j → size f n ≡ size f j

abbrev pub SoundExactly : Type 0
SoundExactly = (f : List ℕ) (n : ℕ) → (is_sound f n ≡ true) ↔ Faultless f n

-- Whatever the events and the answers are.
abbrev pub FaultFirst : Type 0
FaultFirst =
    (f : List ℕ) (n : ℕ) → length f ≤ 61440 → n < 4 → is_sound f n ≡ false → (k : ℕ) × (verdict_of f ≡ Faulty k) × (k ≤ n + 1)

abbrev pub TooLongExactly : Type 0
TooLongExactly = (f : List ℕ) → (verdict_of f ≡ TooLong) ↔ (61440 < length f)
