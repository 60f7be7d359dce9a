-- SPDX-License-Identifier: Apache-2.0
-- What a verdict tells of a file, in 02's words: "names the first answer that our rules do not give, or says that all
-- agree"; "named by its first faulty entry before any event is judged".
--   First, NamesTheFirst         a wrong answer, and every one before it right
--   SaysAllAgree                 the recorded answers are the right ones
--   FirstFault, NamesTheFault    a faulty entry, and every one before it sound
use Rattle.std.specs.Prelude.{ℕ, ◌+◌, ◌≤◌, ◌<◌, ◌≡◌, true, false, List, length, get_or}
use Rattle.capture_table.specs.Table.{is_sound, answers_kind}
use Rattle.capture_table.specs.Sections.{section_of}
use Rattle.c_judge.specs.Verdict.{limit, right_answers, verdict_of}
use Rattle.c_judge.specs.declared.Verdict.TheVariants.{Agree, Differs, Faulty}

-- At place i of two lists, the right answers and the recorded ones, they differ, and at no place before it.
pub record First (rs bs : List ℕ) (i b r : ℕ) : Type 0 where
  pub recorded : get_or bs i 0 ≡ b
  pub right : get_or rs i 0 ≡ r
  pub wrong : b ≡ r → ⊥
  pub within : i < length bs
  pub earlier : (j : ℕ) → j < i → get_or bs j 0 ≡ get_or rs j 0

-- "Names the first answer that our rules do not give."
abbrev pub NamesTheFirst : Type 0
NamesTheFirst =
    (f : List ℕ) (i b r : ℕ) → verdict_of f ≡ Differs i b r → First (right_answers f) (section_of f answers_kind) i b r

-- "Or says that all agree": the recorded answers are the right ones, and the count is theirs.
abbrev pub SaysAllAgree : Type 0
SaysAllAgree =
    (f : List ℕ) (n : ℕ) → verdict_of f ≡ Agree n
    → (section_of f answers_kind ≡ right_answers f) × (n ≡ length (section_of f answers_kind))

-- An entry, counted from 1, is faulty, and every one before it is sound.
pub record FirstFault (f : List ℕ) (n : ℕ) : Type 0 where
  pub before : ℕ
  pub place : n ≡ before + 1
  pub faulty : is_sound f before ≡ false
  pub earlier : (j : ℕ) → j < before → is_sound f j ≡ true

-- "A malformed file is named by its first faulty entry."
abbrev pub NamesTheFault : Type 0
NamesTheFault = (f : List ℕ) (n : ℕ) → verdict_of f ≡ Faulty n → (length f ≤ limit) × FirstFault f n
