-- SPDX-License-Identifier: Apache-2.0
-- The verdict on a capture (02, 10): too long; the first faulty entry; the first answer that the rules do not give; or
-- all agree. `JudgeSettled` is the whole outcome: the file is only read.
--   figures_of                        number and values of each verdict
--   right_answers, compared           the answers by the rules, and beside the recorded ones
--   verdict_on, verdict_of            the verdict, of the file's bytes
--   JudgeSettled, JudgeForCSettled   the contracts of `judge` and of `fm3130_judge`
use Rattle.std.specs.Prelude.{ℕ, ◌+◌, ◌≡◌, cond, List, [], ◌∷◌, leb, eqb, length, Option, Some, None}
use Rattle.fm3130_image.specs.Image.{candidate}
use Rattle.fm3130_list.specs.Run.{run_of}
use Rattle.capture_table.specs.Table.{image_kind, memory_kind, events_kind, answers_kind}
use Rattle.capture_table.specs.Sections.{first_faulty, section_of}
use Rattle.c_judge.specs.declared.Figures.{Figures}
use Rattle.c_judge.specs.declared.Judgement.{Judgement}
use Rattle.c_judge.specs.declared.Verdict.{Verdict}
use Rattle.c_judge.specs.declared.Verdict.TheVariants.{Agree, Differs, Faulty, TooLong}

-- "At most 60 KiB in all."
abbrev pub limit : ℕ
limit = 61440

-- 01, at its end: "a definition lists this paper's number and values for each of its cases". 02 gives no numbers, so
-- they are ours. The values: how many answers agree; the place of the first wrong one, from 0, with the recorded and
-- the right byte; the faulty entry, 1 to 4.
abbrev pub figures_of : Verdict → Figures
figures_of (Agree n) = record { number = 0; place = n; recorded = 0; right = 0 }
figures_of (Differs n a r) = record { number = 1; place = n; recorded = a; right = r }
figures_of (Faulty n) = record { number = 2; place = n; recorded = 0; right = 0 }
figures_of TooLong = record { number = 3; place = 0; recorded = 0; right = 0 }

-- The answers that "our rules" give: those of the list run, from the recorded image and memory, to the recorded events.
abbrev pub right_answers : List ℕ → List ℕ
right_answers f =
    (run_of (candidate (section_of f image_kind)) (section_of f memory_kind) (section_of f events_kind)).answers

-- "The first answer that our rules do not give": right answers and recorded ones side by side, counted from a place on.
unfoldable pub compared : ℕ → List ℕ → List ℕ → Verdict
compared n [] bs = Agree n
compared n (r ∷ rs) [] = Agree n
compared n (r ∷ rs) (b ∷ bs) = cond (eqb b r) (compared (n + 1) rs bs) (Differs n b r)

-- Auxiliary: by the first faulty entry, if there is one.
abbrev pub verdict_on : List ℕ → Option ℕ → Verdict
verdict_on f None = compared 0 (right_answers f) (section_of f answers_kind)
verdict_on f (Some n) = Faulty n

-- "A malformed file is named by its first faulty entry before any event is judged; one over 60 KiB is named too long."
unfoldable pub verdict_of : List ℕ → Verdict
verdict_of f = cond (leb (length f) limit) (verdict_on f (first_faulty f)) TooLong

-- The contract of `judge`: number and values of what it answers are those of the verdict on the file.
abbrev pub JudgeSettled : List ℕ → Verdict → Type 0
JudgeSettled f v = figures_of v ≡ figures_of (verdict_of f)

-- Auxiliary: what of a verdict's figures C is told.
abbrev pub told_to_c : Figures → Judgement
told_to_c g = record { number = g.number; place = g.place }

-- The contract of `fm3130_judge`.
abbrev pub JudgeForCSettled : List ℕ → Judgement → Type 0
JudgeForCSettled f r = r ≡ told_to_c (figures_of (verdict_of f))
