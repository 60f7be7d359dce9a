-- SPDX-License-Identifier: Apache-2.0
-- A stretch of recorded events, run and compared. Auxiliary: the entries' contracts speak of the whole file.
--   longest    the events of the longest stretch        Judged   what is told of one, and what it leaves
--   is_agreed   a verdict that says that all agree
use Rattle.std.specs.Prelude.{ℕ, ◌≡◌, Bool, true, false, List}
use Rattle.fm3130.specs.declared.State.{State}
use Rattle.fm3130_image.specs.Image.{image_of}
use Rattle.fm3130_list.specs.Run.{run_of}
use Rattle.c_judge.specs.Verdict.{compared}
use Rattle.c_judge.specs.declared.Verdict.{Verdict}
use Rattle.c_judge.specs.declared.Verdict.TheVariants.{Agree, Differs, Faulty, TooLong}

abbrev pub longest : ℕ
longest = 256

abbrev pub is_agreed : Verdict → Bool
is_agreed (Agree n) = true
is_agreed (Differs n b r) = false
is_agreed (Faulty n) = false
is_agreed TooLong = false

-- From a state and a memory, by events and recorded answers of which so many came before: the verdict on them, and the
-- image and the memory that the events leave.
pub record Judged (s : State) (m es bs : List ℕ) (n : ℕ) (v : Verdict) (i' m' : List ℕ) : Type 0 where
  pub told : v ≡ compared n (run_of s m es).answers bs
  pub image : i' ≡ image_of (run_of s m es).state
  pub memory : m' ≡ (run_of s m es).memory
