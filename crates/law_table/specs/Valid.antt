-- SPDX-License-Identifier: Apache-2.0
-- 02, number 6: "A core can then be invalid only by an image or state handed in."
--   HasDate                  the core is a date and a time that exist
--   StaysValid, FreshValid   the statements
use Rattle.std.specs.Prelude.{ℕ, ◌≡◌, true, List}
use Rattle.calendar.specs.Next.{is_valid}
use Rattle.fm3130.specs.Power.{fresh}
use Rattle.fm3130.specs.declared.State.{State}
use Rattle.fm3130_list.specs.Run.{run_of}

abbrev pub HasDate : State → Type 0
HasDate s = is_valid s.companion.core ≡ true

-- From any state, well-formed or not, with any memory: after any list of events a valid core is valid.
abbrev pub StaysValid : Type 0
StaysValid = (s : State) (m es : List ℕ) → HasDate s → HasDate (run_of s m es).state

abbrev pub FreshValid : Type 0
FreshValid = HasDate fresh
