-- SPDX-License-Identifier: Apache-2.0
-- What the list run with the record is worth to a caller (02, request 11).
--   TakenAgain, InPieces       what a call leaves is taken by the next call; a list in two pieces is the whole list
--   AsTheListRun               number, image, memory and answers are those of the plain list run
--   ReportsTheDefinition       the report of a call on a record of zeros is the definition's
use Rattle.std.specs.Prelude.{ℕ, ◌<◌, ◌≡◌, true, List, ◌++◌, length, get_or, replicate, Some}
use Rattle.wire.specs.declared.Phase.TheVariants.{Idle}
use Rattle.fm3130.specs.Chip.{memory_size}
use Rattle.numbers.specs.Numbers.{accepted}
use Rattle.fm3130.specs.declared.State.{State}
use Rattle.fm3130_image.specs.Image.{decode_of}
use Rattle.fm3130_list.specs.Run.{run_of}
use Rattle.fm3130_list.specs.Run as Plain
use Rattle.lamps.specs.Statement.{proven_by, deserved, logged}
use Rattle.lamps.specs.declared.Proving.{Proving}
use Rattle.lamps_bytes.specs.Kept.{kept_size, kept_of, bytes_of, is_kept}
use Rattle.c_lamps.specs.Run.{outcome_of}

-- The last condition but one says that byte 2 is a byte.
abbrev pub TakenAgain : Type 0
TakenAgain =
    (i m es b : List ℕ) (s : State) → decode_of i ≡ Some s → length m ≡ memory_size → is_kept b ≡ true → get_or b 2 0 < 256
    → is_kept (bytes_of (proven_by (kept_of b) s m es)) ≡ true

abbrev pub InPieces : Type 0
InPieces =
    (r : Proving) (s : State) (m xs ys : List ℕ)
    → proven_by r s m (xs ++ ys) ≡ proven_by (proven_by r s m xs) (run_of s m xs).state (run_of s m xs).memory ys

pub record SameAsList (i m es a b : List ℕ) : Type 0 where
  pub number : (outcome_of i m es a b).number ≡ (Plain.outcome_of i m es a).number
  pub image : (outcome_of i m es a b).image ≡ (Plain.outcome_of i m es a).image
  pub memory : (outcome_of i m es a b).memory ≡ (Plain.outcome_of i m es a).memory
  pub answers : (outcome_of i m es a b).answers ≡ (Plain.outcome_of i m es a).answers

abbrev pub AsTheListRun : Type 0
AsTheListRun = (i m es a b : List ℕ) → is_kept b ≡ true → SameAsList i m es a b

-- "A report is lit exactly if": of a call that is accepted, on a device between transfers.
abbrev pub ReportsTheDefinition : Type 0
ReportsTheDefinition =
    (i m es a : List ℕ) (s : State) → decode_of i ≡ Some s → s.phase ≡ Idle
    → (outcome_of i m es a (replicate kept_size 0)).number ≡ accepted
    → (outcome_of i m es a (replicate kept_size 0)).report ≡ deserved (logged s m es)
