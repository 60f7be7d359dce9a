-- SPDX-License-Identifier: Apache-2.0
-- The list run with the record: the device's list run (01), with the record's bytes stepped along and the report. Refusals
-- in the order of 01's numbers; record bytes that hold no record are number 2. `LampsSettled` is the whole outcome.
use Rattle.std.specs.Prelude.{ℕ, ◌≡◌, cond, List, leb, eqb, length, Option, Some, None, Result, Ok, Err}
use Rattle.numbers.specs.Numbers.{accepted, wrong_memory, wrong_state, unknown_event, short_answers}
use Rattle.numbers.specs.Refusal.{number_of}
use Rattle.numbers.specs.declared.Refusal.{Refusal}
use Rattle.fm3130.specs.Chip.{memory_size}
use Rattle.fm3130.specs.declared.State.{State}
use Rattle.fm3130_image.specs.Image.{image_of, decode_of}
use Rattle.fm3130_list.specs.Run.{Ended, run_of, answers_over, all_known, RanThrough}
use Rattle.lamps.specs.Step.{report_of}
use Rattle.lamps.specs.Statement.{proven_by}
use Rattle.lamps_bytes.specs.Kept.{kept_of, bytes_of, is_kept}
use Rattle.lamps.specs.declared.Proving.{Proving}
use Rattle.c_lamps.specs.declared.Reached.{Reached}
use Rattle.c_lamps.specs.declared.Shown.{Shown}

-- All that a caller can see.
pub record Outcome : Type 0 where
  pub number : ℕ
  pub report : ℕ
  pub image : List ℕ
  pub memory : List ℕ
  pub answers : List ℕ
  pub kept : List ℕ

-- Nothing is written, and the report is dark.
abbrev pub refused : ℕ → List ℕ → List ℕ → List ℕ → List ℕ → Outcome
refused n i m a b = record { number = n; report = 0; image = i; memory = m; answers = a; kept = b }

abbrev pub written : Ended → Proving → List ℕ → List ℕ → Outcome
written r p es a =
    record {
      number = accepted;
      report = report_of p;
      image = image_of r.state;
      memory = r.memory;
      answers = answers_over r es a;
      kept = bytes_of p;
    }

abbrev pub on_decoded : Option State → List ℕ → List ℕ → List ℕ → List ℕ → List ℕ → Outcome
on_decoded None i m es a b = refused wrong_state i m a b
on_decoded (Some s) i m es a b =
    cond (is_kept b)
    (cond (all_known es)
    (cond (leb (length es) (length a)) (written (run_of s m es) (proven_by (kept_of b) s m es) es a)
    (refused short_answers i m a b))
    (refused unknown_event i m a b))
    (refused wrong_state i m a b)

unfoldable pub outcome_of : List ℕ → List ℕ → List ℕ → List ℕ → List ℕ → Outcome
outcome_of i m es a b =
    cond (eqb (length m) memory_size) (on_decoded (decode_of i) i m es a b) (refused wrong_memory i m a b)

abbrev pub seen : Shown → List ℕ → List ℕ → List ℕ → List ℕ → Outcome
seen r i m a b =
    record { number = r.number; report = r.report; image = i; memory = m; answers = a; kept = b }

-- What a call returns: the report, or why it was refused, which is dark.
abbrev pub shown : Result ℕ Refusal → Shown
shown (Ok report) = record { number = accepted; report = report }
shown (Err r) = record { number = number_of r; report = 0 }

-- The contract of `fm3130_lamps`.
abbrev pub LampsSettled : List ℕ → List ℕ → List ℕ → List ℕ → List ℕ → Shown → List ℕ → List ℕ → List ℕ → List ℕ → Type 0
LampsSettled i m es a b r i' m' a' b' = seen r i' m' a' b' ≡ outcome_of i m es a b

-- Auxiliary: what the loop over a state returns and leaves.
pub record RanWith (s : State) (p : Proving) (m es a : List ℕ) (r : Reached) (m' a' : List ℕ) : Type 0 where
  pub ran : RanThrough s m es a (image_of r.state) m' a'
  pub proving : r.proving ≡ proven_by p s m es

-- Auxiliary: the same in the image.
pub record RanInImage (s : State) (p : Proving) (m es a : List ℕ) (r : Proving) (i' m' a' : List ℕ) : Type 0 where
  pub ran : RanThrough s m es a i' m' a'
  pub proving : r ≡ proven_by p s m es
