-- SPDX-License-Identifier: Apache-2.0
-- The list run with the record beside the plain one: the same tests in the same order, on the same image. And its report is
-- the definition's, since the record of zeros is the one before any event.
use Prim.Native.Nat.{ℕ}
use mathlib.Core.Path.{◌≡◌, refl, ap, ◌∙◌}
use mathlib.Core.Bool.{Bool, true, false, cond}
use mathlib.Core.List.{List}
use native.Mathlib.Omega.{arith}
use lib.Dec.{leb, eqb}
use lib.ListN.{length, replicate}
use Rattle.std.specs.Prelude.{Option, Some, None}
use Rattle.fm3130.specs.Chip.{memory_size}
use Rattle.numbers.specs.Numbers.{accepted, wrong_memory, wrong_state, unknown_event, short_answers}
use Rattle.fm3130.specs.declared.State.{State}
use Rattle.fm3130_image.specs.Image.{image_of, decode_of}
use Rattle.fm3130_image.specs.Reading.{decoded_says}
use Rattle.bus_list.specs.Outcome as list
use Rattle.fm3130_list.specs.Run.{after, run_of, all_known}
use Rattle.fm3130_list.specs.Run as Plain
use Rattle.lamps.specs.Step.{begun, report_of}
use Rattle.lamps.specs.Statement.{proven_by}
use Rattle.lamps.specs.declared.Proving.{Proving}
use Rattle.lamps.proofs.Proven.{proven}
use Rattle.lamps_bytes.specs.Kept.{kept_size, kept_of, is_kept}
use Rattle.c_lamps.specs.Run.{Outcome, refused, written, on_decoded, outcome_of}
use Rattle.c_lamps.specs.Laws.{AsTheListRun, ReportsTheDefinition}
use Rattle.lamps_bytes.proofs.Bytes.{none_kept}

-- two outcomes that a caller of the plain list run cannot tell apart, but for the count
record Same (o : Outcome) (p : Plain.Outcome) : Type 0 where
  pub number : o.number ≡ p.number
  pub image : o.image ≡ p.image
  pub memory : o.memory ≡ p.memory
  pub answers : o.answers ≡ p.answers

module _ (i m es a b : List ℕ) where
  refused_same : (n : ℕ) → Same (refused n i m a b) (Plain.refused n i m a)
  refused_same n = record { number = refl; image = refl; memory = refl; answers = refl }

  accepted_same : (s : State) (t u : Bool)
      → Same
      (cond t (cond u (written (run_of s m es) (proven_by (kept_of b) s m es) es a) (refused short_answers i m a b)) (refused unknown_event i m a b))
      (cond t (cond u (list.written image_of (run_of s m es) es a) (Plain.refused short_answers i m a)) (Plain.refused unknown_event i m a))
  accepted_same s true true = record { number = refl; image = refl; memory = refl; answers = refl }
  accepted_same s true false = refused_same short_answers
  accepted_same s false u = refused_same unknown_event

  decoded_same : (d : Option State) → is_kept b ≡ true
      → Same (on_decoded d i m es a b) (list.on_decoded after image_of memory_size 7 (decoded_says d).number (decoded_says d).returned i m es a)
  unfolding run_of
  decoded_same (Some s) k = rw k (accepted_same s (all_known es) (leb (length es) (length a)))
  decoded_same None k = refused_same wrong_state

  outcomes_same : (t : Bool) → is_kept b ≡ true
      → Same (cond t (on_decoded (decode_of i) i m es a b) (refused wrong_memory i m a b))
      (cond t (list.on_decoded after image_of memory_size 7 (decoded_says (decode_of i)).number (decoded_says (decode_of i)).returned i m es a) (Plain.refused wrong_memory i m a))
  outcomes_same true k = decoded_same (decode_of i) k
  outcomes_same false k = refused_same wrong_memory

pub as_the_list_run : AsTheListRun
unfolding outcome_of list.outcome_of
as_the_list_run i m es a b k =
    let s = outcomes_same i m es a b (eqb (length m) memory_size) k in
    record { number = s.number; image = s.image; memory = s.memory; answers = s.answers }

-- an accepted call has done its list
module _ (i m es a : List ℕ) (s : State) where
  abbrev zeros : List ℕ
  zeros = replicate kept_size 0

  abbrev Reports : Outcome → Type 0
  Reports o = o.number ≡ accepted → o.report ≡ report_of (proven_by begun s m es)

  done_reports : (t u : Bool)
      → Reports
      (cond t (cond u (written (run_of s m es) (proven_by (kept_of zeros) s m es) es a) (refused short_answers i m a zeros)) (refused unknown_event i m a zeros))
  done_reports true true n = ap (λ (p : Proving). report_of (proven_by p s m es)) none_kept.held
  done_reports true false n = omega arith
  done_reports false u n = omega arith

  decoded_reports : (d : Option State) → d ≡ Some s → Reports (on_decoded d i m es a zeros)
  decoded_reports d e = rw (e, none_kept.taken) (done_reports (all_known es) (leb (length es) (length a)))

  reports : (t : Bool) → decode_of i ≡ Some s → Reports (cond t (on_decoded (decode_of i) i m es a zeros) (refused wrong_memory i m a zeros))
  reports true e = decoded_reports (decode_of i) e
  reports false e = λ n. omega arith

pub reports_the_definition : ReportsTheDefinition
unfolding outcome_of
reports_the_definition i m es a s d p n = reports i m es a s (eqb (length m) memory_size) d n ∙ proven s m es p
