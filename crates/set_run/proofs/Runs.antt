-- SPDX-License-Identifier: Apache-2.0
-- A list run is its events one by one, as the statements on sets have them; and a list in two pieces, from the law of
-- lists (crate `bus_list`).
use Prim.Native.Nat.{ℕ}
use mathlib.Core.Path.{◌≡◌, refl, ap, ◌∙◌}
use mathlib.Core.List.{List, [], ◌∷◌, ◌++◌, map}
use Rattle.bus_list.specs.Run as list
use Rattle.bus_list.proofs.Runs as laws
use Rattle.fm31.specs.Step.{answer_byte}
use Rattle.set_event.specs.Set.{Together, after_event, line_to, after_events, lines_to}
use Rattle.set_run.specs.Run.{following, after, run_of}

pub run_together : (t : Together) (es : List ℕ) → (run_of t es).state ≡ after_events t es
unfolding run_of list.run_of
run_together t [] = refl
run_together t (e ∷ es) = run_together (after_event t e) es

pub run_answers : (t : Together) (es : List ℕ) → (run_of t es).answers ≡ map answer_byte (lines_to t es)
unfolding run_of list.run_of
run_answers t [] = refl
run_answers t (e ∷ es) = ap (λ (z : List ℕ). answer_byte (line_to t e) ∷ z) (run_answers (after_event t e) es)

-- the list has no memory of its own
pub run_memory : (t : Together) (es : List ℕ) → (run_of t es).memory ≡ []
unfolding run_of list.run_of
run_memory t [] = refl
run_memory t (e ∷ es) = run_memory (after_event t e) es

-- the second piece goes on from what the first left
pub run_append : (t : Together) (xs ys : List ℕ)
    → run_of t (xs ++ ys) ≡ following (run_of t xs).answers (run_of (run_of t xs).state ys)
unfolding run_of
run_append t xs ys =
    laws.run_append after t [] xs ys
    ∙ ap (λ (m : List ℕ). following (run_of t xs).answers (list.run_of after (run_of t xs).state m ys)) (run_memory t xs)
