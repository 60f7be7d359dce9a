-- SPDX-License-Identifier: Apache-2.0
-- A list of events over what one event does. Its loop, one event more and at the end: what is left of the events, run
-- from here, gives the whole, and one event moves from what is left to what was done. A list in two pieces: the second
-- goes on from what the first left. What every event keeps, a list keeps.
use Prim.Native.Nat.{ℕ, zero, suc, ◌+◌, ◌≤◌, ◌<◌}
use mathlib.Core.Path.{◌≡◌, refl, sym, ap, ◌∙◌}
use mathlib.Core.Bool.{Bool, true, ◌&&◌, and-true, and_assoc}
use mathlib.Core.List.{List, [], ◌∷◌, ◌++◌, append_assoc, append-nil}
use native.Mathlib.Omega.{arith}
use native.Mathlib.Numerals.{add-one}
use native.Mathlib.Nat.{le_of_suc-le-suc, not-suc-le-zero}
use lib.Dec.{leb}
use Rattle.std.proofs.Common.{fold}
use lib.ListN.{length, take, drop, get_or, set, drop_of_length-le, take-append-drop}
use lib.Seq.{take-suc-set, drop-cons, drop-set-lt, drop-drop}
use borrow.Author.Tests.{leb-true}
use Rattle.wire.proofs.Tests.{and_split}
use Rattle.bus_list.specs.Run.{Stepped, Ended, following, run_of, RanThrough, all_known}

-- the test of the events: what was seen of them, and the rest
module _ (last : ℕ) where
  pub known_fold : (k : Bool) (es : List ℕ) → fold (λ k e. k && leb e last) k es ≡ (k && all_known last es)
  unfolding all_known
  known_fold k [] = sym (and-true k)
  known_fold k (e ∷ es) = known_fold (k && leb e last) es ∙ and_assoc k (leb e last) (all_known last es)

  pub known_at : (es : List ℕ) → all_known last es ≡ true → (i : ℕ) → i < length es → get_or es i 0 ≤ last
  unfolding all_known
  known_at [] k i h = absurd (not-suc-le-zero h)
  known_at (e ∷ es) k zero h = leb-true e last (and_split (leb e last) (all_known last es) k).0
  known_at (e ∷ es) k (suc i) h = known_at es (and_split (leb e last) (all_known last es) k).1 i (le_of_suc-le-suc h)

  pub known_append : (xs ys : List ℕ) → all_known last (xs ++ ys) ≡ (all_known last xs && all_known last ys)
  unfolding all_known
  known_append [] ys = refl
  known_append (e ∷ xs) ys =
      rw (known_append xs ys) (sym (and_assoc (leb e last) (all_known last xs) (all_known last ys)))

-- the answers past the events stay
pub rest_kept : (a a₀ : List ℕ) (i v : ℕ) → drop i a ≡ drop i a₀ → drop (i + 1) (set a i v) ≡ drop (i + 1) a₀
rest_kept a a₀ i v e =
    drop-set-lt (i + 1) a i v (omega arith) ∙ sym (drop-drop 1 i a) ∙ ap (λ (l : List ℕ). drop 1 l) e ∙ drop-drop 1 i a₀

-- a state that is within what is asked of it, and a memory of its size
pub record EndedOk {State : Type 0} (Ok : State → Type 0) (size : ℕ) (r : Ended State) : Type 0 where
  pub state : Ok r.state
  pub memory : length r.memory ≡ size

module _ {State : Type 0} (after : State → List ℕ → ℕ → Stepped State) where
  -- one turn: the answer goes to its place, and the rest of the run goes on from the next state
  pub run_more : (s : State) (m es a : List ℕ) (i : ℕ) → i < length es → i < length a
      → (let d = after s m (get_or es i 0) in
      following (take (i + 1) (set a i d.answer)) (run_of after d.state d.memory (drop (i + 1) es)))
      ≡ following (take i a) (run_of after s m (drop i es))
  unfolding run_of
  run_more s m es a i he ha = rw (add-one, take-suc-set, drop-cons es i 0) (simp append_assoc)

  -- nothing is left
  run_end : (s : State) (m es : List ℕ) (i : ℕ) → length es ≤ i
      → run_of after s m (drop i es) ≡ record { state = s; memory = m; answers = [] }
  unfolding run_of
  run_end s m es i h = rw (drop_of_length-le es h)

  -- the loop's end
  pub run_done : {Kept : Type 0} (keep : State → Kept) (s₀ s : State) (m₀ m es a₀ a : List ℕ) (i : ℕ) → i ≤ length es
      → length es ≤ i
      → following (take i a) (run_of after s m (drop i es)) ≡ run_of after s₀ m₀ es → drop i a ≡ drop i a₀
      → (k : Kept) → k ≡ keep s → RanThrough (run_of after) keep s₀ m₀ es a₀ k m a
  run_done keep s₀ s m₀ m es a₀ a i h g e d k w₀ =
      let w : following (take i a) (record { state = s; memory = m; answers = [] }) ≡ run_of after s₀ m₀ es =
      rw (run_end s m es i g) at e in
      let n : i ≡ length es = omega arith in
      let front : take i a ≡ (run_of after s₀ m₀ es).answers =
      sym (append-nil (take i a)) ∙ ap (λ (r : Ended State). r.answers) w in
      record {
        image = w₀ ∙ ap (λ (r : Ended State). keep r.state) w;
        memory = ap (λ (r : Ended State). r.memory) w;
        answers = sym (take-append-drop i a) ∙ rw (d, front, n) refl;
      }

  -- a list in two pieces: the second goes on from what the first left
  pub run_append : (s : State) (m xs ys : List ℕ)
      → run_of after s m (xs ++ ys)
      ≡ following (run_of after s m xs).answers (run_of after (run_of after s m xs).state (run_of after s m xs).memory ys)
  unfolding run_of
  run_append s m [] ys = refl
  run_append s m (e ∷ xs) ys =
      let d = after s m e in ap (following (d.answer ∷ [])) (run_append d.state d.memory xs ys)

  -- one answer an event
  pub answers_length : (s : State) (m es : List ℕ) → length (run_of after s m es).answers ≡ length es
  unfolding run_of
  answers_length s m [] = refl
  answers_length s m (e ∷ es) = let d = after s m e in ap suc (answers_length d.state d.memory es)

  -- what every event keeps, a list keeps
  pub record Keeps (Ok : State → Type 0) (size : ℕ) : Type 0 where
    pub state : (s : State) (m : List ℕ) (e : ℕ) → Ok s → length m ≡ size → Ok (after s m e).state
    pub memory : (s : State) (m : List ℕ) (e : ℕ) → Ok s → length m ≡ size → length (after s m e).memory ≡ size

  pub run_ok : {Ok : State → Type 0} {size : ℕ} → Keeps Ok size → (s : State) (m es : List ℕ) → Ok s → length m ≡ size
      → EndedOk Ok size (run_of after s m es)
  unfolding run_of
  run_ok k s m [] w h = record { state = w; memory = h }
  run_ok k s m (e ∷ es) w h =
      let d = after s m e in
      let r = run_ok k d.state d.memory es (k.state s m e w h) (k.memory s m e w h) in
      record { state = r.state; memory = r.memory }
