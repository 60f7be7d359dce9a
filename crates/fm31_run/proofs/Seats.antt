-- SPDX-License-Identifier: Apache-2.0
-- One event on a device in its seat, from what the code finds; that every event keeps its limits; the loop of a list of
-- events, one event more and at the end. And a device alone: at the first place each of the ten event bytes is heard as
-- itself, and before it nobody answered.
use Prim.Native.Nat.{ℕ, ◌+◌, ◌/◌, ◌%◌, ◌≤◌, ◌<◌}
use mathlib.Core.Path.{◌≡◌, refl, sym, ap, subst, ◌∙◌}
use mathlib.Core.Bool.{Bool, true, false, cond}
use mathlib.Core.List.{List, [], ◌∷◌, ◌++◌, append_assoc}
use native.Mathlib.Omega.{arith}
use native.Mathlib.Numerals.{add-one}
use native.Mathlib.Nat.{le_of_suc-le-suc, not-suc-le-zero}
use lib.Dec.{ltb, leb}
use lib.ListN.{length, take, drop, get_or, set, drop_of_length-le, take-append-drop}
use lib.Seq.{take-suc-set, drop-cons, drop-set-lt}
use borrow.Author.Tests.{eq-eqb, ltb-true, ltb-false, leb-true}
use Rattle.bits.proofs.Cases.{by_cond}
use Rattle.wire.proofs.Tests.{and_split, by_test}
use Rattle.bus.specs.Select.{lone}
use Rattle.bus_list.specs.Run as list
use Rattle.bus_list.proofs.Runs.{answers_length}
use Rattle.fm31.specs.Chip.{last_event, event_of}
use Rattle.fm31.specs.Limits.{well_formed}
use Rattle.fm31.specs.Step.{AnsweredWith}
use Rattle.fm31.specs.Run.{Ended, following, after, run_of}
use Rattle.fm31.specs.declared.State.{State}
use Rattle.fm31.specs.declared.Answered.{Answered}
use Rattle.fm31.proofs.Entry.{event_ok}
use Rattle.fm31_run.specs.Seat.{hears_at, own_byte, joined_at, joined_over, heard_in, ran_in, HeardAs, RanAt}
use Rattle.fm31_run.specs.Code.Run.{RanThrough, all_known}
use Rattle.fm31_run.specs.declared.Seat.{Seat}

own_test : (b : Bool) (e : ℕ) → ltb e 8 ≡ b → cond b e (8 + e % 2) ≤ last_event
own_test true e h = let l = ltb-true e 8 h in omega arith
own_test false e h = omega arith

pub own_small : (e : ℕ) → own_byte e ≤ last_event
unfolding own_byte
own_small e = own_test (ltb e 8) e refl

-- one event
module _ (z : Seat) (s : State) (m : List ℕ) (e before : ℕ) where
  pub heard_yes : (own v : ℕ) (r : Answered) (m' : List ℕ) → hears_at z.place e ≡ true → own ≡ own_byte e
      → AnsweredWith z.size z.select r m' (event_of z.size z.select s m own)
      → v ≡ joined_at z.place before r.answer
      → HeardAs z s m e before (record { state = r.state; answer = v }) m'
  heard_yes own v r m' k o a j =
      let w = subst (λ (o : ℕ). AnsweredWith z.size z.select r m' (event_of z.size z.select s m o)) o a in
      record {
        state = rw k (ap (λ (r : Answered). r.state) w.result);
        answer = j ∙ rw k (ap (λ (r : Answered). joined_at z.place before r.answer) w.result);
        memory = rw k w.memory;
      }

  pub heard_no : (v : ℕ) → hears_at z.place e ≡ false → v ≡ joined_at z.place before 1
      → HeardAs z s m e before (record { state = s; answer = v }) m
  heard_no v k j = record { state = rw k refl; answer = j ∙ rw k refl; memory = rw k refl }

-- it keeps a well-formed state well-formed, and the memory's length
module _ (z : Seat) (s : State) (m : List ℕ) (e : ℕ) where
  pub heard_well : 0 < z.size → well_formed z.size z.select s ≡ true → length m ≡ z.size
      → well_formed z.size z.select (heard_in z s m e).state ≡ true
  heard_well p w l =
      by_cond (λ (d : list.Stepped State). well_formed z.size z.select d.state ≡ true) (hears_at z.place e)
      (λ k. (event_ok z.size z.select p s m (own_byte e) w l).state) (λ k. w)

  pub heard_sized : 0 < z.size → well_formed z.size z.select s ≡ true → length m ≡ z.size
      → length (heard_in z s m e).memory ≡ z.size
  heard_sized p w l =
      by_cond (λ (d : list.Stepped State). length d.memory ≡ z.size) (hears_at z.place e)
      (λ k. (event_ok z.size z.select p s m (own_byte e) w l).memory) (λ k. l)

-- what a list leaves, its answers joined to those of a buffer
abbrev pub over : ℕ → List ℕ → Ended → Ended
over v a r = record { state = r.state; memory = r.memory; answers = joined_over v a r.answers }

module _ (z : Seat) where
  -- one turn: the answer goes to its place, and the rest of the run goes on from the next state
  pub seat_more : (s : State) (m es a : List ℕ) (i : ℕ) → i < length es → i < length a
      → (let d = heard_in z s m (get_or es i 0) in
      let v = joined_at z.place (get_or a i 0) d.answer in
      following (take (i + 1) (set a i v))
      (over z.place (drop (i + 1) (set a i v)) (ran_in z d.state d.memory (drop (i + 1) es))))
      ≡ following (take i a) (over z.place (drop i a) (ran_in z s m (drop i es)))
  unfolding list.run_of
  seat_more s m es a i he ha =
      let d = heard_in z s m (get_or es i 0) in
      let v = joined_at z.place (get_or a i 0) d.answer in
      rw (drop-set-lt (i + 1) a i v (omega arith), add-one, take-suc-set, drop-cons es i 0, drop-cons a i 0)
      (simp append_assoc)

  -- the loop's end
  pub seat_done : (s₀ s : State) (m₀ m es a₀ a : List ℕ) (i : ℕ) → length es ≤ i
      → following (take i a) (over z.place (drop i a) (ran_in z s m (drop i es)))
      ≡ over z.place a₀ (ran_in z s₀ m₀ es)
      → RanAt z s₀ m₀ es a₀ s m a
  unfolding list.run_of
  seat_done s₀ s m₀ m es a₀ a i g e =
      let w : record { state = s; memory = m; answers = take i a ++ drop i a } ≡ over z.place a₀ (ran_in z s₀ m₀ es) =
      rw (drop_of_length-le es g) at e in
      record {
        state = ap (λ (r : Ended). r.state) w;
        memory = ap (λ (r : Ended). r.memory) w;
        answers = sym (take-append-drop i a) ∙ ap (λ (r : Ended). r.answers) w;
      }

-- a device alone
alone_hears : (e : ℕ) → e ≤ last_event → hears_at 0 e ≡ true
alone_hears e l =
    by_test (ltb e 8) (λ y. rw y)
    (λ n. let g = ltb-false e 8 n in rw (n, eq-eqb (e / 2) 4 (omega arith)))

alone_own : (e : ℕ) → e ≤ last_event → own_byte e ≡ e
unfolding own_byte
alone_own e l = by_test (ltb e 8) (λ y. rw y) (λ n. let g = ltb-false e 8 n in rw n (omega arith))

module _ (size : ℕ) where
  abbrev pub first : Seat
  first = record { size = size; select = lone; place = 0 }

  alone_event : (s : State) (m : List ℕ) (e : ℕ) → e ≤ last_event → heard_in first s m e ≡ after size lone s m e
  alone_event s m e l = rw (alone_hears e l, alone_own e l) refl

  alone_ran : (s : State) (m es : List ℕ) → all_known es ≡ true → ran_in first s m es ≡ run_of size lone s m es
  unfolding list.run_of list.all_known run_of
  alone_ran s m [] k = refl
  alone_ran s m (e ∷ es) k =
      let h = and_split (leb e last_event) (all_known es) k in
      let d = after size lone s m e in
      ap (λ (d : list.Stepped State). following (d.answer ∷ []) (ran_in first d.state d.memory es))
      (alone_event s m e (leb-true e last_event h.0))
      ∙ ap (following (d.answer ∷ [])) (alone_ran d.state d.memory es h.1)

-- before the first device nobody answered
pub first_over : (a xs : List ℕ) → length xs ≤ length a → joined_over 0 a xs ≡ xs ++ drop (length xs) a
unfolding joined_at
first_over a [] h = refl
first_over [] (x ∷ xs) h = absurd (not-suc-le-zero h)
first_over (b ∷ a) (x ∷ xs) h = ap (λ (l : List ℕ). x ∷ l) (first_over a xs (le_of_suc-le-suc h))

pub alone : (size : ℕ) (s : State) (m es a : List ℕ) (r : State) (m' a' : List ℕ) → all_known es ≡ true
    → length es ≤ length a → RanAt (first size) s m es a r m' a' → RanThrough size s m es a r m' a'
unfolding run_of
alone size s m es a r m' a' k h w =
    let e = alone_ran size s m es k in
    let n : length (run_of size lone s m es).answers ≡ length es = answers_length (after size lone) s m es in
    record {
      image = w.state ∙ ap (λ (r : Ended). r.state) e;
      memory = w.memory ∙ ap (λ (r : Ended). r.memory) e;
      answers =
          w.answers ∙ (ap (λ (r : Ended). joined_over 0 a r.answers) e
          ∙ (first_over a (run_of size lone s m es).answers (rw n h)
          ∙ ap (λ (k : ℕ). (run_of size lone s m es).answers ++ drop k a) n));
    }
