-- SPDX-License-Identifier: Apache-2.0
-- The replay: a byte read through a reader, one answer beside another, a stretch of events more, and at the end. What is
-- left of the events, compared from here, gives the whole verdict.
use Prim.Native.Nat.{ℕ, zero, suc, ◌+◌, ◌≤◌, ◌<◌}
use mathlib.Core.Path.{◌≡◌, refl, sym, ap, ◌∙◌}
use mathlib.Core.Bool.{true, false, cond, false≢true}
use mathlib.Core.List.{List, [], ◌∷◌, ◌++◌}
use native.Mathlib.Omega.{arith}
use native.Mathlib.Numerals.{add-one}
use lib.Dec.{eqb}
use lib.ListN.{length, take, drop, get_or, replicate, length-replicate, length-drop, drop_of_length-le, take-append-drop}
use lib.Seq.{drop-cons, length-take-le, get_or-take, get_or-drop, take-take, drop-drop}
use borrow.Author.Tests.{eq-eqb, ne_eqb, lt-ltb}
use Rattle.wire.proofs.Tests.{by_test, and_split}
use Rattle.fm3130.specs.Chip.{memory_size}
use Rattle.fm3130.specs.Limits.{well_formed}
use Rattle.fm3130.specs.declared.State.{State}
use Rattle.fm3130_image.specs.Image.{candidate}
use Rattle.place_clock.specs.Code.Clocking.{Accepted}
use Rattle.place_rows.proofs.Ledger.{image_accepted, lies}
use Rattle.fm3130_list.specs.Run.{Ended, run_of, RanThrough, all_known}
use Rattle.fm3130_list.proofs.Pieces.{run_append, answers_length, known_append}
use Rattle.fm3130_list.proofs.Runs.{run_ok}
use Rattle.capture_reader.specs.Reading.{taken_at}
use Rattle.capture_reader.specs.declared.Taken.{Taken}
use Rattle.c_judge.specs.Verdict.{compared}
use Rattle.c_judge.specs.Code.Stretch.{longest, is_agreed, Judged}
use Rattle.c_judge.specs.declared.Verdict.{Verdict}
use Rattle.c_judge.specs.declared.Verdict.TheVariants.{Agree, Differs, Faulty, TooLong}

pub part_length : (f : List ℕ) (p n : ℕ) → p + n ≤ length f → length (take n (drop p f)) ≡ n
part_length f p n h = length-take-le n (drop p f) (simp length-drop (omega arith))

-- a section's bytes, and a part of them
abbrev pub section : List ℕ → ℕ → ℕ → List ℕ
section f from count = take count (drop from f)

part_of_part : (i n count : ℕ) (xs : List ℕ) → i + n ≤ count → take n (drop i (take count xs)) ≡ take n (drop i xs)
part_of_part zero n count xs h = take-take n count xs (omega arith)
part_of_part (suc i) n zero xs h = absurd (omega arith)
part_of_part (suc i) n (suc count) [] h = refl
part_of_part (suc i) n (suc count) (x ∷ xs) h = part_of_part i n count xs (omega arith)

pub section_part : (f : List ℕ) (from count i n : ℕ) → i + n ≤ count
    → take n (drop i (section f from count)) ≡ section f (from + i) n
section_part f from count i n h = part_of_part i n count (drop from f) h ∙ ap (λ (l : List ℕ). take n l) (drop-drop i from f)

-- the byte of a section that was read through a reader, and the place after
module _ (f : List ℕ) (from count i q : ℕ) (t : Taken) (e : t ≡ taken_at f q) (p : q ≡ from + i) (h : i < count) where
  pub found : t.byte ≡ get_or (section f from count) i 0
  found =
      ap (λ (x : Taken). x.byte) e ∙ ap (λ (x : ℕ). get_or f x 0) p
      ∙ sym (get_or-take count (drop from f) i 0 h ∙ get_or-drop from f i 0)

  pub stepped : from + count ≤ length f → t.place ≡ from + (i + 1)
  stepped l = ap (λ (x : Taken). x.place) e ∙ rw (lt-ltb q (length f) (omega arith)) (omega arith)

-- one recorded answer beside the right one: the rest, counted from the next place
module _ (n : ℕ) (rs bs : List ℕ) (i : ℕ) (hr : i < length rs) (hb : i < length bs) where
  beside_turn : compared (n + i) (drop i rs) (drop i bs)
      ≡ cond (eqb (get_or bs i 0) (get_or rs i 0)) (compared (n + (i + 1)) (drop (i + 1) rs) (drop (i + 1) bs))
      (Differs (n + i) (get_or bs i 0) (get_or rs i 0))
  unfolding compared
  beside_turn =
      let e : n + i + 1 ≡ n + suc i = omega arith in
      rw (drop-cons rs i 0, drop-cons bs i 0, add-one i, e)

  pub beside_differs : (get_or bs i 0 ≡ get_or rs i 0 → ⊥)
      → Differs (n + i) (get_or bs i 0) (get_or rs i 0) ≡ compared (n + i) (drop i rs) (drop i bs)
  beside_differs h = sym (beside_turn ∙ rw (ne_eqb _ _ h))

  pub beside_same : get_or bs i 0 ≡ get_or rs i 0
      → compared (n + (i + 1)) (drop (i + 1) rs) (drop (i + 1) bs) ≡ compared (n + i) (drop i rs) (drop i bs)
  beside_same h = sym (beside_turn ∙ rw (eq-eqb _ _ h))

-- where one list has ended, all agree
compared_none : (n : ℕ) (rs : List ℕ) → compared n rs [] ≡ Agree n
unfolding compared
compared_none n [] = refl
compared_none n (r ∷ rs) = refl

pub beside_end : (n : ℕ) (rs bs : List ℕ) (i : ℕ) → length bs ≤ i → Agree (n + i) ≡ compared (n + i) (drop i rs) (drop i bs)
beside_end n rs bs i h = sym (rw (drop_of_length-le bs h) (compared_none (n + i) (drop i rs)))

-- a verdict on a first part, and that on the rest, which counts where the first part agrees
abbrev pub onward : Verdict → Verdict → Verdict
onward (Agree n) v = v
onward (Differs n b r) v = Differs n b r
onward (Faulty n) v = Faulty n
onward TooLong v = TooLong

compared_append : (n : ℕ) (xs bs ys cs : List ℕ) → length xs ≡ length bs
    → compared n (xs ++ ys) (bs ++ cs) ≡ onward (compared n xs bs) (compared (n + length bs) ys cs)
unfolding compared
compared_append n [] [] ys cs l = let e : n ≡ n + 0 = omega arith in ap (λ (k : ℕ). compared k ys cs) e
compared_append n [] (b ∷ bs) ys cs l = absurd (omega arith)
compared_append n (x ∷ xs) [] ys cs l = absurd (omega arith)
compared_append n (x ∷ xs) (b ∷ bs) ys cs l =
    let e : n + 1 + length bs ≡ n + suc (length bs) = omega arith in
    by_test (eqb b x)
    (λ t.
    rw t
    (compared_append (n + 1) xs bs ys cs (omega arith)
    ∙ ap (λ (k : ℕ). onward (compared (n + 1) xs bs) (compared k ys cs)) e))
    (λ t. rw t)

-- right answers past the recorded ones are not looked at
pub compared_front : (n : ℕ) (xs ys bs : List ℕ) → length xs ≡ length bs → compared n (xs ++ ys) bs ≡ compared n xs bs
unfolding compared
compared_front n [] ys [] l = compared_none n ys
compared_front n [] ys (b ∷ bs) l = absurd (omega arith)
compared_front n (x ∷ xs) ys [] l = refl
compared_front n (x ∷ xs) ys (b ∷ bs) l = rw (compared_front (n + 1) xs ys bs (omega arith))

-- what is left of the verdict, from an event on
abbrev pub left : State → List ℕ → List ℕ → List ℕ → ℕ → Verdict
left s m es bs i = compared i (run_of s m (drop i es)).answers (drop i bs)

pub left_end : (s : State) (m es bs : List ℕ) (i : ℕ) → length es ≤ i → left s m es bs i ≡ Agree i
unfolding run_of compared
left_end s m es bs i h = rw (drop_of_length-le es h)

-- two parts of the events, one after the other, and of their recorded answers
joined_turn : (s : State) (m xs ys bs cs : List ℕ) (i : ℕ) → length xs ≡ length bs
    → compared i (run_of s m (xs ++ ys)).answers (bs ++ cs)
    ≡ onward (compared i (run_of s m xs).answers bs)
    (compared (i + length bs) (run_of (run_of s m xs).state (run_of s m xs).memory ys).answers cs)
joined_turn s m xs ys bs cs i l =
    rw (run_append s m xs ys) (compared_append i (run_of s m xs).answers bs _ cs (answers_length s m xs ∙ l))

-- a stretch of events more
module _ (s : State) (m es bs : List ℕ) (i n : ℕ) (he : i + n ≤ length es) (hb : i + n ≤ length bs) where
  cut : (l : List ℕ) → drop i l ≡ take n (drop i l) ++ drop (i + n) l
  cut l = sym (ap (λ (z : List ℕ). take n (drop i l) ++ z) (sym (drop-drop n i l)) ∙ take-append-drop n (drop i l))

  abbrev ran : Ended
  ran = run_of s m (take n (drop i es))

  pub left_turn : left s m es bs i
      ≡ onward (compared i ran.answers (take n (drop i bs))) (left ran.state ran.memory es bs (i + n))
  left_turn =
      let b = part_length bs i n hb in
      ap (λ (l : List ℕ). compared i (run_of s m l).answers (drop i bs)) (cut es)
      ∙ ap (λ (l : List ℕ). compared i (run_of s m (take n (drop i es) ++ drop (i + n) es)).answers l) (cut bs)
      ∙ joined_turn s m (take n (drop i es)) (drop (i + n) es) (take n (drop i bs)) (drop (i + n) bs) i
      (part_length es i n he ∙ sym b)
      ∙ ap (λ (k : ℕ). onward (compared i ran.answers (take n (drop i bs)))
      (compared (i + k) (run_of ran.state ran.memory (drop (i + n) es)).answers (drop (i + n) bs))) b

-- a stretch that was read, run with room for its answers alone, and compared
pub judged : (s : State) (m es bs a : List ℕ) (n : ℕ) (v : Verdict) (i' m' a' : List ℕ) → length es ≡ length bs
    → RanThrough s m es a i' m' a' → v ≡ compared n a' bs → Judged s m es bs n v i' m'
judged s m es bs a n v i' m' a' l r e =
    record {
      told =
          e ∙ ap (λ (x : List ℕ). compared n x bs) r.answers
          ∙ compared_front n (run_of s m es).answers (drop (length es) a) bs (answers_length s m es ∙ l);
      image = r.image;
      memory = r.memory;
    }

-- the same beside a part of a file, whose length is told in another way
pub judged_beside : (s : State) (m es a f : List ℕ) (at x y n : ℕ) (v : Verdict) (i' m' a' : List ℕ)
    → length es ≡ length (take y (drop at f)) → RanThrough s m es a i' m' a' → v ≡ compared n a' (take x (drop at f)) → x ≡ y
    → Judged s m es (take y (drop at f)) n v i' m'
judged_beside s m es a f at x y n v i' m' a' l r q e =
    judged s m es (take y (drop at f)) a n v i' m' a' l r (q ∙ ap (λ (k : ℕ). compared n a' (take k (drop at f))) e)

-- the same of as many events by another name
pub judged_as : (x y : ℕ) → x ≡ y → (s : State) (m es bs : List ℕ) (n : ℕ) (v : Verdict) (i' m' : List ℕ)
    → Judged s m (take x es) (take x bs) n v i' m' → Judged s m (take y es) (take y bs) n v i' m'
judged_as x y e s m es bs n v i' m' j = rw e at j

-- what is cut off the rest of the recorded answers, and its events in the file
module _ (a r c : List ℕ) (i k : ℕ) (e : r ≡ drop i a) (g : c ≡ take k r) (h : i + k ≤ length a) where
  cut_part : c ≡ take k (drop i a)
  cut_part = g ∙ ap (λ (l : List ℕ). take k l) e

  pub cut_length : length c ≡ k
  cut_length = ap length cut_part ∙ part_length a i k h

  module _ (f : List ℕ) (from : ℕ) where
    pub cut_events : take (length c) (drop (from + i) f) ≡ take k (drop i (section f from (length a)))
    cut_events = (λ x. take (cut_length x) (drop (from + i) f)) ∙ sym (section_part f from (length a) i k h)

    -- so it is judged as a part of the section
    pub judged_cut : (s : State) (m : List ℕ) (v : Verdict) (i' m' : List ℕ)
        → Judged s m (take (length c) (drop (from + i) f)) c i v i' m'
        → Judged s m (take k (drop i (section f from (length a)))) (take k (drop i a)) i v i' m'
    judged_cut s m v i' m' j = rw (sym cut_events, sym cut_part) j

-- room for a stretch, in an array of zeros
pub room_length : (n : ℕ) → n ≤ longest → length (take n (replicate {A = ℕ} longest 0)) ≡ n
room_length n h =
    let l = length-replicate {A = ℕ} longest 0 in length-take-le n (replicate {A = ℕ} longest 0) (omega arith)

-- where a stretch does not agree, that is the whole verdict; where it does, what is left is
pub onward_not : (v w : Verdict) → is_agreed v ≡ false → onward v w ≡ v
onward_not (Agree n) w h = absurd (false≢true (sym h))
onward_not (Differs n b r) w h = refl
onward_not (Faulty n) w h = refl
onward_not TooLong w h = refl

pub onward_agreed : (v w : Verdict) → is_agreed v ≡ true → onward v w ≡ w
onward_agreed (Agree n) w h = refl
onward_agreed (Differs n b r) w h = absurd (false≢true h)
onward_agreed (Faulty n) w h = absurd (false≢true h)
onward_agreed TooLong w h = absurd (false≢true h)

-- the events of a stretch are known
pub part_known : (i n : ℕ) (es : List ℕ) → all_known es ≡ true → i + n ≤ length es → all_known (take n (drop i es)) ≡ true
part_known i n es k h =
    let front = and_split (all_known (take i es)) (all_known (drop i es))
    (sym (known_append (take i es) (drop i es)) ∙ ap all_known (take-append-drop i es) ∙ k) in
    (and_split (all_known (take n (drop i es))) (all_known (drop n (drop i es)))
    (sym (known_append (take n (drop i es)) (drop n (drop i es))) ∙ ap all_known (take-append-drop n (drop i es)) ∙ front.1)).0

-- a stretch, judged: where it does not agree, that is what is left of the verdict; where it does, what is left of the
-- verdict stays, from the state that lies in the image after it
module _ (es bs : List ℕ) (same : length bs ≡ length es) (s : State) (m : List ℕ) (i n : ℕ) (h : i + n ≤ length es)
    (v : Verdict) (i' m' : List ℕ) (j : Judged s m (take n (drop i es)) (take n (drop i bs)) i v i' m') where
  abbrev done : Ended
  done = run_of s m (take n (drop i es))

  turned : left s m es bs i ≡ onward v (left done.state done.memory es bs (i + n))
  turned =
      left_turn s m es bs i n h (omega arith)
      ∙ ap (λ (x : Verdict). onward x (left done.state done.memory es bs (i + n))) (sym j.told)

  pub stretch_not : is_agreed v ≡ false → v ≡ left s m es bs i
  stretch_not t = sym (turned ∙ onward_not v _ t)

  pub stretch_agreed : is_agreed v ≡ true → left (candidate i') m' es bs (i + n) ≡ left s m es bs i
  stretch_agreed t =
      (λ k. left (lies i' done.state j.image k) (j.memory k) es bs (i + n)) ∙ sym (turned ∙ onward_agreed v _ t)

  pub stretch_accepted : well_formed s ≡ true → length m ≡ memory_size → Accepted i' m'
  stretch_accepted w l =
      let o = run_ok s m (take n (drop i es)) w l in
      record { image = image_accepted i' done.state j.image o.state; memory = ap length j.memory ∙ o.memory }
