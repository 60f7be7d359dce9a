-- SPDX-License-Identifier: Apache-2.0
-- The list in parts: one event as a part; a part more; all. What is left of the list, run from here with the record, gives
-- what the whole gives.
use Prim.Native.Nat.{ℕ, ◌+◌, ◌-◌, ◌<◌, ◌≤◌}
use mathlib.Core.Path.{◌≡◌, refl, sym, ap, ◌∙◌}
use mathlib.Core.Bool.{true, false}
use mathlib.Core.List.{List, [], ◌∷◌, ◌++◌, append-nil, append_assoc}
use native.Mathlib.Omega.{arith}
use lib.ListN.{length, take, drop, get_or, set, length-append, length-drop, drop_of_length-le, take-append-drop}
use lib.Seq.{length-take-le, take_all, take-append_seam, drop-append_seam, take-append-add, drop-append-add, drop-drop}
use Rattle.wire.proofs.Tests.{and_split}
use Rattle.fm3130.specs.Event.{event_of}
use Rattle.fm3130.specs.declared.State.{State}
use Rattle.fm3130_image.specs.Image.{image_of, candidate}
use Rattle.fm3130_image.proofs.Images.{candidate_of}
use Rattle.fm3130_image.proofs.Accepts.{image_well, image_written}
use Rattle.place_clock.specs.Code.Clocking.{Accepted}
use Rattle.place_event.specs.Code.Answering as told
use Rattle.place_rows.proofs.Ledger.{image_accepted, lies}
use Rattle.fm3130_list.specs.Run.{Ended, following, run_of, all_known}
use Rattle.fm3130_list.proofs.Pieces.{run_append, answers_length, known_append}
use Rattle.fm3130_list.proofs.Runs.{run_done, run_ok}
use Rattle.lamps.specs.Log.{clocks_of}
use Rattle.lamps.specs.Step.{step_of}
use Rattle.lamps.specs.Statement.{proven_by}
use Rattle.lamps.specs.declared.Follower.{Follower}
use Rattle.lamps.specs.declared.Proving.{Proving}
use Rattle.c_lamps.specs.Row.{Clocks, Row}
use Rattle.c_lamps.specs.Run.{RanWith, RanInImage}
use Rattle.c_lamps.proofs.Pieces.{proven_append}

-- one event
pub one_ran : (s : State) (p : Proving) (m es a : List ℕ) (v : ℕ) (i' m' : List ℕ) (r : Proving) → length es ≡ 1 → length a ≡ 1
    → told.Answered (event_of s m (get_or es 0 0)) v i' m'
    → r ≡ step_of p s (get_or es 0 0) (record { state = candidate i'; answer = v }) → RanInImage s p m es a r i' m' (set a 0 v)
unfolding run_of
one_ran s p m [] a v i' m' r h g w e = absurd (omega arith)
one_ran s p m (x ∷ y ∷ es) a v i' m' r h g w e = absurd (omega arith)
one_ran s p m (x ∷ []) [] v i' m' r h g w e = absurd (omega arith)
one_ran s p m (x ∷ []) (y ∷ z ∷ a) v i' m' r h g w e = absurd (omega arith)
one_ran s p m (x ∷ []) (y ∷ []) v i' m' r h g w e =
    record {
      ran = record { image = w.image; memory = w.memory; answers = ap (λ (b : ℕ). b ∷ []) w.answer };
      proving = e ∙ (λ j. step_of p s x (record { state = lies i' (event_of s m x).state w.image j; answer = w.answer j }));
    }

-- a part's length, and that its events are known
pub part_length : (l : List ℕ) (i n : ℕ) → i + n ≤ length l → length (take n (drop i l)) ≡ n
part_length l i n h = length-take-le n (drop i l) (simp length-drop (omega arith))

pub part_known : (i n : ℕ) (es : List ℕ) → all_known es ≡ true → all_known (take n (drop i es)) ≡ true
part_known i n es k =
    let back = (and_split (all_known (take i es)) (all_known (drop i es))
    (sym (known_append (take i es) (drop i es)) ∙ ap all_known (take-append-drop i es) ∙ k)).1 in
    (and_split (all_known (take n (drop i es))) (all_known (drop n (drop i es)))
    (sym (known_append (take n (drop i es)) (drop n (drop i es))) ∙ ap all_known (take-append-drop n (drop i es)) ∙ back)).0

pub all_left : (l : List ℕ) (i : ℕ) → take (length l - i) (drop i l) ≡ drop i l
all_left l i = take_all (length l - i) (drop i l) (simp length-drop (omega arith))

-- how many events are left, where a part of them ends, and that it is a row where it has more than one
pub some_left : (l : List ℕ) (i : ℕ) → i < length l → 0 < length (take (length l - i) (drop i l))
some_left l i h = rw (all_left l i) (simp length-drop (omega arith))

pub part_inside : (l : List ℕ) (i k : ℕ) → i < length l → k ≤ length (take (length l - i) (drop i l)) → i + k ≤ length l
part_inside l i k h g =
    let z : length (take (length l - i) (drop i l)) ≡ length l - i = ap length (all_left l i) ∙ length-drop i l in
    omega arith

pub part_row : (s : State) (f : Follower) (es : List ℕ) (i k n : ℕ) → i + k ≤ length es → n ≡ k
    → (1 < k
    → (f.refused ≡ false) × Clocks (take k (take (length es - i) (drop i es))) × (clocks_of s.phase + k ≤ 8))
    → 1 < length (take n (drop i es)) → Row s f (take n (drop i es))
part_row s f es i k n h q g t =
    let z = part_length es i n (omega arith) in
    let w = g (omega arith) in
    let few = w.2 in
    record {
      unrefused = w.0;
      clocks = rw q (rw (all_left es i) at w.1);
      some = omega arith;
      few = omega arith;
    }

-- so many events are done, on an accepted image
pub record Upto (es a₀ : List ℕ) (s₀ : State) (p₀ : Proving) (m₀ : List ℕ) (i : ℕ) (b m a : List ℕ) (p : Proving) : Type 0 where
  pub inside : i ≤ length es
  pub accepted : Accepted b m
  pub room : length a ≡ length a₀
  pub run : following (take i a) (run_of (candidate b) m (drop i es)) ≡ run_of s₀ m₀ es
  pub rest : drop i a ≡ drop i a₀
  pub proven : proven_by p (candidate b) m (drop i es) ≡ proven_by p₀ s₀ m₀ es

pub upto_none : (es a : List ℕ) (p : Proving) (b m : List ℕ) → Accepted b m → Upto es a (candidate b) p m 0 b m a p
upto_none es a p b m c =
    record { inside = omega arith; accepted = c; room = refl; run = refl; rest = refl; proven = refl }

proven_end : (p : Proving) (s : State) (m es : List ℕ) (i : ℕ) → length es ≤ i → proven_by p s m (drop i es) ≡ p
proven_end p s m es i h = rw (drop_of_length-le es h)

pub upto_all : (es a₀ : List ℕ) (p₀ : Proving) (b₀ m₀ : List ℕ) (i : ℕ) (b m a : List ℕ) (p : Proving) → length es ≤ i
    → Upto es a₀ (candidate b₀) p₀ m₀ i b m a p → RanInImage (candidate b₀) p₀ m₀ es a₀ p b m a
upto_all es a₀ p₀ b₀ m₀ i b m a p n u =
    record {
      ran =
          run_done (candidate b₀) (candidate b) m₀ m es a₀ a i u.inside n u.run u.rest b
          (sym (image_written b u.accepted.image));
      proving = sym (proven_end p (candidate b) m es i n) ∙ u.proven;
    }

-- a part more
module _ (es a₀ : List ℕ) (s₀ : State) (p₀ : Proving) (m₀ : List ℕ) (i : ℕ) (b m a : List ℕ) (p : Proving)
    (u : Upto es a₀ s₀ p₀ m₀ i b m a p) (n : ℕ) (h : i + n ≤ length es) (g : length es ≤ length a₀)
    (r : Proving) (b' m' ys : List ℕ)
    (w : RanInImage (candidate b) p m (take n (drop i es)) (take n (drop i a)) r b' m' ys) where
  abbrev part : List ℕ
  part = take n (drop i es)

  abbrev left : List ℕ
  left = drop (i + n) es

  abbrev done : Ended
  done = run_of (candidate b) m part

  abbrev over : List ℕ
  over = take i a ++ (ys ++ drop n (drop i a))

  cut : drop i es ≡ part ++ left
  cut = sym (ap (λ (z : List ℕ). part ++ z) (sym (drop-drop n i es)) ∙ take-append-drop n (drop i es))

  given : ys ≡ done.answers
  given =
      let k = part_length es i n h in
      let j = part_length a i n (let q = u.room in omega arith) in
      w.ran.answers
      ∙ ap (λ (z : List ℕ). done.answers ++ z) (drop_of_length-le (take n (drop i a)) {i = length part} (omega arith))
      ∙ append-nil done.answers

  given_length : length ys ≡ n
  given_length = ap length given ∙ answers_length (candidate b) m part ∙ part_length es i n h

  front_length : length (take i a) ≡ i
  front_length = length-take-le i a (let q = u.room in let z = u.inside in omega arith)

  front : take (i + n) over ≡ take i a ++ done.answers
  front =
      ap (λ (k : ℕ). take (k + n) over) (sym front_length)
      ∙ take-append-add (take i a) (ys ++ drop n (drop i a)) n
      ∙ ap (λ (k : ℕ). take i a ++ take k (ys ++ drop n (drop i a))) (sym given_length)
      ∙ ap (λ (z : List ℕ). take i a ++ z) (take-append_seam ys (drop n (drop i a)) ∙ given)

  back : drop (i + n) over ≡ drop (i + n) a₀
  back =
      ap (λ (k : ℕ). drop (k + n) over) (sym front_length)
      ∙ drop-append-add (take i a) (ys ++ drop n (drop i a)) n
      ∙ ap (λ (k : ℕ). drop k (ys ++ drop n (drop i a))) (sym given_length)
      ∙ drop-append_seam ys (drop n (drop i a))
      ∙ ap (λ (z : List ℕ). drop n z) u.rest
      ∙ drop-drop n i a₀

  long : length over ≡ length a₀
  long =
      let q = u.room in
      let x = length-append (take i a) (ys ++ drop n (drop i a)) in
      let y = length-append ys (drop n (drop i a)) in
      let z = length-drop n (drop i a) in
      let t = length-drop i a in
      let f = front_length in
      let v = given_length in
      omega arith

  at : candidate b' ≡ done.state
  at = lies b' done.state w.ran.image

  pub upto_more : Upto es a₀ s₀ p₀ m₀ (i + n) b' m' over r
  upto_more =
      let o = run_ok (candidate b) m part (image_well b u.accepted.image) u.accepted.memory in
      record {
        inside = h;
        accepted =
            record {
              image = image_accepted b' done.state w.ran.image o.state;
              memory = ap length w.ran.memory ∙ o.memory;
            };
        room = long;
        run =
            (λ j. following (front j) (run_of (at j) (w.ran.memory j) left))
            ∙ ap (λ (z : List ℕ). record { state = (run_of done.state done.memory left).state; memory = (run_of done.state done.memory left).memory; answers = z })
            (append_assoc (take i a) done.answers (run_of done.state done.memory left).answers)
            ∙ ap (λ (z : Ended). following (take i a) z) (sym (run_append (candidate b) m part left))
            ∙ ap (λ (z : List ℕ). following (take i a) (run_of (candidate b) m z)) (sym cut)
            ∙ u.run;
        rest = back;
        proven =
            (λ j. proven_by (w.proving j) (at j) (w.ran.memory j) left)
            ∙ sym (proven_append p (candidate b) m part left)
            ∙ ap (λ (z : List ℕ). proven_by p (candidate b) m z) (sym cut)
            ∙ u.proven;
      }

  pub upto_next : (k : ℕ) → n ≡ k → Upto es a₀ s₀ p₀ m₀ (i + k) b' m' over r
  upto_next k e = rw (← e) upto_more

-- the run in the image of a state is the run on that state
pub ran_with : (s t : State) (p r : Proving) (m es a i' m' a' : List ℕ) → RanInImage (candidate (image_of s)) p m es a r i' m' a'
    → t ≡ candidate i' → RanWith s p m es a (record { state = t; proving = r }) m' a'
ran_with s t p r m es a i' m' a' w e =
    let v : RanInImage s p m es a r i' m' a' = rw (candidate_of s) at w in
    let u : t ≡ (run_of s m es).state = e ∙ (ap candidate v.ran.image ∙ candidate_of (run_of s m es).state) in
    record {
      ran = record { image = ap image_of u; memory = v.ran.memory; answers = v.ran.answers };
      proving = v.proving;
    }
