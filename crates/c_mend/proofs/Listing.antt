-- SPDX-License-Identifier: Apache-2.0
-- The list of what was changed: three bytes written at a place; one register more, and the end, of list and count; that the
-- list has three bytes for each register counted; and that equal bytes are no change.
use Prim.Native.Nat.{ℕ, suc, ◌+◌, ◌-◌, ◌*◌, ◌≤◌, ◌<◌}
use mathlib.Core.Path.{◌≡◌, refl, sym, ap, ◌∙◌}
use mathlib.Core.List.{List, [], ◌∷◌, ◌++◌, append_assoc, append-nil}
use native.Mathlib.Omega.{arith}
use native.Mathlib.Numerals.{add-one}
use lib.Dec.{eqb}
use borrow.Rule.Slice.PartMut.{put_mid, same_len_mid, mid_len}
use lib.ListN.{length, take, drop, get_or, length-append, drop_of_length-le}
use lib.Seq.{drop-cons, drop-drop, take_all}
use Rattle.std.proofs.lemmas.Slice.{take-put_mid, drop-put_mid}
use Rattle.std.proofs.lemmas.List.Sums.{sum_by-cons, count_by_more_yes, count_by_more_no}
use Rattle.std.proofs.lemmas.Slice.Zip.{get_or-zip, length-zip}
use Rattle.std.specs.Prelude.{zip, count_by, cond, not}
use borrow.Author.Tests.{eq-eqb, ne_eqb}
use Rattle.wire.proofs.Tests.{by_test}
use Rattle.c_mend.specs.Changes.{change_of, changes_from, changed, changed_count}
use Rattle.c_mend.specs.Code.Changes.{WrittenAt}
use Rattle.c_mend.specs.Laws.{ThreeBytesEach}

module _ (ch : List ℕ) (at n a b : ℕ) where
  pub note_same : a ≡ b → WrittenAt (change_of n a b) at ch at ch
  unfolding change_of
  note_same e =
      rw (eq-eqb a b e)
      (record { place = omega arith; front = sym (append-nil (take at ch)); rest = refl; same = refl })

  pub note_room : (a ≡ b → ⊥) → length (change_of n a b) ≡ 3
  unfolding change_of
  note_room e = rw (ne_eqb a b e)

  pub note_other : (a ≡ b → ⊥) → at + length (change_of n a b) ≤ length ch
      → (l : List ℕ) → l ≡ n ∷ a ∷ b ∷ [] → WrittenAt (change_of n a b) at ch (at + 3) (put_mid at (at + 3 - at) ch l)
  unfolding change_of
  note_other e h l w =
      let room = note_room e in
      let three : length l ≡ 3 = ap length w in
      let k : at + 3 - at ≡ 3 = omega arith in
      rw (ne_eqb a b e)
      (record {
        place = refl;
        front = take-put_mid at (at + 3 - at) ch l (at + 3) (omega arith) (omega arith) ∙ ap (λ (t : List ℕ). take at ch ++ t) w;
        rest = drop-put_mid at (at + 3 - at) ch l (at + 3) (omega arith) (omega arith) (omega arith);
        same = same_len_mid at (at + 3 - at) ch l (three ∙ sym k ∙ sym (mid_len at (at + 3) ch (omega arith)));
      })

-- one register more, and the end
module _ (xs ys : List ℕ) (i : ℕ) where
  pub changes_more : i < length xs → i < length ys
      → changes_from (i + 2) (drop i xs) (drop i ys)
      ≡ change_of (i + 2) (get_or xs i 0) (get_or ys i 0) ++ changes_from (i + 1 + 2) (drop (i + 1) xs) (drop (i + 1) ys)
  unfolding changes_from
  changes_more h g =
      let s : i + 2 + 1 ≡ suc i + 2 = omega arith in
      rw (add-one i, drop-cons xs i 0, drop-cons ys i 0, s)

  pub changes_end : length xs ≤ i → changes_from (i + 2) (drop i xs) (drop i ys) ≡ []
  unfolding changes_from
  changes_end h = rw (drop_of_length-le xs h)

  count_more : i < length xs → i < length ys
      → changed_count (drop i xs) (drop i ys)
      ≡ changed (get_or xs i 0) (get_or ys i 0) + changed_count (drop (i + 1) xs) (drop (i + 1) ys)
  unfolding changed_count
  count_more h g = rw (add-one i, drop-cons xs i 0, drop-cons ys i 0)

  -- the count with what was counted before
  pub count_step : (count total r : ℕ) → i < length xs → i < length ys
      → count + changed_count (drop i xs) (drop i ys) ≡ total → r ≡ changed (get_or xs i 0) (get_or ys i 0)
      → count + r + changed_count (drop (i + 1) xs) (drop (i + 1) ys) ≡ total
  count_step count total r h g e f = let more = count_more h g in omega arith

  pub count_end : length xs ≤ i → changed_count (drop i xs) (drop i ys) ≡ 0
  unfolding changed_count
  count_end h = rw (drop_of_length-le xs h)

pub changed_le : (a b : ℕ) → changed a b ≤ 1
changed_le a b = by_test (eqb a b) (λ e. rw e (omega arith)) (λ e. rw e (omega arith))

-- as the pairs that differ are counted
pub counted : (xs ys : List ℕ) → count_by (λ (p : ℕ × ℕ). not (eqb p.0 p.1)) (zip xs ys) ≡ changed_count xs ys
unfolding changed_count
counted [] ys = refl
counted (a ∷ xs) [] = refl
counted (a ∷ xs) (b ∷ ys) =
    sum_by-cons _ (a, b) (zip xs ys)
    ∙ ap (λ (k : ℕ). cond (not (eqb a b)) 1 0 + k) (counted xs ys)
    ∙ by_test (eqb a b) (λ e. rw e refl) (λ e. rw e refl)

-- at most all registers
pub count_le : (xs ys : List ℕ) → changed_count xs ys ≤ length xs
unfolding changed_count
count_le [] ys = omega arith
count_le (a ∷ xs) [] = omega arith
count_le (a ∷ xs) (b ∷ ys) =
    let rest = count_le xs ys in
    let one = changed_le a b in
    omega arith

-- three bytes for each register
change_length : (n a b : ℕ) → length (change_of n a b) ≡ 3 * changed a b
unfolding change_of
change_length n a b = by_test (eqb a b) (λ e. rw e refl) (λ e. rw e refl)

pub three_bytes_each : ThreeBytesEach
unfolding changes_from changed_count
three_bytes_each n [] ys = refl
three_bytes_each n (a ∷ xs) [] = refl
three_bytes_each n (a ∷ xs) (b ∷ ys) =
    let whole = length-append (change_of n a b) (changes_from (n + 1) xs ys) in
    let one = change_length n a b in
    let rest = three_bytes_each (n + 1) xs ys in
    omega arith

-- room for the list, by the count
pub room_of_count : (xs ys ch : List ℕ) (k : ℕ) → k ≡ changed_count xs ys → 3 * k ≤ length ch
    → length (changes_from 2 xs ys) ≤ length ch
room_of_count xs ys ch k e h = let n = three_bytes_each 2 xs ys in omega arith

-- equal bytes are no change
pub change_none : (n a : ℕ) → change_of n a a ≡ []
unfolding change_of
change_none n a = rw (eq-eqb a a refl)

pub changed_none : (a : ℕ) → changed a a ≡ 0
changed_none a = rw (eq-eqb a a refl)

pub changes_none : (n : ℕ) (l : List ℕ) → changes_from n l l ≡ []
unfolding changes_from
changes_none n [] = refl
changes_none n (x ∷ xs) = rw (change_none n x) (changes_none (n + 1) xs)

pub count_none : (l : List ℕ) → changed_count l l ≡ 0
unfolding changed_count
count_none [] = refl
count_none (x ∷ xs) = rw (changed_none x, count_none xs)

-- the loop that writes: what was written and what is still to come are the whole list
pub record Going (ch₀ whole ch : List ℕ) (at : ℕ) (rest : List ℕ) : Type 0 where
  pub front : take at ch ++ rest ≡ whole
  pub kept : drop at ch ≡ drop at ch₀
  pub room : at + length rest ≡ length whole
  pub same : length ch ≡ length ch₀

module _ {ch₀ whole ch : List ℕ} {at : ℕ} {old : List ℕ} (w : Going ch₀ whole ch at old) where
  pub going_room : (l rest : List ℕ) → old ≡ l ++ rest → length whole ≤ length ch₀ → at + length l ≤ length ch
  going_room l rest e h =
      let n = ap length e ∙ length-append l rest in omega (arith, w.room, w.same)

  pub going_more : (l rest : List ℕ) → old ≡ l ++ rest → {r : ℕ} {ch' : List ℕ} → WrittenAt l at ch r ch'
      → Going ch₀ whole ch' r rest
  going_more l rest e {r} {ch'} d =
      let n = ap length e ∙ length-append l rest in
      let cut : (c : List ℕ) → drop r c ≡ drop (length l) (drop at c) =
      λ c. ap (λ (k : ℕ). drop k c) d.place ∙ sym (drop-drop (length l) at c) in
      record {
        front =
            ap (λ (c : List ℕ). c ++ rest) d.front
            ∙ append_assoc (take at ch) l rest
            ∙ ap (λ (c : List ℕ). take at ch ++ c) (sym e)
            ∙ w.front;
        kept = d.rest ∙ cut ch ∙ ap (λ (c : List ℕ). drop (length l) c) w.kept ∙ sym (cut ch₀);
        room = omega (arith, w.room, d.place);
        same = d.same ∙ w.same;
      }

  pub going_end : old ≡ [] → WrittenAt whole 0 ch₀ at ch
  going_end e =
      let n : length old ≡ 0 = ap length e in
      record {
        place = omega (arith, w.room);
        front = sym (append-nil (take at ch)) ∙ ap (λ (c : List ℕ). take at ch ++ c) (sym e) ∙ w.front;
        rest = w.kept;
        same = w.same;
      }

-- one place more of two lists that are counted where they differ
module _ (xs ys : List ℕ) (i : ℕ) (h : i < length xs) (g : i < length ys) where
  inside : i < length (zip xs ys)
  inside = rw (length-zip xs ys) (grind arith)

  pub differ_more : (get_or xs i 0 ≡ get_or ys i 0 → ⊥)
      → count_by (λ p. not (eqb p.0 p.1)) (take (i + 1) (zip xs ys))
      ≡ count_by (λ p. not (eqb p.0 p.1)) (take i (zip xs ys)) + 1
  differ_more n =
      count_by_more_yes _ (zip xs ys) i (0, 0) inside
      (rw (get_or-zip xs ys i (0, 0) h g, ne_eqb (get_or xs i 0) (get_or ys i 0) n) refl)

  pub same_more : get_or xs i 0 ≡ get_or ys i 0
      → count_by (λ p. not (eqb p.0 p.1)) (take (i + 1) (zip xs ys))
      ≡ count_by (λ p. not (eqb p.0 p.1)) (take i (zip xs ys))
  same_more e =
      count_by_more_no _ (zip xs ys) i (0, 0) inside
      (rw (get_or-zip xs ys i (0, 0) h g, eq-eqb (get_or xs i 0) (get_or ys i 0) e) refl)

pub all_counted : (xs ys : List ℕ) (i : ℕ) → length xs ≤ i → length ys ≤ i → {n : ℕ}
    → n ≡ count_by (λ p. not (eqb p.0 p.1)) (take i (zip xs ys)) → n ≡ count_by (λ p. not (eqb p.0 p.1)) (zip xs ys)
all_counted xs ys i h g e =
    let l : length (zip xs ys) ≤ i = rw (length-zip xs ys) (grind arith) in e ∙ ap (count_by (λ p. not (eqb p.0 p.1))) (take_all i (zip xs ys) l)
