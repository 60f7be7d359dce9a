-- SPDX-License-Identifier: Apache-2.0
-- Events laid into a buffer, one piece after another; the lists that are laid, one element more; and their lengths.
use Prim.Native.Nat.{ℕ, zero, suc, ◌+◌, ◌*◌, ◌≤◌, ◌<◌}
use mathlib.Core.Path.{◌≡◌, refl, sym, ap, ◌∙◌}
use mathlib.Core.Bool.{true, false}
use mathlib.Core.List.{List, [], ◌∷◌, ◌++◌, append_assoc, append-nil}
use native.Mathlib.Omega.{arith}
use native.Mathlib.Numerals.{add-one}
use lib.ListN.{length, take, drop, get_or, set, length-append}
use lib.Seq.{sets, sets-eq, drop-drop, length-sets, length-take-le, take-suc, take_all}
use borrow.Rule.Slice.PartMut.{put_mid}
use Rattle.wire_clocks.specs.Events.{written, asked, all_written, asked_on, all_asked, write_events, read_events, write_count, read_count}
use Rattle.wire_clocks.specs.Code.Laid.{Laid}

pub sets_append : (l : List ℕ) (i j : ℕ) (xs ys : List ℕ) → j ≡ i + length xs → sets (sets l i xs) j ys ≡ sets l i (xs ++ ys)
sets_append l i j [] ys e = let q : j ≡ i = omega arith in rw q
sets_append l i j (x ∷ xs) ys e = sets_append (set l i x) (suc i) j xs ys (omega arith)

-- one piece after another
pub laid_then : {e e' e'' : List ℕ} {at r r' : ℕ} {xs ys : List ℕ}
    → Laid e at xs r e' → Laid e' r ys r' e'' → Laid e at (xs ++ ys) r' e''
laid_then {e} {at = at} {r = r} {xs = xs} {ys = ys} p q =
    record {
      place = q.place ∙ (rw (length-append xs ys) (let h = p.place in omega arith));
      buffer = q.buffer ∙ (rw p.buffer (sets_append e at r xs ys p.place));
    }

pub laid_length : {e e' : List ℕ} {at r : ℕ} {xs : List ℕ} → Laid e at xs r e' → length e' ≡ length e
laid_length {e} {at = at} {xs = xs} p = ap length p.buffer ∙ length-sets e at xs

-- one byte more of a slice
pub lay_more : (e from : List ℕ) (at i : ℕ) → i < length from
    → set (sets e at (take i from)) (at + i) (get_or from i 0) ≡ sets e at (take (i + 1) from)
lay_more e from at i h =
    let n : at + i ≡ at + length (take i from) = rw (length-take-le i from (omega arith)) refl in
    rw (add-one, take-suc from i 0 h) (sets_append e at (at + i) (take i from) (get_or from i 0 ∷ []) n)

-- the whole front
pub front : (e xs : List ℕ) → length xs ≤ length e → sets e 0 xs ≡ xs ++ drop (length xs) e
front e xs h =
    let n : 0 + length xs ≡ length xs = omega arith in
    sets-eq xs e 0 (omega arith) ∙ rw n refl

-- data bytes, one more
pub written_append : (xs ys : List ℕ) → all_written (xs ++ ys) ≡ all_written xs ++ all_written ys
written_append [] ys = refl
written_append (x ∷ xs) ys = rw (written_append xs ys) (sym (append_assoc (written x) (all_written xs) (all_written ys)))

pub written_more : (bs : List ℕ) (i : ℕ) → i < length bs
    → all_written (take i bs) ++ written (get_or bs i 0) ≡ all_written (take (i + 1) bs)
written_more bs i h =
    rw (add-one, take-suc bs i 0 h, written_append (take i bs) (get_or bs i 0 ∷ []), append-nil (written (get_or bs i 0))) refl

pub asked_more : (n : ℕ) → asked_on n ++ asked false ≡ asked_on (n + 1)
asked_more n = rw add-one (go n)
  where
    go : (k : ℕ) → asked_on k ++ asked false ≡ asked_on (suc k)
    go zero = refl
    go (suc k) = append_assoc (asked false) (asked_on k) (asked false) ∙ ap (λ (l : List ℕ). asked false ++ l) (go k)

-- how many events there are
pub written_length : (bs : List ℕ) → length (all_written bs) ≡ 9 * length bs
written_length [] = refl
written_length (b ∷ bs) = let h = written_length bs in omega arith

pub asked_on_length : (n : ℕ) → length (asked_on n) ≡ 9 * n
asked_on_length zero = refl
asked_on_length (suc n) = let h = asked_on_length n in omega arith

pub write_count_lem : (a : ℕ) (bs : List ℕ) → length (write_events a bs) ≡ write_count (length bs)
unfolding write_events
write_count_lem a bs =
    let h = written_length bs in
    let q = length-append (all_written bs) (1 ∷ []) in omega arith

pub asked_length : (n : ℕ) → length (all_asked n) ≡ 9 * n
asked_length zero = refl
asked_length (suc n) =
    let h = asked_on_length n in length-append (asked_on n) (asked true) ∙ omega arith

pub read_count_lem : (a n : ℕ) → length (read_events a n) ≡ read_count n
unfolding read_events
read_count_lem a n =
    let h = asked_length n in
    let q = length-append (all_asked n) (1 ∷ []) in omega arith

pub laid_none : (e : List ℕ) (at : ℕ) → Laid e at [] at e
laid_none e at = record { place = omega arith; buffer = refl }

-- a list copied into a part of the buffer
pub laid_part : (e from : List ℕ) (at k : ℕ) → k ≡ length from → at + length from ≤ length e
    → Laid e at from (at + length from) (put_mid at k e from)
laid_part e from at k q h =
    record { place = refl; buffer = rw q (ap (λ (r : List ℕ). take at e ++ (from ++ r)) (drop-drop (length from) at e) ∙ sym (append_assoc (take at e) from (drop (at + length from) e)) ∙ sym (sets-eq from e at h)) }

-- a whole slice
pub laid_all : (e from e' : List ℕ) (at i : ℕ) → i ≤ length from → length from ≤ i → e' ≡ sets e at (take i from)
    → Laid e at from (at + i) e'
laid_all e from e' at i h g q =
    record { place = omega arith; buffer = q ∙ ap (λ (l : List ℕ). sets e at l) (take_all i from g) }
