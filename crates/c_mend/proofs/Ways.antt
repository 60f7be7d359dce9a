-- SPDX-License-Identifier: Apache-2.0
-- The ways through the entry's tests, one by one and as the two that there are: refused, or written for a state; and that no
-- second outcome satisfies the contract.
use Prim.Native.Nat.{ℕ, ◌*◌, ◌≤◌, ◌<◌}
use mathlib.Core.Path.{◌≡◌, refl, sym, ap, ◌∙◌}
use mathlib.Core.List.{List, ◌++◌}
use native.Mathlib.Omega.{arith}
use lib.Dec.{eqb, leb, lit≤}
use lib.ListN.{length, drop, take-append-drop}
use borrow.Author.Tests.{le-leb, lt-leb, leb-true, leb-false}
use Rattle.std.specs.Prelude.{Option, Some, None, count_by, not, zip}
use Rattle.wire.proofs.Tests.{by_test}
use Rattle.numbers.specs.Numbers.{accepted, wrong_state, short_answers}
use Rattle.fm3130.specs.declared.State.{State}
use Rattle.fm3130_image.specs.Image.{image_of, decode_of}
use Rattle.fm3130_image.specs.Reading.{WrittenBy}
use Rattle.fm3130_image.proofs.Images.{image_decode}
use Rattle.c_mend.specs.Changes.{changes_from, changed_count}
use Rattle.c_mend.specs.Code.Changes.{WrittenAt}
use Rattle.c_mend.specs.Mend.{mended_state, time_bytes, changes_in, refused, written, mend_of, outcome_with, MendSettled}
use Rattle.c_mend.specs.declared.Mended.{Mended}
use Rattle.c_mend.proofs.Listing.{counted, count_le, three_bytes_each}

module _ (i ch : List ℕ) where
  pub mend_wrong_image : decode_of i ≡ None → mend_of i ch ≡ refused wrong_state i ch
  unfolding mend_of
  mend_wrong_image d = rw d

  module _ (s : State) (d : decode_of i ≡ Some s) where
    pub mend_short : length ch < length (changes_in s) → mend_of i ch ≡ refused short_answers i ch
    unfolding mend_of
    mend_short h = rw (d, lt-leb (length (changes_in s)) (length ch) h)

    pub mend_written : length (changes_in s) ≤ length ch → mend_of i ch ≡ written s ch
    unfolding mend_of
    mend_written h = rw (d, le-leb (length (changes_in s)) (length ch) h)

    -- the count that was returned, and the list and the image that were written, are those of the definition
    pub mend_done : (n r : ℕ) (i' ch' : List ℕ) → length (changes_in s) ≤ length ch
        → n ≡ changed_count (time_bytes s) (time_bytes (mended_state s))
        → WrittenAt (changes_in s) 0 ch r ch' → i' ≡ image_of (mended_state s)
        → outcome_with (record { number = accepted; count = n }) i' ch' ≡ mend_of i ch
    mend_done n r i' ch' h f w e =
        let k : r ≡ length (changes_in s) = omega (arith, w.place) in
        let whole : ch' ≡ changes_in s ++ drop (length (changes_in s)) ch =
        sym (take-append-drop r ch') ∙ rw (w.front, w.rest, k) refl in
        rw (f, e, whole) (sym (mend_written h))

-- what was counted and listed, as the calls return it
module _ (s m : State) (b a : List ℕ) (e : m ≡ mended_state s) (f : b ≡ time_bytes s) (g : a ≡ time_bytes m) where
  module _ {n : ℕ} (h : n ≡ count_by (λ (p : ℕ × ℕ). not (eqb p.0 p.1)) (zip b a)) where
    pub counted_by_lem : n ≡ changed_count (time_bytes s) (time_bytes (mended_state s))
    counted_by_lem = h ∙ counted b a ∙ rw (f, g, e) refl

    pub counted_few : n ≤ 7
    counted_few = rw counted_by_lem (count_le (time_bytes s) (time_bytes (mended_state s)))

    pub counted_length : length (changes_in s) ≡ 3 * n
    counted_length =
        three_bytes_each 2 (time_bytes s) (time_bytes (mended_state s)) ∙ ap (λ (k : ℕ). 3 * k) (sym counted_by_lem)

  pub listed_by : {ch ch' : List ℕ} {r : ℕ} → WrittenAt (changes_from 2 b a) 0 ch r ch' → WrittenAt (changes_in s) 0 ch r ch'
  listed_by w = rw (f, g, e) at w

-- what came of a call
pub data Way (i ch : List ℕ) : Type 0 where
  refused_by_lem : (n : ℕ) → 1 ≤ n → mend_of i ch ≡ refused n i ch → Way i ch
  written_for : (s : State) → WrittenBy i s → mend_of i ch ≡ written s ch → Way i ch

pub way : (i ch : List ℕ) → Way i ch
way i ch = on (decode_of i) refl
  where
    on : (d : Option State) → decode_of i ≡ d → Way i ch
    on None e = refused_by_lem wrong_state (lit≤ tt) (mend_wrong_image i ch e)
    on (Some s) e =
        by_test (leb (length (changes_in s)) (length ch))
        (λ t. written_for s (image_decode i s e) (mend_written i ch s e (leb-true _ _ t)))
        (λ t. refused_by_lem short_answers (lit≤ tt) (mend_short i ch s e (leb-false _ _ t)))

-- no second outcome satisfies the contract
pub mend_unique : (i ch : List ℕ) (r r₂ : Mended) (i' i₂ ch' ch₂ : List ℕ)
    → MendSettled i ch r i' ch' → MendSettled i ch r₂ i₂ ch₂ → (r ≡ r₂) × (i' ≡ i₂) × (ch' ≡ ch₂)
mend_unique i ch r r₂ i' i₂ ch' ch₂ p q =
    let same = p ∙ sym q in
    (λ k. record { number = (same k).number; count = (same k).count }, λ k. (same k).image, λ k. (same k).changes)
