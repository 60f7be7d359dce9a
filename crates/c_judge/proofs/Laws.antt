-- SPDX-License-Identifier: Apache-2.0
-- The verdict's cases come each from one way through its definition; what a comparison says is in Firsts.
use Prim.Native.Nat.{ℕ, ◌<◌}
use mathlib.Core.Path.{◌≡◌, refl, sym, ap, ◌∙◌}
use mathlib.Core.Bool.{true}
use mathlib.Core.List.{List}
use native.Mathlib.Omega.{arith}
use lib.Dec.{leb, eqb}
use lib.ListN.{length}
use borrow.Author.Tests.{eqb-true, eqb-false, leb-true}
use Rattle.std.specs.Prelude.{Some, None}
use Rattle.wire.proofs.Tests.{by_test}
use Rattle.fm3130_image.specs.Image.{candidate}
use Rattle.fm3130_list.proofs.Pieces.{answers_length}
use Rattle.capture_table.specs.Table.{is_sound, image_kind, memory_kind, events_kind, answers_kind}
use Rattle.capture_table.specs.Sections.{first_faulty, entry_of, section_of}
use Rattle.capture_table.proofs.Sound.{some_none, sound_of, by_fault}
use Rattle.capture_table.proofs.Finding.{even, inside}
use Rattle.c_judge.specs.Verdict.{limit, right_answers, verdict_of}
use Rattle.c_judge.specs.Laws.{NamesTheFirst, SaysAllAgree, FirstFault, NamesTheFault}
use Rattle.c_judge.specs.declared.Verdict.TheVariants.{Agree, Differs, Faulty, TooLong}
use Rattle.c_judge.proofs.Replays.{part_length}
use Rattle.c_judge.proofs.Firsts.{first_wrong, all_agree, compared_faulty}

faulty_differs : (k n b r : ℕ) → Faulty k ≡ Differs n b r → ⊥
faulty_differs k n b r e = let z : ◌≡◌ {A = ℕ} 0 1 = cc in omega arith

long_differs : (n b r : ℕ) → TooLong ≡ Differs n b r → ⊥
long_differs n b r e = let z : ◌≡◌ {A = ℕ} 0 1 = cc in omega arith

faulty_agree : (k n : ℕ) → Faulty k ≡ Agree n → ⊥
faulty_agree k n e = let z : ◌≡◌ {A = ℕ} 0 1 = cc in omega arith

long_agree : (n : ℕ) → TooLong ≡ Agree n → ⊥
long_agree n e = let z : ◌≡◌ {A = ℕ} 0 1 = cc in omega arith

long_faulty : (n : ℕ) → TooLong ≡ Faulty n → ⊥
long_faulty n e = let z : ◌≡◌ {A = ℕ} 0 1 = cc in omega arith

same_entry : (k n : ℕ) → Some k ≡ Some n → k ≡ n
same_entry k n e = cc

pub names_the_first : NamesTheFirst
unfolding verdict_of
names_the_first f n b r h = by_test (leb (length f) limit)
    (λ t. by_fault (first_faulty f)
    (λ u. first_wrong (right_answers f) (section_of f answers_kind) n b r (rw (t, u) at h))
    (λ k u. absurd (faulty_differs k n b r (rw (t, u) at h))))
    (λ t. absurd (long_differs n b r (rw t at h)))

-- as many answers as events, where no entry is faulty
even_sections : (f : List ℕ) → first_faulty f ≡ None → length (right_answers f) ≡ length (section_of f answers_kind)
even_sections f z =
    let e = inside f z events_kind (omega arith) (omega arith) _ refl in
    let a = inside f z answers_kind (omega arith) (omega arith) _ refl in
    answers_length (candidate (section_of f image_kind)) (section_of f memory_kind) (section_of f events_kind)
    ∙ part_length f (entry_of f events_kind).from (entry_of f events_kind).size e ∙ even f (sound_of f z)
    ∙ sym (part_length f (entry_of f answers_kind).from (entry_of f answers_kind).size a)

pub says_all_agree : SaysAllAgree
unfolding verdict_of
says_all_agree f n h = by_test (leb (length f) limit)
    (λ t. by_fault (first_faulty f)
    (λ u. all_agree (right_answers f) (section_of f answers_kind) n (even_sections f u) (rw (t, u) at h))
    (λ k u. absurd (faulty_agree k n (rw (t, u) at h))))
    (λ t. absurd (long_agree n (rw t at h)))

-- the first faulty entry: those before it are sound
module _ (f : List ℕ) where
  earlier_two : is_sound f 0 ≡ true → (j : ℕ) → j < 1 → is_sound f j ≡ true
  earlier_two a j l = let z : j ≡ 0 = omega arith in rw z a

  earlier_three : is_sound f 0 ≡ true → is_sound f 1 ≡ true → (j : ℕ) → j < 2 → is_sound f j ≡ true
  earlier_three a b j l = by_test (eqb j 1)
      (λ t. let z = eqb-true j 1 t in rw z b)
      (λ t. let n = eqb-false j 1 t in earlier_two a j (omega arith))

  earlier_four : is_sound f 0 ≡ true → is_sound f 1 ≡ true → is_sound f 2 ≡ true → (j : ℕ) → j < 3 → is_sound f j ≡ true
  earlier_four a b c j l = by_test (eqb j 2)
      (λ t. let z = eqb-true j 2 t in rw z c)
      (λ t. let n = eqb-false j 2 t in earlier_three a b j (omega arith))

  first_fault : (n : ℕ) → first_faulty f ≡ Some n → FirstFault f n
  unfolding first_faulty
  first_fault n h =
      by_test (is_sound f 0)
      (λ a. by_test (is_sound f 1)
      (λ b. by_test (is_sound f 2)
      (λ c. by_test (is_sound f 3)
      (λ d. absurd (some_none n (sym (rw (a, b, c, d) at h))))
      (λ d.
      let z = same_entry 4 n (rw (a, b, c, d) at h) in
      record { before = 3; place = sym z; faulty = d; earlier = earlier_four a b c }))
      (λ c.
      let z = same_entry 3 n (rw (a, b, c) at h) in
      record { before = 2; place = sym z; faulty = c; earlier = earlier_three a b }))
      (λ b.
      let z = same_entry 2 n (rw (a, b) at h) in
      record { before = 1; place = sym z; faulty = b; earlier = earlier_two a }))
      (λ a.
      let z = same_entry 1 n (rw a at h) in
      record { before = 0; place = sym z; faulty = a; earlier = λ j l. absurd (omega arith) })

pub names_the_fault : NamesTheFault
unfolding verdict_of
names_the_fault f n h = by_test (leb (length f) limit)
    (λ t. by_fault (first_faulty f)
    (λ u. absurd (compared_faulty 0 (right_answers f) (section_of f answers_kind) n (rw (t, u) at h)))
    (λ k u.
    let g : Faulty k ≡ Faulty n = rw (t, u) at h in
    let e : k ≡ n = cc in
    (leb-true (length f) limit t, first_fault f n (u ∙ ap Some e))))
    (λ t. absurd (long_faulty n (rw t at h)))
