-- SPDX-License-Identifier: Apache-2.0
-- What a comparison says of two lists: "the first answer that our rules do not give", and "that all agree".
use Prim.Native.Nat.{ℕ, zero, suc, ◌+◌, ◌<◌}
use mathlib.Core.Path.{◌≡◌, refl, sym, ◌∙◌}
use mathlib.Core.List.{List, [], ◌∷◌}
use native.Mathlib.Omega.{arith}
use native.Mathlib.Nat.{le_of_suc-le-suc, not-suc-le-zero}
use lib.Dec.{eqb}
use lib.ListN.{length, get_or}
use borrow.Author.Tests.{eqb-true, eqb-false}
use Rattle.wire.proofs.Tests.{by_test}
use Rattle.c_judge.specs.Verdict.{compared}
use Rattle.c_judge.specs.Laws.{First}
use Rattle.c_judge.specs.declared.Verdict.TheVariants.{Agree, Differs, Faulty}

record FirstFrom (k : ℕ) (rs bs : List ℕ) (n a r : ℕ) : Type 0 where
  i : ℕ
  place : n ≡ k + i
  first : First rs bs i a r

agree_differs : (k n a r : ℕ) → Agree k ≡ Differs n a r → ⊥
agree_differs k n a r e = let z : ◌≡◌ {A = ℕ} 0 1 = cc in omega arith

earlier_more : (b c : ℕ) (rs bs : List ℕ) (i : ℕ) → b ≡ c → ((j : ℕ) → j < i → get_or bs j 0 ≡ get_or rs j 0)
    → (j : ℕ) → j < suc i → get_or (b ∷ bs) j 0 ≡ get_or (c ∷ rs) j 0
earlier_more b c rs bs i e h zero l = e
earlier_more b c rs bs i e h (suc j) l = h j (le_of_suc-le-suc l)

none_earlier : (rs bs : List ℕ) (j : ℕ) → j < 0 → get_or bs j 0 ≡ get_or rs j 0
none_earlier rs bs j l = absurd (not-suc-le-zero l)

first_from : (k : ℕ) (rs bs : List ℕ) (n a r : ℕ) → compared k rs bs ≡ Differs n a r → FirstFrom k rs bs n a r
unfolding compared
first_from k [] bs n a r h = absurd (agree_differs k n a r h)
first_from k (c ∷ rs) [] n a r h = absurd (agree_differs k n a r h)
first_from k (c ∷ rs) (b ∷ bs) n a r h = by_test (eqb b c)
    (λ t.
    let g : compared (k + 1) rs bs ≡ Differs n a r = rw t at h in
    let w = first_from (k + 1) rs bs n a r g in
    let f = w.first in
    let p = w.place in
    record {
      i = suc w.i;
      place = omega arith;
      first = record {
        recorded = f.recorded;
        right = f.right;
        wrong = f.wrong;
        within = let l = f.within in omega arith;
        earlier = earlier_more b c rs bs w.i (eqb-true b c t) f.earlier;
      };
    })
    (λ t.
    let g : Differs k b c ≡ Differs n a r = rw t at h in
    let kn : k ≡ n = cc in
    let ba : b ≡ a = cc in
    let cr : c ≡ r = cc in
    record {
      i = 0;
      place = omega arith;
      first = record {
        recorded = ba;
        right = cr;
        wrong = λ e. eqb-false b c t (ba ∙ e ∙ sym cr);
        within = omega arith;
        earlier = none_earlier (c ∷ rs) (b ∷ bs);
      };
    })

-- "names the first answer that our rules do not give"
pub first_wrong : (rs bs : List ℕ) (n a r : ℕ) → compared 0 rs bs ≡ Differs n a r → First rs bs n a r
first_wrong rs bs n a r h =
    let w = first_from 0 rs bs n a r h in
    let p = w.place in
    let e : n ≡ w.i = omega arith in
    rw e w.first

differs_agree : (k n a r : ℕ) → Differs n a r ≡ Agree k → ⊥
differs_agree k n a r e = let z : ◌≡◌ {A = ℕ} 0 1 = cc in omega arith

agree_from : (k : ℕ) (rs bs : List ℕ) (n : ℕ) → length rs ≡ length bs → compared k rs bs ≡ Agree n
    → (bs ≡ rs) × (n ≡ k + length bs)
unfolding compared
agree_from k [] [] n l h = let e : k ≡ n = cc in (refl, omega arith)
agree_from k [] (b ∷ bs) n l h = absurd (omega arith)
agree_from k (c ∷ rs) [] n l h = absurd (omega arith)
agree_from k (c ∷ rs) (b ∷ bs) n l h = by_test (eqb b c)
    (λ t.
    let g : compared (k + 1) rs bs ≡ Agree n = rw t at h in
    let m : length rs ≡ length bs = omega arith in
    let w = agree_from (k + 1) rs bs n m g in
    let e = eqb-true b c t in
    let u = w.0 in
    let p = w.1 in
    (cc, omega arith))
    (λ t. absurd (differs_agree n k b c (rw t at h)))

-- "or says that all agree", and how many
pub all_agree : (rs bs : List ℕ) (n : ℕ) → length rs ≡ length bs → compared 0 rs bs ≡ Agree n
    → (bs ≡ rs) × (n ≡ length bs)
all_agree rs bs n l h =
    let w = agree_from 0 rs bs n l h in
    let p = w.1 in
    (w.0, omega arith)

-- a comparison names no entry
agree_faulty : (k n : ℕ) → Agree k ≡ Faulty n → ⊥
agree_faulty k n e = let z : ◌≡◌ {A = ℕ} 0 1 = cc in omega arith

differs_faulty : (k b r n : ℕ) → Differs k b r ≡ Faulty n → ⊥
differs_faulty k b r n e = let z : ◌≡◌ {A = ℕ} 0 1 = cc in omega arith

pub compared_faulty : (k : ℕ) (rs bs : List ℕ) (n : ℕ) → compared k rs bs ≡ Faulty n → ⊥
unfolding compared
compared_faulty k [] bs n h = agree_faulty k n h
compared_faulty k (c ∷ rs) [] n h = agree_faulty k n h
compared_faulty k (c ∷ rs) (b ∷ bs) n h = by_test (eqb b c)
    (λ t. compared_faulty (k + 1) rs bs n (rw t at h))
    (λ t. differs_faulty k b c n (rw t at h))
