-- SPDX-License-Identifier: Apache-2.0
-- In a sound file each kind is found, whichever entry has it, and there are as many events as answers.
use Prim.Native.Nat.{ℕ, zero, suc, ◌+◌, ◌-◌, ◌≤◌, ◌<◌}
use mathlib.Core.Path.{◌≡◌, sym, ap, ◌∙◌}
use mathlib.Core.Bool.{true, false}
use mathlib.Core.List.{List}
use native.Mathlib.Omega.{arith}
use lib.Dec.{ltb, eqb}
use lib.ListN.{length, take, drop}
use borrow.Author.Tests.{ltb-true, ltb-false, eqb-true, eqb-false, eq-eqb, ne_eqb}
use Rattle.std.specs.Prelude.{None}
use Rattle.wire.proofs.Tests.{by_test}
use Rattle.capture_table.specs.Table.{table_size, entry_at, body_of, is_accepted}
use Rattle.capture_table.specs.Sections.{index_of, entry_of, section_of, first_faulty}
use Rattle.capture_table.specs.declared.Entry.{Entry}
use Rattle.capture_table.proofs.Sound.{Whole, Sound, sound_of}
use Rattle.capture_table.proofs.Four.{four}

-- the entry of a kind
pub record Found (f : List ℕ) (k : ℕ) : Type 0 where
  pub below : index_of f k < 4
  pub kind : (entry_of f k).kind ≡ k
  pub whole : Whole f (index_of f k)

found_at : (f : List ℕ) (k n : ℕ) → n < 4 → (entry_at f n).kind ≡ k → Whole f n → index_of f k ≡ n → Found f k
found_at f k n l h w e = record { below = rw e l; kind = rw e h; whole = rw e w }

module _ (f : List ℕ) (k : ℕ) where
  index_first : eqb (entry_at f 0).kind k ≡ true → index_of f k ≡ 0
  unfolding index_of
  index_first a = rw a

  module _ (a : eqb (entry_at f 0).kind k ≡ false) where
    index_second : eqb (entry_at f 1).kind k ≡ true → index_of f k ≡ 1
    unfolding index_of
    index_second b = rw (a, b)

    module _ (b : eqb (entry_at f 1).kind k ≡ false) where
      index_third : eqb (entry_at f 2).kind k ≡ true → index_of f k ≡ 2
      unfolding index_of
      index_third c = rw (a, b, c)

      index_fourth : eqb (entry_at f 2).kind k ≡ false → index_of f k ≡ 3
      unfolding index_of
      index_fourth c = rw (a, b, c)

module _ (f : List ℕ) (s : Sound f) where
  pub found : (k : ℕ) → 1 ≤ k → k ≤ 4 → Found f k
  found k l h =
      by_test (eqb (entry_at f 0).kind k)
      (λ a. found_at f k 0 (omega arith) (eqb-true _ _ a) s.first (index_first f k a))
      (λ a. by_test (eqb (entry_at f 1).kind k)
      (λ b. found_at f k 1 (omega arith) (eqb-true _ _ b) s.second (index_second f k a b))
      (λ b. by_test (eqb (entry_at f 2).kind k)
      (λ c. found_at f k 2 (omega arith) (eqb-true _ _ c) s.third (index_third f k a b c))
      (λ c. found_at f k 3 (omega arith) (last (eqb-false _ _ a) (eqb-false _ _ b) (eqb-false _ _ c)) s.fourth
      (index_fourth f k a b c)))) where
        last : ((entry_at f 0).kind ≡ k → ⊥) → ((entry_at f 1).kind ≡ k → ⊥) → ((entry_at f 2).kind ≡ k → ⊥)
            → (entry_at f 3).kind ≡ k
        last p q r =
            let t1 = s.first.stands in
            let t2 = s.second.stands in
            let t3 = s.third.stands in
            let t4 = s.fourth.stands in
            four _ _ _ _ _ t1.low t1.high t2.low t2.high t3.low t3.high t4.low t4.high l h
            (s.second.apart 0 (omega arith)).kinds (s.third.apart 0 (omega arith)).kinds
            (s.third.apart 1 (omega arith)).kinds (s.fourth.apart 0 (omega arith)).kinds
            (s.fourth.apart 1 (omega arith)).kinds (s.fourth.apart 2 (omega arith)).kinds p q r

  -- as many events as answers
  pub even : (entry_of f 3).size ≡ (entry_of f 4).size
  even =
      let e = found 3 (omega arith) (omega arith) in
      let a = found 4 (omega arith) (omega arith) in
      let ke = e.kind in
      let ka = a.kind in
      by_test (ltb (index_of f 3) (index_of f 4))
      (λ t. sym ((a.whole.apart (index_of f 3) (ltb-true _ _ t)).counts (omega arith) (omega arith)))
      (λ t. by_test (ltb (index_of f 4) (index_of f 3))
      (λ u. (e.whole.apart (index_of f 4) (ltb-true _ _ u)).counts (omega arith) (omega arith))
      (λ u.
      let x = ltb-false (index_of f 3) (index_of f 4) t in
      let y = ltb-false (index_of f 4) (index_of f 3) u in
      let z : index_of f 3 ≡ index_of f 4 = omega arith in
      ap (λ (n : ℕ). (entry_at f n).size) z))

-- an entry found in its place
module _ (f : List ℕ) (k : ℕ) where
  pub index_at : (n : ℕ) → n < 3 → ((j : ℕ) → j < n → (entry_at f j).kind ≡ k → ⊥) → (entry_at f n).kind ≡ k → index_of f k ≡ n
  index_at zero l o h = index_first f k (eq-eqb _ _ h)
  index_at (suc zero) l o h = index_second f k (ne_eqb _ _ (o 0 (omega arith))) (eq-eqb _ _ h)
  index_at (suc (suc zero)) l o h =
      index_third f k (ne_eqb _ _ (o 0 (omega arith))) (ne_eqb _ _ (o 1 (omega arith))) (eq-eqb _ _ h)
  index_at (suc (suc (suc n))) l o h = absurd (omega arith)

  pub index_last : ((j : ℕ) → j < 3 → (entry_at f j).kind ≡ k → ⊥) → index_of f k ≡ 3
  index_last o =
      index_fourth f k (ne_eqb _ _ (o 0 (omega arith))) (ne_eqb _ _ (o 1 (omega arith))) (ne_eqb _ _ (o 2 (omega arith)))

  pub entry_found : (n : ℕ) (e : Entry) → index_of f k ≡ n → e ≡ entry_at f n → e ≡ entry_of f k
  entry_found n e i p = rw i p

  is : (n : ℕ) (e : Entry) → e ≡ entry_at f n → e.kind ≡ k → eqb (entry_at f n).kind k ≡ true
  is n e p h = eq-eqb _ _ (ap (λ (x : Entry). x.kind) (sym p) ∙ h)

  pub isnt : (n : ℕ) (e : Entry) → e ≡ entry_at f n → (e.kind ≡ k → ⊥) → eqb (entry_at f n).kind k ≡ false
  isnt n e p h = by_test (eqb (entry_at f n).kind k)
      (λ t. absurd (h (ap (λ (x : Entry). x.kind) p ∙ eqb-true _ _ t)))
      (λ t. t)

  pub of_first : (e : Entry) → e ≡ entry_at f 0 → e.kind ≡ k → e ≡ entry_of f k
  of_first e p h = rw (index_first f k (is 0 e p h)) p

  module _ (a : eqb (entry_at f 0).kind k ≡ false) where
    pub of_second : (e : Entry) → e ≡ entry_at f 1 → e.kind ≡ k → e ≡ entry_of f k
    of_second e p h = rw (index_second f k a (is 1 e p h)) p

    module _ (b : eqb (entry_at f 1).kind k ≡ false) where
      pub of_third : (e : Entry) → e ≡ entry_at f 2 → e.kind ≡ k → e ≡ entry_of f k
      of_third e p h = rw (index_third f k a b (is 2 e p h)) p

      pub of_fourth : (e : Entry) → eqb (entry_at f 2).kind k ≡ false → e ≡ entry_at f 3 → e ≡ entry_of f k
      of_fourth e c p = rw (index_fourth f k a b c) p

-- what a file with no faulty entry holds
module _ (f : List ℕ) (z : first_faulty f ≡ None) where
  pub table_fits : table_size ≤ length f
  table_fits = (sound_of f z).fourth.reaches

  module _ (k : ℕ) (l : 1 ≤ k) (h : k ≤ 4) where
    pub accepted : is_accepted k (section_of f k) ≡ true
    accepted = let w = found f (sound_of f z) k l h in rw w.kind at w.whole.stands.accepted

    module _ (e : Entry) (p : e ≡ entry_of f k) where
      pub inside : e.from + e.size ≤ length f
      inside = rw p (found f (sound_of f z) k l h).whole.stands.inside

      -- the body as the code takes it
      pub part_section : take (e.from + e.size - e.from) (drop e.from f) ≡ section_of f k
      part_section =
          let n : e.from + e.size - e.from ≡ e.size = omega arith in
          rw n (ap (body_of f) p)
