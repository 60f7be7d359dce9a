-- SPDX-License-Identifier: Apache-2.0
-- Lists of events on any part, and lists that are merged.
use Prim.Native.Nat.{ℕ}
use mathlib.Core.Path.{◌≡◌, refl}
use mathlib.Core.Bool.{true, false}
use mathlib.Core.List.{List, [], ◌∷◌, ◌++◌}
use lib.Dec.{ltb}
use borrow.Author.Tests.{lt-ltb, le-ltb, ltb-true, ltb-false}
use native.Mathlib.Omega.{arith}
use Rattle.pins_levels.proofs.Facts.{and_both}
use Rattle.pins_levels.specs.Look.{known}
use Rattle.pins_levels.specs.Session.{Part, ran, is_told, all_told, stood, asked, settled_on, Merged, neither, on_bus, handed}
use Rattle.pins_levels.specs.declared.Token.{Token}

module _ (P : Part) where
  pub ran_append : (s : P.State) (xs ys : List ℕ) → ran P s (xs ++ ys) ≡ ran P (ran P s xs) ys
  unfolding ran
  ran_append s [] ys = refl
  ran_append s (e ∷ xs) ys = ran_append (P.event s e) xs ys

  -- with an event at the end the lines are asked
  pub settled_some : (t : Token) (es : List ℕ) (e : ℕ) (s : P.State)
      → settled_on P t (es ++ (e ∷ [])) s ≡ stood P (asked P t (ran P s (es ++ (e ∷ [])))) (ran P s (es ++ (e ∷ [])))
  unfolding settled_on
  settled_some t [] e s = refl
  settled_some t (x ∷ es) e s = refl

pub all_told_append : (xs ys : List ℕ) → all_told xs ≡ true → all_told ys ≡ true → all_told (xs ++ ys) ≡ true
unfolding all_told
all_told_append [] ys p q = q
all_told_append (e ∷ xs) ys p q =
    let h = and_both (is_told e) (all_told xs) p in
    rw h.0 (all_told_append xs ys h.1 q)

pub merge_append : {es bs ts es' bs' ts' : List ℕ} → Merged es bs ts → Merged es' bs' ts'
    → Merged (es ++ es') (bs ++ bs') (ts ++ ts')
merge_append neither q = q
merge_append (on_bus e p) q = on_bus e (merge_append p q)
merge_append (handed e p) q = handed e (merge_append p q)

-- handed in only
pub all_handed : (ts : List ℕ) → Merged ts [] ts
all_handed [] = neither
all_handed (e ∷ ts) = handed e (all_handed ts)

pub known_some : (e : ℕ) → ltb 7 e ≡ false → known e ≡ e ∷ []
unfolding known
known_some e h = let l = ltb-false 7 e h in rw (lt-ltb e 8 (omega arith))

pub known_none : (e : ℕ) → ltb 7 e ≡ true → known e ≡ []
unfolding known
known_none e h = let l = ltb-true 7 e h in rw (le-ltb e 8 (omega arith))
