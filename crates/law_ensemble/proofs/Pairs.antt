-- SPDX-License-Identifier: Apache-2.0
-- What a test of each two devices says of any two, in whichever order, and what says it.
use Prim.Native.Nat.{ℕ, ◌<◌}
use mathlib.Core.Path.{◌≡◌, sym, refl}
use mathlib.Core.Bool.{Bool, true, false}
use native.Mathlib.Omega.{arith}
use lib.Dec.{ltb}
use borrow.Author.Tests.{ltb-true, lt-ltb}
use Rattle.law_wired.proofs.Wire.{not_true}
use Rattle.set_event.specs.Set.{Held, Together, Place, first, second, third, fourth, at}
use Rattle.set_event.specs.Make.{pairs_are}
use Rattle.set_event.proofs.Facts.{Pairs, pairs_have, of_pairs}
use Rattle.law_ensemble.specs.Transaction.{same_place, Here}

module _ (R : Held → Held → Type 0) (back : (h k : Held) → R h k → R k h) (test : Held → Held → Bool)
    (from : (h k : Held) → test h k ≡ true → R h k) (t : Together) (e : pairs_are test t ≡ true)
  where
    abbrev p : Pairs test t
    p = pairs_have test t e

    pub each_two : (v w : Place) → Here t v → Here t w → same_place v w ≡ false → R (at v t) (at w t)
    each_two first first a b d = not_true (sym d)
    each_two first second a b d = from _ _ (p.first_second b)
    each_two first third a b d = from _ _ (p.first_third b)
    each_two first fourth a b d = from _ _ (p.first_fourth b)
    each_two second first a b d = back _ _ (from _ _ (p.first_second a))
    each_two second second a b d = not_true (sym d)
    each_two second third a b d = from _ _ (p.second_third b)
    each_two second fourth a b d = from _ _ (p.second_fourth b)
    each_two third first a b d = back _ _ (from _ _ (p.first_third a))
    each_two third second a b d = back _ _ (from _ _ (p.second_third a))
    each_two third third a b d = not_true (sym d)
    each_two third fourth a b d = from _ _ (p.third_fourth b)
    each_two fourth first a b d = back _ _ (from _ _ (p.first_fourth a))
    each_two fourth second a b d = back _ _ (from _ _ (p.second_fourth a))
    each_two fourth third a b d = back _ _ (from _ _ (p.third_fourth a))
    each_two fourth fourth a b d = not_true (sym d)

-- an earlier place is on the line too
earlier : (v w n : ℕ) → v < w → ltb w n ≡ true → ltb v n ≡ true
earlier v w n l e = let k = ltb-true w n e in lt-ltb v n (omega arith)

pub of_each_two : (test : Held → Held → Bool) (t : Together)
    → ((v w : Place) → Here t v → Here t w → same_place v w ≡ false → test (at v t) (at w t) ≡ true)
    → pairs_are test t ≡ true
of_each_two test t f =
    let n = t.set.count in
    of_pairs test t
    (record {
      first_second = λ k. f first second (earlier 0 1 n (omega arith) k) k refl;
      first_third = λ k. f first third (earlier 0 2 n (omega arith) k) k refl;
      second_third = λ k. f second third (earlier 1 2 n (omega arith) k) k refl;
      first_fourth = λ k. f first fourth (earlier 0 3 n (omega arith) k) k refl;
      second_fourth = λ k. f second fourth (earlier 1 3 n (omega arith) k) k refl;
      third_fourth = λ k. f third fourth (earlier 2 3 n (omega arith) k) k refl;
    })
