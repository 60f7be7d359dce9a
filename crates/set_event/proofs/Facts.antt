-- SPDX-License-Identifier: Apache-2.0
-- What a test of all places says of each, and a test of each two devices of two.
use Prim.Native.Nat.{ℕ}
use mathlib.Core.Path.{◌≡◌, refl}
use mathlib.Core.Bool.{Bool, true, false, cond, ◌&&◌}
use lib.Dec.{ltb}
use Rattle.wire.proofs.Tests.{and_split, and_join}
use Rattle.set_event.specs.Set.{Held, Together, Place, first, second, third, fourth, number_of, at}
use Rattle.set_event.specs.Make.{if_here, all_here, places_are, all_pairs, pairs_are}

pub three_of : (a b c : Bool) → (a && (b && c)) ≡ true → (a ≡ true) × (b ≡ true) × (c ≡ true)
three_of a b c e =
    let h = and_split a (b && c) e in
    let g = and_split b c h.1 in
    (h.0, g.0, g.1)

pub four_of : (a b c d : Bool) → (a && (b && (c && d))) ≡ true → (a ≡ true) × (b ≡ true) × (c ≡ true) × (d ≡ true)
four_of a b c d e =
    let h = and_split a (b && (c && d)) e in
    let g = three_of b c d h.1 in
    (h.0, g.0, g.1, g.2)

pub of_four : (a b c d : Bool) → a ≡ true → b ≡ true → c ≡ true → d ≡ true → (a && (b && (c && d))) ≡ true
of_four a b c d p q r s = rw (p, q, r, s)

pub here_is : (n v : ℕ) (b : Bool) → if_here n v b ≡ true → ltb v n ≡ true → b ≡ true
unfolding if_here
here_is n v b e h = rw h at e

pub of_here : (n v : ℕ) (b : Bool) → (ltb v n ≡ true → b ≡ true) → if_here n v b ≡ true
unfolding if_here
of_here n v b f = go (ltb v n) f
  where
    go : (c : Bool) → (c ≡ true → b ≡ true) → cond c b true ≡ true
    go true f = f refl
    go false f = refl

module _ (test : Held → Bool) (t : Together) where
  abbrev n : ℕ
  n = t.set.count

  pub place_has : places_are test t ≡ true → (v : Place) → if_here n (number_of v) (test (at v t)) ≡ true
  unfolding places_are all_here
  place_has e first = (four_of (if_here n 0 (test (at first t))) (if_here n 1 (test (at second t))) (if_here n 2 (test
      (at third t))) (if_here n 3 (test (at fourth t))) e).0
  place_has e second = (four_of (if_here n 0 (test (at first t))) (if_here n 1 (test (at second t))) (if_here n 2 (test
      (at third t))) (if_here n 3 (test (at fourth t))) e).1
  place_has e third = (four_of (if_here n 0 (test (at first t))) (if_here n 1 (test (at second t))) (if_here n 2 (test
      (at third t))) (if_here n 3 (test (at fourth t))) e).2
  place_has e fourth = (four_of (if_here n 0 (test (at first t))) (if_here n 1 (test (at second t))) (if_here n 2 (test
      (at third t))) (if_here n 3 (test (at fourth t))) e).3

  pub of_places : ((v : Place) → if_here n (number_of v) (test (at v t)) ≡ true) → places_are test t ≡ true
  unfolding places_are all_here
  of_places f = rw (f first, f second, f third, f fourth)

-- of each two devices, the later of which is on the line
pub record Pairs (test : Held → Held → Bool) (t : Together) : Type 0 where
  pub first_second : ltb 1 t.set.count ≡ true → test (at first t) (at second t) ≡ true
  pub first_third : ltb 2 t.set.count ≡ true → test (at first t) (at third t) ≡ true
  pub second_third : ltb 2 t.set.count ≡ true → test (at second t) (at third t) ≡ true
  pub first_fourth : ltb 3 t.set.count ≡ true → test (at first t) (at fourth t) ≡ true
  pub second_fourth : ltb 3 t.set.count ≡ true → test (at second t) (at fourth t) ≡ true
  pub third_fourth : ltb 3 t.set.count ≡ true → test (at third t) (at fourth t) ≡ true

module _ (test : Held → Held → Bool) (t : Together) where
  abbrev count : ℕ
  count = t.set.count

  abbrev with_third : Bool
  with_third = test (at first t) (at third t) && test (at second t) (at third t)

  abbrev with_fourth : Bool
  with_fourth =
      test (at first t) (at fourth t) && (test (at second t) (at fourth t) && test (at third t) (at fourth t))

  three_have : (e : if_here count 2 with_third ≡ true) → ltb 2 count ≡ true
      → (test (at first t) (at third t) ≡ true) × (test (at second t) (at third t) ≡ true)
  three_have e k =
      and_split (test (at first t) (at third t)) (test (at second t) (at third t)) (here_is count 2 with_third e k)

  four_have : (e : if_here count 3 with_fourth ≡ true) → ltb 3 count ≡ true
      → (test (at first t) (at fourth t) ≡ true) × (test (at second t) (at fourth t) ≡ true)
      × (test (at third t) (at fourth t) ≡ true)
  four_have e k =
      three_of (test (at first t) (at fourth t)) (test (at second t) (at fourth t)) (test (at third t) (at fourth t))
      (here_is count 3 with_fourth e k)

  pub pairs_have : pairs_are test t ≡ true → Pairs test t
  unfolding pairs_are all_pairs
  pairs_have e =
      let h = three_of (if_here count 1 (test (at first t) (at second t))) (if_here count 2 with_third) (if_here count 3
      with_fourth) e in
      record {
        first_second = λ k. here_is count 1 (test (at first t) (at second t)) h.0 k;
        first_third = λ k. (three_have h.1 k).0;
        second_third = λ k. (three_have h.1 k).1;
        first_fourth = λ k. (four_have h.2 k).0;
        second_fourth = λ k. (four_have h.2 k).1;
        third_fourth = λ k. (four_have h.2 k).2;
      }

  pub of_pairs : Pairs test t → pairs_are test t ≡ true
  unfolding pairs_are all_pairs
  of_pairs p =
      rw (
        of_here count 1 (test (at first t) (at second t)) p.first_second,
        of_here count 2 with_third (λ k. and_join _ _ (p.first_third k) (p.second_third k)),
        of_here count 3 with_fourth
            (λ k. and_join _ _ (p.first_fourth k) (and_join _ _ (p.second_fourth k) (p.third_fourth k))),
      )
