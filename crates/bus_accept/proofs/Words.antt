-- SPDX-License-Identifier: Apache-2.0
-- Four bytes as one number: they are told by it, and by it the end of an image; each byte of it; and a list of unknown bytes
-- by their places.
use Prim.Native.Nat.{ℕ, zero, suc, ◌+◌, ◌*◌, ◌/◌, ◌%◌, ◌≤◌, ◌<◌}
use mathlib.Core.Path.{◌≡◌, refl, ap}
use mathlib.Core.Bool.{◌&&◌, and-true, and_assoc}
use mathlib.Core.List.{List, [], ◌∷◌, ◌++◌}
use native.Mathlib.Omega.{arith}
use lib.Dec.{eqb}
use lib.ListN.{length, drop, get_or, drop_of_length-le}
use lib.Seq.{drop-cons}
use borrow.Author.Tests.{eqb-true, eq-eqb}
use Rattle.wire.proofs.Tests.{and_split, and_join}
use Rattle.bus_image.specs.Bytes.{same_bytes}
use Rattle.bus_accept.specs.Tests.{word_at, the_end}
use Rattle.bus_accept.proofs.BusBytes.{same_truth}

-- so many bytes of a list from a place on, by their places
unfoldable pub listed : ℕ → ℕ → List ℕ → List ℕ
listed zero k i = []
listed (suc n) k i = get_or i k 0 ∷ listed n (suc k) i

pub listed_split : (n k : ℕ) (i : List ℕ) (j : ℕ) → j ≡ k + n → j ≤ length i → listed n k i ++ drop j i ≡ drop k i
unfolding listed
listed_split zero k i j e h = let z : j ≡ k = omega arith in rw z
listed_split (suc n) k i j e h =
    let g : k < length i = omega arith in
    rw (drop-cons i k 0) (ap (λ (t : List ℕ). get_or i k 0 ∷ t) (listed_split n (suc k) i j (omega arith) h))

-- four bytes are told by the number that they make
four_equal : (a b c d w x y z : ℕ) → a < 256 → b < 256 → c < 256 → d < 256 → w < 256 → x < 256 → y < 256 → z < 256
    → eqb (a + b * 0x100 + c * 0x10000 + d * 0x1000000) (w + x * 0x100 + y * 0x10000 + z * 0x1000000)
    ≡ (eqb a w && (eqb b x && (eqb c y && eqb d z)))
four_equal a b c d w x y z ha hb hc hd hw hx hy hz = same_truth _ _
    (λ t.
    let n = eqb-true (a + b * 0x100 + c * 0x10000 + d * 0x1000000) (w + x * 0x100 + y * 0x10000 + z * 0x1000000) t in
    and_join _ _ (eq-eqb a w (omega arith)) (and_join _ _ (eq-eqb b x (omega arith))
    (and_join _ _ (eq-eqb c y (omega arith)) (eq-eqb d z (omega arith)))))
    (λ t.
    let p = and_split (eqb a w) (eqb b x && (eqb c y && eqb d z)) t in
    let q = and_split (eqb b x) (eqb c y && eqb d z) p.1 in
    let r = and_split (eqb c y) (eqb d z) q.1 in
    let ea = eqb-true a w p.0 in
    let eb = eqb-true b x q.0 in
    let ec = eqb-true c y r.0 in
    let ed = eqb-true d z r.1 in
    eq-eqb (a + b * 0x100 + c * 0x10000 + d * 0x1000000) (w + x * 0x100 + y * 0x10000 + z * 0x1000000) (omega arith))

-- what the code tests of bytes 30 to 63
module _ (i : List ℕ) (b : (k : ℕ) → get_or i k 0 < 256) where
  word_equal : (n w x y z : ℕ) → w < 256 → x < 256 → y < 256 → z < 256
      → eqb (word_at i n) (w + x * 0x100 + y * 0x10000 + z * 0x1000000)
      ≡ (eqb (get_or i n 0) w && (eqb (get_or i (n + 1) 0) x && (eqb (get_or i (n + 2) 0) y && eqb (get_or i (n + 3) 0) z)))
  word_equal n w x y z hw hx hy hz =
      four_equal _ _ _ _ w x y z (b n) (b (n + 1)) (b (n + 2)) (b (n + 3)) hw hx hy hz

  word_zero : (n : ℕ)
      → eqb (word_at i n) 0
      ≡ (eqb (get_or i n 0) 0 && (eqb (get_or i (n + 1) 0) 0 && (eqb (get_or i (n + 2) 0) 0 && eqb (get_or i (n + 3) 0) 0)))
  word_zero n = let z : 0 < 256 = omega arith in word_equal n 0 0 0 0 z z z z

  pub end_tested : (x y z : ℕ) → x < 256 → y < 256 → z < 256 → length i ≡ 64
      → (((((((((eqb (get_or i 30 0) 0 && eqb (get_or i 31 0) 0) && eqb (word_at i 32) 0) && eqb (word_at i 36) 0)
      && eqb (word_at i 40) 0) && eqb (word_at i 44) 0) && eqb (word_at i 48) 0) && eqb (word_at i 52) 0)
      && eqb (word_at i 56) 0) && eqb (word_at i 60) (word_at (0 ∷ x ∷ y ∷ z ∷ []) 0))
      ≡ same_bytes (drop 30 i) (the_end x y z)
  unfolding same_bytes listed
  end_tested x y z hx hy hz l =
      let h : length i ≤ 64 = omega arith in
      let e : drop 64 i ≡ [] = drop_of_length-le i h in
      rw (
        ← listed_split 34 30 i 64 refl (omega arith),
        e,
        word_zero 32,
        word_zero 36,
        word_zero 40,
        word_zero 44,
        word_zero 48,
        word_zero 52,
        word_zero 56,
        word_equal 60 0 x y z (omega arith) hx hy hz,
      )
      (simp (and_assoc, and-true))

  -- the bytes of a word
  module _ (n : ℕ) where
    pub byte_0 : word_at i n % 0x100 ≡ get_or i n 0
    byte_0 = omega (arith, b n, b (n + 1), b (n + 2), b (n + 3))

    pub fourth_0 : word_at i n / 16 % 2 ≡ get_or i n 0 / 16 % 2
    fourth_0 = omega (arith, b n, b (n + 1), b (n + 2), b (n + 3))

    pub below_0 : word_at i n % 0x80 ≡ get_or i n 0 % 0x80
    below_0 = omega (arith, b n, b (n + 1), b (n + 2), b (n + 3))

    pub byte_1 : word_at i n / 0x100 % 0x100 ≡ get_or i (n + 1) 0
    byte_1 = omega (arith, b n, b (n + 1), b (n + 2), b (n + 3))

    pub below_1 : word_at i n / 0x100 % 0x80 ≡ get_or i (n + 1) 0 % 0x80
    below_1 = omega (arith, b n, b (n + 1), b (n + 2), b (n + 3))

    pub byte_2 : word_at i n / 0x10000 % 0x100 ≡ get_or i (n + 2) 0
    byte_2 = omega (arith, b n, b (n + 1), b (n + 2), b (n + 3))

    pub below_2 : word_at i n / 0x10000 % 0x80 ≡ get_or i (n + 2) 0 % 0x80
    below_2 = omega (arith, b n, b (n + 1), b (n + 2), b (n + 3))

    pub byte_3 : word_at i n / 0x1000000 ≡ get_or i (n + 3) 0
    byte_3 = omega (arith, b n, b (n + 1), b (n + 2), b (n + 3))
