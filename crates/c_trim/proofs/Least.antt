-- SPDX-License-Identifier: Apache-2.0
-- A place that moves one way comes nearer to a fixed one and then goes away from it: where the next step brings it no
-- nearer, none after it does. So among the places that the steps of one sign reach, `a * k + o`, and those that the
-- steps of the other reach, no place is nearer than one whose two neighbours are not.
use Prim.Native.Nat.{ℕ, zero, suc, ◌+◌, ◌*◌, ◌≤◌, ◌<◌}
use mathlib.Core.Path.{◌≡◌, refl}
use native.Mathlib.Omega.{arith}
use native.Mathlib.Nat.{mul-le-mul_left}
use native.Mathlib.Decide.{dec_lt}
use Rattle.c_trim.specs.Residue.{last_code}
use Rattle.c_trim.proofs.Signed.{apart}

apart_up : (x y w z : ℕ) → x < y → y ≤ w → apart x z ≤ apart y z → apart x z ≤ apart w z
apart_up x y w z l m h = omega arith

apart_down : (x y w z : ℕ) → y < x → w ≤ y → apart x z ≤ apart y z → apart x z ≤ apart w z
apart_down x y w z l m h = omega arith

apart_flip : (n m : ℕ) → apart n m ≡ apart m n
apart_flip n m = omega arith

-- from a step of one sign through no trim to those of the other
apart_through : (x y w o u : ℕ) → y < x → apart (x + o) u ≤ apart (y + o) u → apart (x + o) u ≤ apart (w + u) o
apart_through x y w o u l h = omega arith

-- ---- over any two steps: a is that of the setting's own sign, b that of the other

-- the codes beside k, of the same sign, leave no less
abbrev pub Beside : ℕ → ℕ → ℕ → ℕ → Type 0
Beside a o u k =
    (k < last_code → apart (a * k + o) u ≤ apart (a * (k + 1) + o) u)
    × ((p : ℕ) → k ≡ suc p → apart (a * k + o) u ≤ apart (a * p + o) u)

least_up : (a o u k j : ℕ) → 0 < a → k < j → j ≤ last_code → Beside a o u k
    → apart (a * k + o) u ≤ apart (a * j + o) u
least_up a o u k j z l h n =
    apart_up (a * k + o) (a * (k + 1) + o) (a * j + o) u (omega arith) (omega (arith, mul-le-mul_left a l))
    (n.0 (omega arith))

least_down : (a o u k j : ℕ) → 0 < a → j < k → Beside a o u k → apart (a * k + o) u ≤ apart (a * j + o) u
least_down a o u zero j z l n = absurd (omega arith)
least_down a o u (suc p) j z l n =
    let m : j ≤ p = omega arith in
    apart_down (a * suc p + o) (a * p + o) (a * j + o) u (omega arith) (omega (arith, mul-le-mul_left a m))
    (n.1 p refl)

least_of_same_by : (a o u k j : ℕ) → 0 < a → j ≤ last_code → Beside a o u k → Dec (k < j) → Dec (j < k)
    → apart (a * k + o) u ≤ apart (a * j + o) u
least_of_same_by a o u k j z h n (yes l) d = least_up a o u k j z l h n
least_of_same_by a o u k j z h n (no f) (yes l) = least_down a o u k j z l n
least_of_same_by a o u k j z h n (no f) (no g) =
    let q : k ≡ j = omega arith in
    rw q (omega arith)

pub least_of_same : (a o u k j : ℕ) → 0 < a → j ≤ last_code → Beside a o u k
    → apart (a * k + o) u ≤ apart (a * j + o) u
least_of_same a o u k j z h n = least_of_same_by a o u k j z h n (dec_lt k j) (dec_lt j k)

-- from no trim, over the first step of the other sign
apart_none : (b o u j : ℕ) → 0 < b → apart o u ≤ apart (b * 1 + u) o → apart o u ≤ apart (b * suc j + u) o
apart_none b o u j y h =
    let k = rw (apart_flip o u) at h in
    rw (apart_flip o u) (apart_up u (b * 1 + u) (b * suc j + u) o (omega arith) (omega arith) k)

pub least_of_other : (a b o u k j : ℕ) → 0 < a → 0 < b → Beside a o u k
    → (k ≡ 0 → apart (a * k + o) u ≤ apart (b * 1 + u) o) → apart (a * k + o) u ≤ apart (b * j + u) o
least_of_other a b o u (suc p) j z y n f =
    apart_through (a * suc p) (a * p) (b * j) o u (omega arith) (n.1 p refl)
least_of_other a b o u zero zero z y n f = omega arith
least_of_other a b o u zero (suc j) z y n f =
    let q : a * 0 + o ≡ o = omega arith in
    rw q (apart_none b o u j y (rw q at (f refl)))
