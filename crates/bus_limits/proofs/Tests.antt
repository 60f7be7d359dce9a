-- SPDX-License-Identifier: Apache-2.0
-- The code's tests as those of the definitions: a byte shifted by its clocks, and a test that one number alone asks for.
use Prim.Native.Nat.{ℕ, ◌+◌, ◌*◌, ◌/◌, ◌^◌, ◌<◌}
use mathlib.Core.Path.{◌≡◌, refl}
use mathlib.Core.Bool.{Bool, true, false, cond, not, ◌||◌}
use native.Mathlib.Omega.{arith}
use lib.Dec.{eqb, ltb}
use borrow.Author.Tests.{ne_eqb, ltb-true, ltb-false}
use Rattle.std.proofs.lemmas.Nat.{pow_pos}
use Rattle.std.proofs.Math.Nat.{div-eq_of_lt, lt-div-mul-add}
use Rattle.wire.proofs.Tests.{by_test}

-- only the bits of the clocks done are set: the byte shifted by them is 0
pub shifted_out : (k b : ℕ) → eqb (b / 2 ^ k) 0 ≡ ltb b (2 ^ k)
shifted_out k b =
    by_test (ltb b (2 ^ k))
    (λ t. rw (t, div-eq_of_lt (ltb-true b (2 ^ k) t)))
    (λ t.
    let h = ltb-false b (2 ^ k) t in
    let l : b < b / 2 ^ k * 2 ^ k + 2 ^ k = lt-div-mul-add (pow_pos k) in
    rw (t, ne_eqb (b / 2 ^ k) 0 (λ e. let s = rw e at l in omega arith)))

pub unless : (t x : Bool) → (not t || x) ≡ cond t x true
unless true x = refl
unless false x = refl
