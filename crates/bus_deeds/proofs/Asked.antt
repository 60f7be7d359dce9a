-- SPDX-License-Identifier: Apache-2.0
-- What a clock asks, by the tests that the code makes on the clocks done.
use Prim.Native.Nat.{ℕ}
use mathlib.Core.Path.{◌≡◌, refl}
use mathlib.Core.Bool.{Bool, true, false, cond}
use lib.Dec.{eqb, ltb}
use borrow.Author.Tests.{ne_eqb}
use Rattle.wire.specs.Bits.{first, within, ack, place_at}
use Rattle.bus_deeds.specs.Serve.{at_last, at_ends}
use Rattle.bus_deeds.specs.declared.Deed.{Deed}
use Rattle.bus_deeds.specs.declared.Deed.TheVariants.{Nothing}

-- a clock that is not the eighth
last_by : (s t : Bool) (x : Deed) → at_last (cond s first (cond t within ack)) x ≡ Nothing
unfolding at_last
last_by true t x = refl
last_by false true x = refl
last_by false false x = refl

pub last_none : (k : ℕ) (x : Deed) → (k ≡ 7 → ⊥) → at_last (place_at k) x ≡ Nothing
unfolding place_at
last_none k x n = rw (ne_eqb k 7 n) (last_by (eqb k 0) (ltb k 7) x)

-- one that is neither the first nor the eighth
ends_by : (t : Bool) (b : ℕ) → at_ends (cond t within ack) b ≡ Nothing
unfolding at_ends
ends_by true b = refl
ends_by false b = refl

pub ends_none : (k b : ℕ) → (k ≡ 0 → ⊥) → (k ≡ 7 → ⊥) → at_ends (place_at k) b ≡ Nothing
unfolding place_at
ends_none k b z n = rw (ne_eqb k 0 z, ne_eqb k 7 n) (ends_by (ltb k 7) b)
