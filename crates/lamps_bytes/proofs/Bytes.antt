-- SPDX-License-Identifier: Apache-2.0
-- A record's bytes hold that record, so nothing is lost between calls; zeros are the record before any event; bytes that
-- hold a record are 20.
use Prim.Native.Nat.{ℕ}
use mathlib.Core.Path.{◌≡◌, refl, ap}
use mathlib.Core.Bool.{Bool, true, false, cond}
use mathlib.Core.List.{List}
use native.Mathlib.Nat.{div-add-mod'}
use native.Mathlib.Omega.{arith}
use lib.Dec.{eqb}
use lib.ListN.{length}
use borrow.Author.Tests.{eqb-true}
use Rattle.wire.proofs.Tests.{by_test}
use Rattle.lamps_eight.specs.Eight.{bit}
use Rattle.lamps_bytes.specs.Kept.{kept_size, kept_of, bytes_of, is_kept}
use Rattle.lamps_bytes.specs.Laws.{KeptBytes, NoneKept}

flag : (t : Bool) → eqb (bit t 1) 1 ≡ t
flag true = refl
flag false = refl

pub kept_bytes : KeptBytes
unfolding kept_of bytes_of
kept_bytes r = rw (flag r.follower.refused, div-add-mod' r.follower.place 256) refl

pub none_kept : NoneKept
unfolding kept_of is_kept
none_kept = record { held = refl; taken = refl }

pub kept_length : (b : List ℕ) → is_kept b ≡ true → length b ≡ kept_size
unfolding is_kept
kept_length b h =
    by_test (eqb (length b) kept_size) (λ q. eqb-true (length b) kept_size q)
    (λ q. let z : false ≡ true = rw q at h in absurd (never z))
  where
    never : false ≡ true → ⊥
    never z = let y : ◌≡◌ {A = ℕ} 0 1 = ap (λ (t : Bool). cond t 1 0) z in omega arith
