-- SPDX-License-Identifier: Apache-2.0
-- The registers as a list: a byte put at an address is put in the list, so that address has the byte and every other
-- has what it had. At each of the fifteen addresses this is a computation.
use Prim.Native.Nat.{ℕ, ◌<◌}
use mathlib.Core.Path.{◌≡◌, refl, ap, ◌∙◌}
use mathlib.Core.List.{List}
use mathlib.Core.Logic.{◌≢◌}
use lib.ListN.{get_or, set}
use lib.Seq.{get_or-set_same, get_or-set_other}
use Rattle.bits.proofs.Cases.{Below, none, ◌then◌, below}
use Rattle.fm3130_companion.specs.declared.Registers.{Registers}
use Rattle.fm3130_companion.specs.Registers.{register_bytes, registers_of, register_at, put_at}

pub registers_of_bytes : (r : Registers) → registers_of (register_bytes r) ≡ r
registers_of_bytes r = refl

pub bytes_of_put : (r : Registers) (a b : ℕ) → a < 15 → register_bytes (put_at r a b) ≡ set (register_bytes r) a b
bytes_of_put r a b h = below (λ a. register_bytes (put_at r a b) ≡ set (register_bytes r) a b) each a h
  where
    each : Below (λ a. register_bytes (put_at r a b) ≡ set (register_bytes r) a b) 15
    each =
        none then refl then refl
        then refl then refl then refl then refl then refl then refl then refl
        then refl then refl then refl then refl then refl
        then refl

pub put_same : (r : Registers) (a b : ℕ) → a < 15 → register_at (put_at r a b) a ≡ b
put_same r a b h =
    ap (λ (l : List ℕ). get_or l a 0) (bytes_of_put r a b h) ∙ get_or-set_same (register_bytes r) a b 0 h

pub put_other : (r : Registers) (a b k : ℕ) → a < 15 → k ≢ a → register_at (put_at r a b) k ≡ register_at r k
put_other r a b k h d =
    ap (λ (l : List ℕ). get_or l k 0) (bytes_of_put r a b h) ∙ get_or-set_other (register_bytes r) a k b 0 d
