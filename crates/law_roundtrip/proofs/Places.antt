-- SPDX-License-Identifier: Apache-2.0
-- Bytes stored one after another, over 1FFFh to 0000h, and fetched from the same address on, are the bytes: 256 places are
-- all different. Where no address is protected, all are stored.
use Prim.Native.Nat.{ℕ, zero, suc, ◌+◌, ◌%◌, ◌≤◌, ◌<◌}
use mathlib.Core.Path.{◌≡◌, refl, ap, ◌∙◌}
use mathlib.Core.List.{List, [], ◌∷◌}
use native.Mathlib.Omega.{arith}
use lib.ListN.{length, get_or, set, replicate, length-set}
use lib.Seq.{get_or-set_same, get_or-set_other}
use Rattle.wire.specs.Memory.{next}
use Rattle.fm3130.specs.Chip.{memory_size}
use Rattle.law_roundtrip.specs.Stretch.{Free, flags_by, stored_by, fetched_from}

-- all bytes, whatever the protection
abbrev pub stored_all : List ℕ → ℕ → List ℕ → List ℕ
stored_all m a [] = m
stored_all m a (b ∷ bs) = stored_all (set m a b) (next memory_size a) bs

pub free_stored : (wp : ℕ) (bs m : List ℕ) (a : ℕ) → Free wp a (length bs) → stored_by wp m a bs ≡ stored_all m a bs
free_stored wp [] m a f = refl
free_stored wp (b ∷ bs) m a f = rw f.0 (free_stored wp bs (set m a b) (next memory_size a) f.1)

pub free_flags : (wp : ℕ) (bs : List ℕ) (a : ℕ) → Free wp a (length bs) → flags_by wp a bs ≡ replicate (length bs) 1
free_flags wp [] a f = refl
free_flags wp (b ∷ bs) a f = rw f.0 (ap (λ (l : List ℕ). 1 ∷ l) (free_flags wp bs (next memory_size a) f.1))

pub fetched_length : (m : List ℕ) (a n : ℕ) → length (fetched_from m a n) ≡ n
fetched_length m a zero = refl
fetched_length m a (suc n) = ap suc (fetched_length m (next memory_size a) n)

-- bytes that are stored at k and more places past an address do not reach it
passed : (bs m : List ℕ) (a k : ℕ) → a < memory_size → 1 ≤ k → k + length bs ≤ memory_size
    → get_or (stored_all m ((a + k) % memory_size) bs) a 0 ≡ get_or m a 0
passed [] m a k l g h = refl
passed (b ∷ bs) m a k l g h =
    let at = (a + k) % memory_size in
    let q : (at + 1) % memory_size ≡ (a + (k + 1)) % memory_size = omega arith in
    rw q (passed bs (set m at b) a (k + 1) l (omega arith) (omega arith)
    ∙ get_or-set_other m at a b 0 (λ e. omega arith))

pub stored_back : (bs m : List ℕ) (a : ℕ) → length m ≡ memory_size → a < memory_size → length bs ≤ memory_size
    → fetched_from (stored_all m a bs) a (length bs) ≡ bs
stored_back [] m a w l h = refl
stored_back (b ∷ bs) m a w l h =
    let byte : get_or (stored_all (set m a b) (next memory_size a) bs) a 0 ≡ b =
    passed bs (set m a b) a 1 l (omega arith) (omega arith) ∙ get_or-set_same m a b 0 (omega arith) in
    let rest = stored_back bs (set m a b) (next memory_size a) (length-set m a b ∙ w) (omega arith) (omega arith) in
    λ i. byte i ∷ rest i
