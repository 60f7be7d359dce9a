-- SPDX-License-Identifier: Apache-2.0
-- What the lines of the two transactions say. Each data byte's nine lines stand nine places on, so a list by place is what
-- the first nine say, and then what the rest says.
use Prim.Native.Nat.{ℕ, zero, suc, ◌+◌, ◌*◌}
use mathlib.Core.Path.{◌≡◌, refl, sym, ap, ◌∙◌}
use mathlib.Core.Bool.{Bool, true, false, cond}
use mathlib.Core.List.{List, [], ◌∷◌, ◌++◌}
use native.Mathlib.Omega.{arith}
use lib.ListN.{length, drop, get_or, replicate, length-replicate}
use lib.Seq.{get_or-drop, drop-drop}
use Rattle.wire.specs.Memory.{next, is_protected}
use Rattle.wire.specs.Whole.{nine_bits}
use Rattle.wire.proofs.Tests.{by_test}
use Rattle.wire.proofs.Whole.{made}
use Rattle.fm3130.specs.Chip.{memory_size}
use Rattle.c_master.specs.Told.{is_low, byte_from, is_open, is_open_read, list_of, flag_at, byte_at, flags_of, bytes_of}
use Rattle.law_roundtrip.specs.Stretch.{AllBytes, flags_by, fetched_from}
use Rattle.law_roundtrip.proofs.Transactions.{open_lines, unheard_lines, write_lines, read_lines, whole_write, whole_read}

-- a list by place, its first value by itself
list_shift : (f : ℕ → ℕ) (n : ℕ) → list_of f (suc n) ≡ f 0 ∷ list_of (λ i. f (suc i)) n
list_shift f zero = refl
list_shift f (suc n) = ap (λ (l : List ℕ). l ++ (f (suc n) ∷ [])) (list_shift f n)

-- nine lines at a time
abbrev Tells : (List Bool → ℕ) → List Bool → List ℕ → Type 0
Tells g ls [] = Unit {0}
Tells g ls (v ∷ vs) = (g ls ≡ v) × Tells g (drop 9 ls) vs

told : (g : List Bool → ℕ) (ls : List Bool) (vs : List ℕ) → Tells g ls vs
    → list_of (λ i. g (drop (9 * i) ls)) (length vs) ≡ vs
told g ls [] h = refl
told g ls (v ∷ vs) h =
    let on : (i : ℕ) → g (drop (9 * suc i) ls) ≡ g (drop (9 * i) (drop 9 ls)) =
    λ i. let q : 9 * suc i ≡ 9 + 9 * i = omega arith in rw (drop-drop (9 * i) 9 ls, q) refl in
    list_shift (λ i. g (drop (9 * i) ls)) (length vs)
    ∙ (λ k. h.0 k ∷ list_of (λ i. on i k) (length vs))
    ∙ ap (λ (l : List ℕ). v ∷ l) (told g (drop 9 ls) vs h.1)

-- what nine lines say
abbrev flag_of : List Bool → ℕ
flag_of ls = cond (is_low ls 8) 1 0

abbrev byte_of : List Bool → ℕ
byte_of ls = byte_from ls 0

low_drop : (ls : List Bool) (k : ℕ) → is_low ls (36 + k) ≡ is_low (drop k (drop 28 ls)) 8
low_drop ls k =
    rw (drop-drop k 28 ls, get_or-drop (28 + k) ls 8 true) (let q : 36 + k ≡ 28 + k + 8 = omega arith in rw q refl)

byte_drop : (ls : List Bool) (k : ℕ) → byte_from ls k ≡ byte_of (drop k ls)
byte_drop ls k =
    let q : k + 0 ≡ k = omega arith in
    rw (
      get_or-drop k ls 0 true,
      get_or-drop k ls 1 true,
      get_or-drop k ls 2 true,
      get_or-drop k ls 3 true,
      get_or-drop k ls 4 true,
      get_or-drop k ls 5 true,
      get_or-drop k ls 6 true,
      get_or-drop k ls 7 true,
      q,
    ) refl

-- the data bytes of a write: those that nobody takes, and all
unheard_tells : (bs : List ℕ) (tail : List Bool) → Tells flag_of (unheard_lines bs ++ tail) (replicate (length bs) 0)
unheard_tells [] tail = tt
unheard_tells (b ∷ bs) tail = (refl, unheard_tells bs tail)

write_tells : (wp : ℕ) (bs : List ℕ) (a : ℕ) (tail : List Bool)
    → Tells flag_of (write_lines wp a bs ++ tail) (flags_by wp a bs)
write_tells wp [] a tail = tt
write_tells wp (b ∷ bs) a tail =
    by_test (is_protected memory_size wp a)
    (λ e. rw e (refl, unheard_tells bs tail))
    (λ e. rw e (refl, write_tells wp bs (next memory_size a) tail))

flags_length : (wp : ℕ) (bs : List ℕ) (a : ℕ) → length (flags_by wp a bs) ≡ length bs
flags_length wp [] a = refl
flags_length wp (b ∷ bs) a =
    by_test (is_protected memory_size wp a)
    (λ e. rw e (ap suc (length-replicate {A = ℕ} (length bs) 0)))
    (λ e. rw e (ap suc (flags_length wp bs (next memory_size a))))

-- the bytes of a read
read_tells : (m : List ℕ) (a n : ℕ) (tail : List Bool) → AllBytes (fetched_from m a (suc n))
    → Tells byte_of (read_lines m a n ++ tail) (fetched_from m a (suc n))
read_tells m a zero tail h = (made (get_or m a 0) h.0, tt)
read_tells m a (suc n) tail h = (made (get_or m a 0) h.0, read_tells m (next memory_size a) n tail h.1)

-- slave and address bytes were acknowledged
opened : (a : ℕ) (rest : List Bool) → is_open (open_lines a ++ rest) ≡ true
opened a rest = refl

opened_read : (a : ℕ) (rest : List Bool) → is_open_read (open_lines a ++ (true ∷ (nine_bits 0xA1 false ++ rest))) ≡ true
opened_read a rest = refl

pub write_says : (wp a : ℕ) (bs : List ℕ) → flags_of (length bs) (whole_write wp a bs) ≡ flags_by wp a bs
write_says wp a bs =
    let tail = true ∷ [] in
    let ls = whole_write wp a bs in
    let rest = write_lines wp a bs ++ tail in
    let n = length bs in
    let at : (i : ℕ) → flag_at ls i ≡ flag_of (drop (9 * i) rest) =
    λ i. rw (opened a rest, low_drop ls (9 * i)) refl in
    let all : list_of (λ i. flag_of (drop (9 * i) rest)) n ≡ flags_by wp a bs =
    rw (flags_length wp bs a) at (told flag_of rest (flags_by wp a bs) (write_tells wp bs a tail)) in
    (λ k. list_of (λ i. at i k) n) ∙ all

pub read_says : (m : List ℕ) (a n : ℕ) → AllBytes (fetched_from m a (suc n))
    → bytes_of (length (fetched_from m a (suc n))) (whole_read m a n) ≡ fetched_from m a (suc n)
unfolding bytes_of
read_says m a n h =
    let tail = true ∷ [] in
    let ls = whole_read m a n in
    let rest = read_lines m a n ++ tail in
    let vs = fetched_from m a (suc n) in
    let at : (i : ℕ) → byte_at ls i ≡ byte_of (drop (9 * i) rest) =
    λ i. byte_drop ls (38 + 9 * i) ∙ ap byte_of (sym (drop-drop (9 * i) 38 ls)) in
    (λ k. list_of (λ i. at i k) (length vs)) ∙ told byte_of rest vs (read_tells m a n tail h)
