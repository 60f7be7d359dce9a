-- SPDX-License-Identifier: Apache-2.0
-- What the soundness of an entry says, taken apart, and that no first faulty entry means four sound ones.
use Prim.Native.Nat.{ℕ, zero, suc, ◌+◌, ◌-◌, ◌*◌, ◌≤◌, ◌<◌}
use mathlib.Core.Path.{◌≡◌, refl, sym, ap}
use mathlib.Core.Bool.{Bool, true, false, not, ◌||◌, false≢true}
use mathlib.Core.List.{List}
use native.Mathlib.Omega.{arith}
use native.Mathlib.Numerals.{add-one}
use native.Mathlib.Nat.{not-suc-le-zero}
use lib.Dec.{leb, ltb, eqb}
use lib.ListN.{length}
use borrow.Author.Tests.{leb-true, ltb-true, ltb-false, eqb-true, eqb-false, le-leb, not-true, not-false}
use Rattle.std.specs.Prelude.{Option, Some, None, is_some}
use Rattle.std.proofs.Common.{zero-add}
use Rattle.wire.proofs.Tests.{by_test, and_split}
use Rattle.capture_table.specs.Table.{overlap, table_size, entry_size, entry_at, body_of, is_accepted, stands_in, uneven}
use Rattle.capture_table.specs.Table.{clashes, clashes_below, is_sound}
use Rattle.capture_table.specs.Sections.{first_faulty}
use Rattle.capture_table.specs.declared.Entry.{Entry}

-- one earlier entry more
pub clash_more : (f : List ℕ) (e : Entry) (i : ℕ) (any : Bool) → any ≡ clashes_below f e i
    → (any || clashes e (entry_at f i)) ≡ clashes_below f e (i + 1)
unfolding clashes_below
clash_more f e i any h = rw (add-one i, h)

-- which clashes or does not
pub no_clash_more : (f : List ℕ) (e : Entry) (i : ℕ) → clashes_below f e i ≡ false → clashes e (entry_at f i) ≡ false
    → clashes_below f e (i + 1) ≡ false
unfolding clashes_below
no_clash_more f e i g h = rw (add-one i, g, h)

-- an entry that clashes with one of the first so many clashes with one of more
clash_last : (f : List ℕ) (e : Entry) (n : ℕ) → clashes_below f e n ≡ true → clashes_below f e (suc n) ≡ true
unfolding clashes_below
clash_last f e n g = rw g

clash_stays : (f : List ℕ) (e : Entry) (i k : ℕ) → clashes_below f e i ≡ true → clashes_below f e (k + i) ≡ true
clash_stays f e i zero g = rw (zero-add i) g
clash_stays f e i (suc k) g =
    let z : suc (k + i) ≡ suc k + i = omega arith in
    rw z at (clash_last f e (k + i) (clash_stays f e i k g))

pub clash_found : (f : List ℕ) (e : Entry) (i n : ℕ) → i < n → clashes_below f e i ≡ false
    → clashes e (entry_at f i) ≡ true → clashes_below f e n ≡ true
unfolding clashes_below
clash_found f e i n l g h =
    let k = clash_stays f e (suc i) (n - suc i) (rw (g, h)) in
    let z : n - suc i + suc i ≡ n = omega arith in
    rw z at k

pub or_split : (a b : Bool) → (a || b) ≡ false → (a ≡ false) × (b ≡ false)
or_split true b e = absurd (false≢true (sym e))
or_split false b e = (refl, e)

-- an entry by itself
pub record Stands (f : List ℕ) (e : Entry) : Type 0 where
  pub low : 1 ≤ e.kind
  pub high : e.kind ≤ 4
  pub inside : e.from + e.size ≤ length f
  pub accepted : is_accepted e.kind (body_of f e) ≡ true

pub stands_of : (f : List ℕ) (e : Entry) → stands_in f e ≡ true → Stands f e
unfolding stands_in
stands_of f e h =
    let a = and_split _ (is_accepted e.kind (body_of f e)) h in
    let b = and_split _ (not (overlap 0 table_size e.from e.size)) a.0 in
    let c = and_split _ (leb (e.from + e.size) (length f)) b.0 in
    let d = and_split (leb 1 e.kind) (leb e.kind 4) c.0 in
    record {
      low = leb-true 1 e.kind d.0;
      high = leb-true e.kind 4 d.1;
      inside = leb-true (e.from + e.size) (length f) c.1;
      accepted = a.1;
    }

-- an entry with an earlier one
pub record Apart (e d : Entry) : Type 0 where
  pub kinds : e.kind ≡ d.kind → ⊥
  pub counts : 3 ≤ e.kind → 3 ≤ d.kind → e.size ≡ d.size

apart_of : (e d : Entry) → clashes e d ≡ false → Apart e d
unfolding clashes
apart_of e d h =
    let a = or_split (eqb e.kind d.kind || overlap d.from d.size e.from e.size) (uneven e d) h in
    let b = or_split (eqb e.kind d.kind) (overlap d.from d.size e.from e.size) a.0 in
    record {
      kinds = eqb-false e.kind d.kind b.0;
      counts = λ p q.
          let z : not (eqb e.size d.size) ≡ false = rw (le-leb 3 e.kind p, le-leb 3 d.kind q) at a.1 in
          eqb-true e.size d.size (not-false _ z);
    }

below : (f : List ℕ) (e : Entry) (n : ℕ) → clashes_below f e n ≡ false
    → (i : ℕ) → i < n → clashes e (entry_at f i) ≡ false
unfolding clashes_below
below f e zero h i l = absurd (not-suc-le-zero l)
below f e (suc n) h i l =
    let o = or_split (clashes_below f e n) (clashes e (entry_at f n)) h in
    by_test (ltb i n)
    (λ t. below f e n o.0 i (ltb-true i n t))
    (λ t.
    let g : n ≤ i = ltb-false i n t in
    let z : n ≡ i = omega arith in
    rw z at o.1)

-- what a sound entry is
pub record Whole (f : List ℕ) (n : ℕ) : Type 0 where
  pub reaches : n * entry_size + entry_size ≤ length f
  pub stands : Stands f (entry_at f n)
  pub apart : (i : ℕ) → i < n → Apart (entry_at f n) (entry_at f i)

whole_of : (f : List ℕ) (n : ℕ) → is_sound f n ≡ true → Whole f n
unfolding is_sound
whole_of f n h =
    let a = and_split _ (not (clashes_below f (entry_at f n) n)) h in
    let b = and_split (leb (n * entry_size + entry_size) (length f)) (stands_in f (entry_at f n)) a.0 in
    record {
      reaches = leb-true (n * entry_size + entry_size) (length f) b.0;
      stands = stands_of f (entry_at f n) b.1;
      apart = λ i l. apart_of _ _ (below f (entry_at f n) n (not_true' _ a.1) i l);
    } where
      not_true' : (t : Bool) → not t ≡ true → t ≡ false
      not_true' = not-true

-- all four
pub record Sound (f : List ℕ) : Type 0 where
  pub first : Whole f 0
  pub second : Whole f 1
  pub third : Whole f 2
  pub fourth : Whole f 3

-- a faulty entry is named, or none is
pub by_fault : {X : Type 0} (o : Option ℕ) → (o ≡ None → X) → ((n : ℕ) → o ≡ Some n → X) → X
by_fault None f g = f refl
by_fault (Some n) f g = g n refl

pub some_none : (n : ℕ) → Some n ≡ None → ⊥
some_none n e = false≢true (sym (ap is_some e))

pub sound_of : (f : List ℕ) → first_faulty f ≡ None → Sound f
unfolding first_faulty
sound_of f h =
    by_test (is_sound f 0)
    (λ a. by_test (is_sound f 1)
    (λ b. by_test (is_sound f 2)
    (λ c. by_test (is_sound f 3)
    (λ d. record { first = whole_of f 0 a; second = whole_of f 1 b; third = whole_of f 2 c; fourth = whole_of f 3 d })
    (λ d. absurd (some_none 4 (rw (a, b, c, d) at h))))
    (λ c. absurd (some_none 3 (rw (a, b, c) at h))))
    (λ b. absurd (some_none 2 (rw (a, b) at h))))
    (λ a. absurd (some_none 1 (rw a at h)))

-- the first that is faulty, in its place
pub first_fault : (f : List ℕ) (n : ℕ) → n < 4 → ((j : ℕ) → j < n → is_sound f j ≡ true) → is_sound f n ≡ false
    → first_faulty f ≡ Some (n + 1)
unfolding first_faulty
first_fault f zero l s h = rw h
first_fault f (suc zero) l s h = rw (s 0 (omega arith), h)
first_fault f (suc (suc zero)) l s h = rw (s 0 (omega arith), s 1 (omega arith), h)
first_fault f (suc (suc (suc zero))) l s h = rw (s 0 (omega arith), s 1 (omega arith), s 2 (omega arith), h)
first_fault f (suc (suc (suc (suc n)))) l s h = absurd (omega arith)

pub no_fault : (f : List ℕ) → ((j : ℕ) → j < 4 → is_sound f j ≡ true) → first_faulty f ≡ None
unfolding first_faulty
no_fault f s = rw (s 0 (omega arith), s 1 (omega arith), s 2 (omega arith), s 3 (omega arith))
