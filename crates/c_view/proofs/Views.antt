-- SPDX-License-Identifier: Apache-2.0
-- The ways through the tests of the viewer's number. Where it is 0 the part lies inside the chosen bytes; and what the
-- part holds and where it lies, where it lies inside the chosen bytes and where there is none.
use Prim.Native.Nat.{ℕ, ◌+◌, ◌-◌, ◌≤◌}
use mathlib.Core.Path.{◌≡◌, refl, ap, ◌∙◌}
use mathlib.Core.Bool.{Bool, true, false, cond}
use mathlib.Core.List.{List, []}
use native.Mathlib.Nat.{add-sub_cancel_left}
use native.Mathlib.Omega.{arith}
use denote.Ref.{Bor}
use lib.Dec.{leb, eqb}
use lib.ListN.{length, take, drop}
use lib.Seq.{length-take-le}
use borrow.Author.Tests.{eq-eqb, ne_eqb, leb-true, eqb-true}
use Rattle.std.specs.Prelude.{Result, Ok, Err}
use Rattle.std.specs.Result.{result_unwrap_or}
use Rattle.wire.proofs.Tests.{by_test}
use Rattle.numbers.specs.Numbers.{accepted, wrong_memory, wrong_state, unknown_selector, past_the_end}
use Rattle.numbers.specs.declared.Refusal.{Refusal}
use Rattle.numbers.proofs.Refusals.{refusal_not_accepted}
use Rattle.fm3130_image.specs.Image.{image_size}
use Rattle.c_view.specs.View.{registers_in, end_number, view_number, view_of, shifted, view_place, ViewSettled}
use Rattle.c_view.specs.Code.Found.{BytesFound, PartFound, ViewFound}

module _ (size count : ℕ) (i m : List ℕ) (selector start len : ℕ) where
  pub view_wrong_memory : (length m ≡ size → ⊥) → view_number size count i m selector start len ≡ wrong_memory
  unfolding view_number
  view_wrong_memory h = rw (ne_eqb (length m) size h)

  module _ (h : length m ≡ size) where
    pub view_wrong_image : (length i ≡ image_size → ⊥) → view_number size count i m selector start len ≡ wrong_state
    unfolding view_number
    view_wrong_image l = rw (eq-eqb (length m) size h, ne_eqb (length i) image_size l)

    module _ (l : length i ≡ image_size) where
      pub view_memory : selector ≡ 0 → view_number size count i m selector start len ≡ end_number (start + len) size
      unfolding view_number
      view_memory z =
          rw (eq-eqb (length m) size h, eq-eqb (length i) image_size l, eq-eqb selector 0 z, h)

      pub view_registers : count ≤ image_size → selector ≡ 1
          → view_number size count i m selector start len ≡ end_number (start + len) count
      unfolding view_number
      view_registers c z =
          rw (eq-eqb (length m) size h, eq-eqb (length i) image_size l, z, length-take-le count i (omega arith))

      pub view_unknown : (selector ≡ 0 → ⊥) → (selector ≡ 1 → ⊥)
          → view_number size count i m selector start len ≡ unknown_selector
      unfolding view_number
      view_unknown z o =
          rw (eq-eqb (length m) size h, eq-eqb (length i) image_size l, ne_eqb selector 0 z, ne_eqb selector 1 o)

module _ (size count : ℕ) (i m : List ℕ) (selector start len : ℕ)
    (h : view_number size count i m selector start len ≡ accepted) where
  pub memory_part : selector ≡ 0 → start + len ≤ length m
  unfolding view_number
  memory_part z =
      by (eqb (length m) size) (eqb (length i) image_size) (leb (start + len) (length m)) refl (rw z at h) where
        by : (t u v : Bool) → leb (start + len) (length m) ≡ v
            → ◌≡◌ {A = ℕ} (cond t (cond u (cond v accepted past_the_end) wrong_state) wrong_memory) 0
            → start + len ≤ length m
        by true true true p q = leb-true _ _ p
        by true true false p q = absurd (omega arith)
        by true false v p q = absurd (omega arith)
        by false u v p q = absurd (omega arith)

  pub registers_part : (selector ≡ 0 → ⊥) → (start + len ≤ length (registers_in count i)) × (length i ≡ image_size)
  unfolding view_number
  registers_part z =
      by (eqb (length m) size) (eqb (length i) image_size) (eqb selector 1)
      (leb (start + len) (length (registers_in count i))) refl refl (rw (ne_eqb selector 0 z) at h) where
        by : (t u w v : Bool) → leb (start + len) (length (registers_in count i)) ≡ v → eqb (length i) image_size ≡ u
            → ◌≡◌ {A = ℕ}
            (cond t (cond u (cond w (cond v accepted past_the_end) unknown_selector) wrong_state) wrong_memory) 0
            → (start + len ≤ length (registers_in count i)) × (length i ≡ image_size)
        by true true true true p r q = (leb-true _ _ p, eqb-true _ _ r)
        by true true true false p r q = absurd (omega arith)
        by true true false v p r q = absurd (omega arith)
        by true false w v p r q = absurd (omega arith)
        by false u w v p r q = absurd (omega arith)

  pub registers_count : count ≤ image_size → (selector ≡ 0 → ⊥) → length (registers_in count i) ≡ count
  registers_count c z = length-take-le count i (omega (arith, (registers_part z).1))

module _ (size count : ℕ) (i m : Bor (List ℕ)) (selector start len : ℕ) (r : Bor (List ℕ)) where
  pub part_of_memory : view_number size count i.now m.now selector start len ≡ accepted → selector ≡ 0
      → r.now ≡ take (start + len - start) (drop start m.now) → r.ref_ptr ≡ shifted m.ref_ptr start
      → ViewSettled size count i m selector start len r
  unfolding view_of view_place
  part_of_memory h z b p =
      record { bytes = b ∙ rw (h, add-sub_cancel_left start len, z); place = p ∙ rw (h, z) }

  pub part_of_registers : view_number size count i.now m.now selector start len ≡ accepted → (selector ≡ 0 → ⊥)
      → r.now ≡ take (start + len - start) (drop start (registers_in count i.now)) → r.ref_ptr ≡ shifted i.ref_ptr start
      → ViewSettled size count i m selector start len r
  unfolding view_of view_place
  part_of_registers h z b p =
      let s = ne_eqb selector 0 z in
      record { bytes = b ∙ rw (h, add-sub_cancel_left start len, s); place = p ∙ rw (h, s) }

  pub no_part : (view_number size count i.now m.now selector start len ≡ accepted → ⊥) → r.now ≡ [] → r.ref_ptr ≡ m.ref_ptr
      → ViewSettled size count i m selector start len r
  unfolding view_of view_place
  no_part h b p = record { bytes = b ∙ rw (ne_eqb _ 0 h); place = p ∙ rw (ne_eqb _ 0 h) }

module _ (size count : ℕ) (i m : Bor (List ℕ)) (selector start len : ℕ) where
  -- the part of the bytes that were found
  pub found_in : {b : Bor (List ℕ)} → BytesFound size count i m selector (Ok b)
      → (r : Result (Bor (List ℕ)) Refusal) → PartFound b start len r → ViewFound size count i m selector start len r
  unfolding view_of view_place
  found_in f (Ok r) p =
      let n = f.2 start len ∙ p.0 in (
        n,
        record {
          bytes = p.1 ∙ ap (λ (l : List ℕ). take len (drop start l)) f.0 ∙ rw n refl;
          place =
              p.2
              ∙ ap (λ (q : ℕ × ℕ). shifted q start) f.1
              ∙ by_test (eqb selector 0) (λ t. rw (n, t) refl) (λ t. rw (n, t) refl);
        },
      )
  found_in f (Err e) p = f.2 start len ∙ p

  -- what was found, with an empty part of memory for a refusal
  pub viewed : (r : Result (Bor (List ℕ)) Refusal) → ViewFound size count i m selector start len r
      → (none v : Bor (List ℕ)) → none.now ≡ [] → none.ref_ptr ≡ m.ref_ptr → v ≡ result_unwrap_or r none
      → ViewSettled size count i m selector start len v
  unfolding view_of view_place
  viewed (Ok r) p none v b a e = rw e p.1
  viewed (Err d) p none v b a e =
      let n = ne_eqb _ 0 (λ k. refusal_not_accepted d k) in
      record {
        bytes = ap (λ (x : Bor (List ℕ)). x.now) e ∙ b ∙ rw (p, n) refl;
        place = ap (λ (x : Bor (List ℕ)). x.ref_ptr) e ∙ a ∙ rw (p, n) refl;
      }
