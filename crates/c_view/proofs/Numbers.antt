-- SPDX-License-Identifier: Apache-2.0
-- The viewer's numbers: the ways through its tests, in literal numbers.
use Prim.Native.Nat.{ℕ, ◌+◌}
use mathlib.Core.Path.{◌≡◌, ◌∙◌}
use mathlib.Core.List.{List}
use native.Mathlib.Omega.{arith}
use denote.Ref.{Bor}
use lib.Dec.{lit≤}
use lib.ListN.{length}
use borrow.Author.Tests.{eq-eqb, ne_eqb, le-leb, lt-leb}
use Rattle.fm3130_registers.specs.Map.{COUNT}
use Rattle.fm3130.specs.Chip.{memory_size}
use Rattle.c_view.specs.View.{end_number, view_number, view_of, view_place}
use Rattle.c_view.specs.Numbers.{EmptyBy, ViewNumbers, EveryViewNumber}
use Rattle.c_view.proofs.Views.{view_wrong_memory, view_wrong_image, view_memory, view_registers, view_unknown}

module _ (i m : Bor (List ℕ)) (selector start len : ℕ) where
  abbrev number : ℕ
  number = view_number memory_size COUNT i.now m.now selector start len

  -- nothing under a number but 0
  empty_by : (n : ℕ) → (n ≡ 0 → ⊥) → number ≡ n → EmptyBy n i m selector start len
  unfolding view_of view_place
  empty_by n some e = record { given = e; empty = rw (e, ne_eqb n 0 some); place = rw (e, ne_eqb n 0 some) }

  module _ (right : length m.now ≡ 8192) (whole : length i.now ≡ 64) where
    by_memory : selector ≡ 0 → number ≡ end_number (start + len) 8192
    by_memory h = view_memory memory_size COUNT i.now m.now selector start len right whole h

    by_registers : selector ≡ 1 → number ≡ end_number (start + len) 15
    by_registers h = view_registers memory_size COUNT i.now m.now selector start len right whole (lit≤ tt) h

  numbers : ViewNumbers i m selector start len
  unfolding view_of
  numbers =
      record {
        memory = λ h.
            empty_by 1 (λ z. omega arith) (view_wrong_memory memory_size COUNT i.now m.now selector start len h);
        image = λ r h.
            empty_by 2 (λ z. omega arith) (view_wrong_image memory_size COUNT i.now m.now selector start len r h);
        selector_unknown = λ r w h.
            empty_by 5 (λ z. omega arith)
            (view_unknown memory_size COUNT i.now m.now selector start len r w (λ z. omega arith) (λ z. omega arith));
        memory_passed = λ r w h l. empty_by 6 (λ z. omega arith) (by_memory r w h ∙ rw (lt-leb (start + len) 8192 l));
        registers_passed = λ r w h l. empty_by 6 (λ z. omega arith) (by_registers r w h ∙ rw (lt-leb (start + len) 15 l));
        of_memory = λ r w h l.
            let n : number ≡ 0 = by_memory r w h ∙ rw (le-leb (start + len) 8192 l) in rw (n, eq-eqb selector 0 h);
        of_registers = λ r w h l.
            let n : number ≡ 0 = by_registers r w h ∙ rw (le-leb (start + len) 15 l) in
            rw (n, ne_eqb selector 0 (λ z. omega arith));
      }

pub every_view_number : EveryViewNumber
every_view_number = numbers
