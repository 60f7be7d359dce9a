-- SPDX-License-Identifier: Apache-2.0
-- What the viewer's tests find: bytes, or the refusal.
--   BytesFound   the bytes that a selector names, or one of the refusals 1, 2 and 5
--   PartFound    the part of such bytes, or refusal 6
--   ViewFound    both, one after the other: the whole outcome, as the viewer and its number tell it
use Rattle.std.specs.Prelude.{ℕ, ◌+◌, ◌≡◌, cond, List, eqb, length, take, drop, Result, Ok, Err}
use Rattle.std.specs.Borrow.{Bor}
use Rattle.numbers.specs.Numbers.{accepted}
use Rattle.numbers.specs.Refusal.{number_of}
use Rattle.numbers.specs.declared.Refusal.{Refusal}
use Rattle.c_view.specs.View.{chosen, end_number, view_number, shifted, ViewSettled}

module _ (size count : ℕ) (i m : Bor (List ℕ)) (selector : ℕ) where
  -- Auxiliary: where they are found, the number is that of their end.
  abbrev pub BytesFound : Result (Bor (List ℕ)) Refusal → Type 0
  BytesFound (Ok b) =
      (b.now ≡ chosen size count i.now m.now selector) × (b.ref_ptr ≡ cond (eqb selector 0) m.ref_ptr i.ref_ptr)
      × ((start len : ℕ) → view_number size count i.now m.now selector start len ≡ end_number (start + len) (length b.now))
  BytesFound (Err e) = (start len : ℕ) → view_number size count i.now m.now selector start len ≡ number_of e

-- Auxiliary: the part lies in the bytes, from its start on.
abbrev pub PartFound : Bor (List ℕ) → ℕ → ℕ → Result (Bor (List ℕ)) Refusal → Type 0
PartFound b start len (Ok r) =
    (end_number (start + len) (length b.now) ≡ accepted) × (r.now ≡ take len (drop start b.now))
    × (r.ref_ptr ≡ shifted b.ref_ptr start)
PartFound b start len (Err e) = end_number (start + len) (length b.now) ≡ number_of e

module _ (size count : ℕ) (i m : Bor (List ℕ)) (selector start len : ℕ) where
  abbrev pub ViewFound : Result (Bor (List ℕ)) Refusal → Type 0
  ViewFound (Ok r) =
      (view_number size count i.now m.now selector start len ≡ accepted) × ViewSettled size count i m selector start len r
  ViewFound (Err e) = view_number size count i.now m.now selector start len ≡ number_of e
