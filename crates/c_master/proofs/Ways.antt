-- SPDX-License-Identifier: Apache-2.0
-- The ways through the entries' tests, in their order, and what stands at the end of each.
use Prim.Native.Nat.{ℕ, zero, suc, ◌-◌, ◌≤◌, ◌<◌}
use mathlib.Core.Path.{◌≡◌, refl, sym, ◌∙◌}
use mathlib.Core.Bool.{true, false}
use mathlib.Core.List.{List, [], ◌∷◌, ◌++◌, append_assoc}
use native.Mathlib.Omega.{arith}
use lib.ListN.{length, drop}
use lib.Seq.{sets}
use borrow.Author.Tests.{le-leb, lt-leb, lt-ltb, le-ltb, eq-eqb, ne_eqb}
use Rattle.fm3130.specs.Chip.{memory_size}
use Rattle.wire_clocks.specs.Clocks.{lines_of}
use Rattle.c_master.specs.Numbers.{accepted, too_many, read_of_none, wrong_address, little_room, wrong_answers, most}
use Rattle.wire_clocks.specs.Events.{written, opening, asked, asked_on, all_asked, write_events, read_events, write_count, read_count}
use Rattle.c_master.specs.Told.{is_open_read, list_of, flag_at, byte_at, bytes_of}
use Rattle.wire_clocks.specs.Code.Laid.{Laid}
use Rattle.c_master.specs.Outcome.{Outcome, refused, filled, write_events_of, read_events_of, write_told_of, read_told_of}
use Rattle.wire_clocks.proofs.Laying.{front, write_count_lem, read_count_lem}
use Rattle.c_master.proofs.Listing.{length_list_of}

-- what was laid from the front on is what the buffer is filled with
laid_filled : (e xs e' : List ℕ) (r : ℕ) → length xs ≤ length e → Laid e 0 xs r e'
    → ◌≡◌ {A = Outcome} (record { number = accepted; count = r; buffer = e' }) (filled xs e)
laid_filled e xs e' r h p =
    let n : r ≡ length xs = p.place ∙ omega arith in
    let b : e' ≡ xs ++ drop (length xs) e = p.buffer ∙ front e xs h in
    λ k. record { number = accepted; count = n k; buffer = b k }

-- the events of a write
module _ (a : ℕ) (bs e : List ℕ) where
  pub write_too_many : most < length bs → write_events_of a bs e ≡ refused too_many e
  unfolding write_events_of
  write_too_many h = rw (lt-leb (length bs) most h)

  module _ (few : length bs ≤ most) where
    pub write_address : memory_size ≤ a → write_events_of a bs e ≡ refused wrong_address e
    unfolding write_events_of
    write_address h = rw (le-leb (length bs) most few, le-ltb a memory_size h)

    module _ (l : a < memory_size) where
      pub write_room : length e < write_count (length bs) → write_events_of a bs e ≡ refused little_room e
      unfolding write_events_of
      write_room h = rw (le-leb (length bs) most few, lt-ltb a memory_size l, lt-leb (write_count (length bs)) (length e) h)

      pub write_done : (r : ℕ) (e' : List ℕ) → write_count (length bs) ≤ length e → Laid e 0 (write_events a bs) r e'
          → record { number = accepted; count = r; buffer = e' } ≡ write_events_of a bs e
      unfolding write_events_of
      write_done r e' h p =
          let n : length (write_events a bs) ≤ length e = rw (write_count_lem a bs) h in
          rw (le-leb (length bs) most few, lt-ltb a memory_size l, le-leb (write_count (length bs)) (length e) h)
          (laid_filled e (write_events a bs) e' r n p)

-- the events of a read
module _ (a n : ℕ) (e : List ℕ) where
  pub read_too_many : most < n → read_events_of a n e ≡ refused too_many e
  unfolding read_events_of
  read_too_many h = rw (lt-leb n most h)

  module _ (few : n ≤ most) where
    pub read_none : n ≡ 0 → read_events_of a n e ≡ refused read_of_none e
    unfolding read_events_of
    read_none h = rw (le-leb n most few, eq-eqb n 0 h)

    module _ (some : n ≡ 0 → ⊥) where
      pub read_address : memory_size ≤ a → read_events_of a n e ≡ refused wrong_address e
      unfolding read_events_of
      read_address h = rw (le-leb n most few, ne_eqb n 0 some, le-ltb a memory_size h)

      module _ (l : a < memory_size) where
        pub read_room : length e < read_count n → read_events_of a n e ≡ refused little_room e
        unfolding read_events_of
        read_room h = rw (le-leb n most few, ne_eqb n 0 some, lt-ltb a memory_size l, lt-leb (read_count n) (length e) h)

        pub read_done : (r : ℕ) (e' : List ℕ) → read_count n ≤ length e → Laid e 0 (read_events a n) r e'
            → record { number = accepted; count = r; buffer = e' } ≡ read_events_of a n e
        unfolding read_events_of
        read_done r e' h p =
            let m : length (read_events a n) ≤ length e = rw (read_count_lem a n) h in
            rw (le-leb n most few, ne_eqb n 0 some, lt-ltb a memory_size l, le-leb (read_count n) (length e) h)
            (laid_filled e (read_events a n) e' r m p)

-- the bytes of a read as they are laid: the last one by itself
asked_last : (n : ℕ) (tail : List ℕ) → (n ≡ 0 → ⊥) → asked_on (n - 1) ++ (asked true ++ tail) ≡ all_asked n ++ tail
asked_last zero tail h = absurd (h refl)
asked_last (suc n) tail h =
    let q : suc n - 1 ≡ n = omega arith in
    rw q (sym (append_assoc (asked_on n) (asked true) tail))

pub read_laid : (a n : ℕ) (e e' : List ℕ) (r : ℕ) → (n ≡ 0 → ⊥)
    → Laid e 0 (opening a ++ ((0 ∷ []) ++ (written 0xA1 ++ (asked_on (n - 1) ++ (asked true ++ (1 ∷ [])))))) r e'
    → Laid e 0 (read_events a n) r e'
unfolding read_events
read_laid a n e e' r some p = rw (asked_last n (1 ∷ []) some) at p

-- what the values of a function fill
listed_filled : (e e' : List ℕ) (f : ℕ → ℕ) (n : ℕ) → n ≤ length e → e' ≡ sets e 0 (list_of f n)
    → ◌≡◌ {A = Outcome} (record { number = accepted; count = n; buffer = e' }) (filled (list_of f n) e)
listed_filled e e' f n h p =
    let q = length_list_of f n in
    laid_filled e (list_of f n) e' n (omega arith) (record { place = omega arith; buffer = p })

-- what a write's answers say
module _ (n : ℕ) (answers e : List ℕ) where
  pub write_told_too_many : most < n → write_told_of n answers e ≡ refused too_many e
  unfolding write_told_of
  write_told_too_many h = rw (lt-leb n most h)

  module _ (few : n ≤ most) where
    pub write_told_room : length e < n → write_told_of n answers e ≡ refused little_room e
    unfolding write_told_of
    write_told_room h = rw (le-leb n most few, lt-leb n (length e) h)

    module _ (room : n ≤ length e) where
      pub write_told_answers : (length answers ≡ write_count n → ⊥) → write_told_of n answers e ≡ refused wrong_answers e
      unfolding write_told_of
      write_told_answers h = rw (le-leb n most few, le-leb n (length e) room, ne_eqb (length answers) (write_count n) h)

      pub write_told_done : (e' : List ℕ) → length answers ≡ write_count n
          → e' ≡ sets e 0 (list_of (flag_at (lines_of answers)) n)
          → record { number = accepted; count = n; buffer = e' } ≡ write_told_of n answers e
      unfolding write_told_of
      write_told_done e' h p =
          rw (le-leb n most few, le-leb n (length e) room, eq-eqb (length answers) (write_count n) h)
          (listed_filled e e' (flag_at (lines_of answers)) n room p)

-- what a read's answers say
module _ (n : ℕ) (answers e : List ℕ) where
  pub read_told_too_many : most < n → read_told_of n answers e ≡ refused too_many e
  unfolding read_told_of
  read_told_too_many h = rw (lt-leb n most h)

  module _ (few : n ≤ most) where
    pub read_told_none : n ≡ 0 → read_told_of n answers e ≡ refused read_of_none e
    unfolding read_told_of
    read_told_none h = rw (le-leb n most few, eq-eqb n 0 h)

    module _ (some : n ≡ 0 → ⊥) where
      pub read_told_room : length e < n → read_told_of n answers e ≡ refused little_room e
      unfolding read_told_of
      read_told_room h = rw (le-leb n most few, ne_eqb n 0 some, lt-leb n (length e) h)

      module _ (room : n ≤ length e) where
        pub read_told_answers : (length answers ≡ read_count n → ⊥) → read_told_of n answers e ≡ refused wrong_answers e
        unfolding read_told_of
        read_told_answers h =
            rw (le-leb n most few, ne_eqb n 0 some, le-leb n (length e) room, ne_eqb (length answers) (read_count n) h)

        module _ (all : length answers ≡ read_count n) where
          pub read_told_shut : is_open_read (lines_of answers) ≡ false → read_told_of n answers e ≡ refused accepted e
          unfolding read_told_of bytes_of
          read_told_shut h =
              rw (le-leb n most few, ne_eqb n 0 some, le-leb n (length e) room, eq-eqb (length answers) (read_count n) all, h)

          pub read_told_done : (e' : List ℕ) → is_open_read (lines_of answers) ≡ true
              → e' ≡ sets e 0 (list_of (byte_at (lines_of answers)) n)
              → record { number = accepted; count = n; buffer = e' } ≡ read_told_of n answers e
          unfolding read_told_of bytes_of
          read_told_done e' h p =
              rw (le-leb n most few, ne_eqb n 0 some, le-leb n (length e) room, eq-eqb (length answers) (read_count n) all, h)
              (listed_filled e e' (byte_at (lines_of answers)) n room p)
