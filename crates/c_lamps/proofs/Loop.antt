-- SPDX-License-Identifier: Apache-2.0
-- The ways through the tests of the list run with the record.
use Prim.Native.Nat.{ℕ, ◌≤◌, ◌<◌}
use mathlib.Core.Path.{◌≡◌, sym}
use mathlib.Core.Bool.{true, false}
use Rattle.std.proofs.Common.{Ok, Err}
use Rattle.wire.proofs.Tests.{by_test}
use lib.Dec.{eqb}
use mathlib.Core.List.{List}
use lib.ListN.{length}
use borrow.Author.Tests.{le-leb, lt-leb, eq-eqb, ne_eqb, eqb-true}
use Rattle.std.specs.Prelude.{Some, None}
use Rattle.numbers.specs.Numbers.{accepted, wrong_memory, wrong_state, unknown_event, short_answers}
use Rattle.numbers.specs.declared.Refusal.{Refusal}
use Rattle.numbers.specs.declared.Refusal.TheVariants.{WrongMemory, WrongState}
use Rattle.fm3130.specs.Chip.{memory_size}
use Rattle.place_clock.specs.Code.Clocking.{Accepted}
use Rattle.fm3130_accept.specs.Admitted.{admitted}
use Rattle.fm3130_image.specs.Code.Accepting.{is_image}
use Rattle.fm3130_image.proofs.Accepts.{image_not_read}
use Rattle.fm3130.specs.declared.State.{State}
use Rattle.fm3130_image.specs.Image.{decode_of}
use Rattle.fm3130_list.specs.Run.{run_of, all_known}
use Rattle.lamps.specs.Step.{report_of}
use Rattle.lamps.specs.Statement.{proven_by}
use Rattle.lamps_bytes.specs.Kept.{kept_of, bytes_of, is_kept}
use Rattle.c_lamps.specs.Run.{refused, written, shown, seen, outcome_of, RanInImage}
use Rattle.lamps.specs.declared.Proving.{Proving}

-- what was admitted, and what was not
pub admitted_here : (i m : List ℕ) (x : Unit {0}) → admitted i m ≡ Ok x → Accepted i m
admitted_here i m x e =
    by_test (eqb (length m) memory_size)
    (λ q. by_test (is_image i)
    (λ w. record { image = w; memory = eqb-true (length m) memory_size q })
    (λ w. let f : Err WrongState ≡ Ok x = rw (q, w) at e in cc))
    (λ q. let f : Err WrongMemory ≡ Ok x = rw q at e in cc)

module _ (i m es a b : List ℕ) where
  pub not_admitted : (r : Refusal) → admitted i m ≡ Err r → seen (shown (Err r)) i m a b ≡ outcome_of i m es a b
  unfolding outcome_of
  not_admitted r e =
      by_test (eqb (length m) memory_size)
      (λ q. by_test (is_image i)
      (λ w. let f : Ok tt ≡ Err r = rw (q, w) at e in cc)
      (λ w. let f : Err WrongState ≡ Err r = rw (q, w) at e in
      let g : r ≡ WrongState = cc in rw (g, q, image_not_read i w)))
      (λ q. let f : Err WrongMemory ≡ Err r = rw q at e in
      let g : r ≡ WrongMemory = cc in rw (g, q))

  pub wrong_memory_lem : (length m ≡ memory_size → ⊥) → outcome_of i m es a b ≡ refused wrong_memory i m a b
  unfolding outcome_of
  wrong_memory_lem h = rw (ne_eqb (length m) memory_size h)

  module _ (h : length m ≡ memory_size) where
    pub wrong_image : decode_of i ≡ None → outcome_of i m es a b ≡ refused wrong_state i m a b
    unfolding outcome_of
    wrong_image d = rw (eq-eqb (length m) memory_size h, d)

    module _ (s : State) (d : decode_of i ≡ Some s) where
      pub wrong_kept : is_kept b ≡ false → outcome_of i m es a b ≡ refused wrong_state i m a b
      unfolding outcome_of
      wrong_kept q = rw (eq-eqb (length m) memory_size h, d, q)

      module _ (q : is_kept b ≡ true) where
        pub unknown_event_lem : all_known es ≡ false → outcome_of i m es a b ≡ refused unknown_event i m a b
        unfolding outcome_of
        unknown_event_lem k = rw (eq-eqb (length m) memory_size h, d, q, k)

        pub short_answers_lem : all_known es ≡ true → length a < length es → outcome_of i m es a b ≡ refused short_answers i m a b
        unfolding outcome_of
        short_answers_lem k l = rw (eq-eqb (length m) memory_size h, d, q, k, lt-leb (length es) (length a) l)

        pub all_written_lem : all_known es ≡ true → length es ≤ length a
            → outcome_of i m es a b ≡ written (run_of s m es) (proven_by (kept_of b) s m es) es a
        unfolding outcome_of
        all_written_lem k l = rw (eq-eqb (length m) memory_size h, d, q, k, le-leb (length es) (length a) l)

        pub all_done : (p : Proving) (i' m' a' b' : List ℕ) (r : ℕ) → all_known es ≡ true → length es ≤ length a
            → RanInImage s (kept_of b) m es a p i' m' a' → b' ≡ bytes_of p → r ≡ report_of p
            → seen (record { number = accepted; report = r }) i' m' a' b' ≡ outcome_of i m es a b
        all_done p i' m' a' b' r k l w f g =
            rw (f, g, w.ran.image, w.ran.memory, w.ran.answers, w.proving) (sym (all_written_lem k l))
