-- SPDX-License-Identifier: Apache-2.0
-- The ways through the tests of a list run, and the two ends of a call. Accepted: what number 0 says of the buffers, the
-- count, and that the image left is accepted again. Refused: nothing is written.
use Prim.Native.Nat.{ℕ, suc, ◌≤◌, ◌<◌}
use mathlib.Core.Path.{◌≡◌, sym, ap}
use mathlib.Core.Bool.{true, false}
use mathlib.Core.List.{List}
use native.Mathlib.Omega.{arith}
use lib.Dec.{leb, eqb}
use lib.ListN.{length}
use borrow.Author.Tests.{eqb-true, eqb-false, leb-true, leb-false, le-leb, lt-leb, eq-eqb, ne_eqb}
use Rattle.wire.proofs.Tests.{by_test}
use Rattle.numbers.specs.Numbers.{accepted, wrong_memory, wrong_state, unknown_event, short_answers}
use Rattle.bus_list.specs.Run.{run_of, RanThrough, all_known}
use Rattle.bus_list.specs.Outcome.{Outcome, refused}
use Rattle.bus_list.specs.Outcome as outcome
use Rattle.bus_list.proofs.Runs.{Keeps, run_ok}
use Rattle.bus_list.proofs.Lists.{Lists, Reads, written, outcome_of}

module _ (L : Lists) (R : Reads L) where
  -- what number 0 says of the four buffers
  pub record Accepted (i m es a : List ℕ) : Type 0 where
    pub state : L.State
    pub memory : length m ≡ L.size
    pub image : R.Read i state
    pub events : all_known L.last es ≡ true
    pub room : length es ≤ length a

  -- a call's two ends: accepted, or refused by some number above 0
  data Ends (i m es a : List ℕ) : Type 0 where
    done : Accepted i m es a → Ends i m es a
    not_done : (n : ℕ) → outcome_of L i m es a ≡ refused (suc n) i m a → Ends i m es a

  module _ (i m es a : List ℕ) where
    -- the ways through the tests
    pub outcome_wrong_memory : (length m ≡ L.size → ⊥) → outcome_of L i m es a ≡ refused wrong_memory i m a
    unfolding outcome.outcome_of
    outcome_wrong_memory h = rw (ne_eqb (length m) L.size h)

    module _ (h : length m ≡ L.size) where
      pub outcome_wrong_image : R.Unread i → outcome_of L i m es a ≡ refused wrong_state i m a
      unfolding outcome.outcome_of
      outcome_wrong_image d = rw (eq-eqb (length m) L.size h, R.none_read i d, R.number i d)

      module _ (s : L.State) (d : R.Read i s) where
        pub outcome_unknown_event : all_known L.last es ≡ false → outcome_of L i m es a ≡ refused unknown_event i m a
        unfolding outcome.outcome_of
        outcome_unknown_event k = rw (eq-eqb (length m) L.size h, R.some_read i s d, k)

        pub outcome_short_answers : all_known L.last es ≡ true → length a < length es
            → outcome_of L i m es a ≡ refused short_answers i m a
        unfolding outcome.outcome_of
        outcome_short_answers k l =
            rw (eq-eqb (length m) L.size h, R.some_read i s d, k, lt-leb (length es) (length a) l)

        pub outcome_written : all_known L.last es ≡ true → length es ≤ length a
            → outcome_of L i m es a ≡ written L (run_of L.after s m es) es a
        unfolding outcome.outcome_of
        outcome_written k l =
            rw (eq-eqb (length m) L.size h, R.some_read i s d, k, le-leb (length es) (length a) l)

        -- what was done is the whole outcome
        pub outcome_done : (i' m' a' : List ℕ) → all_known L.last es ≡ true → length es ≤ length a
            → RanThrough (run_of L.after) L.image_of s m es a i' m' a'
            → record { number = accepted; count = length es; image = i'; memory = m'; answers = a' }
            ≡ outcome_of L i m es a
        outcome_done i' m' a' k l r = rw (r.image, r.memory, r.answers) (sym (outcome_written k l))

    ends : Ends i m es a
    ends = by_test (eqb (length m) L.size)
        (λ t. let l = eqb-true (length m) L.size t in
        R.or_not i (read l) (λ d. not_done 1 (outcome_wrong_image l d)))
        (λ t. not_done 0 (outcome_wrong_memory (eqb-false (length m) L.size t))) where
          read : length m ≡ L.size → (s : L.State) → R.Read i s → Ends i m es a
          read l s e = by_test (all_known L.last es)
              (λ k. by_test (leb (length es) (length a))
              (λ r. done (record { state = s; memory = l; image = e; events = k; room = leb-true _ _ r }))
              (λ r. not_done 3 (outcome_short_answers l s e k (leb-false _ _ r))))
              (λ k. not_done 2 (outcome_unknown_event l s e k))

    pub accepted_outcome : (c : Accepted i m es a) → outcome_of L i m es a ≡ written L (run_of L.after c.state m es) es a
    accepted_outcome c = outcome_written c.memory c.state c.image c.events c.room

    pub accepted_number : Accepted i m es a → (outcome_of L i m es a).number ≡ accepted
    accepted_number c = ap (λ (o : Outcome). o.number) (accepted_outcome c)

    pub accepted_by : (outcome_of L i m es a).number ≡ accepted → Accepted i m es a
    accepted_by h = from ends where
      from : Ends i m es a → Accepted i m es a
      from (done c) = c
      from (not_done n e) = let z : suc n ≡ 0 = rw e at h in absurd (omega arith)

    -- under every number but 0 nothing is written, and the count is 0
    abbrev pub Untouched : Type 0
    Untouched =
        outcome_of L i m es a
        ≡ record { number = (outcome_of L i m es a).number; count = 0; image = i; memory = m; answers = a }

    pub run_refused : ((outcome_of L i m es a).number ≡ accepted → ⊥) → Untouched
    run_refused h = from ends where
      from : Ends i m es a → Untouched
      from (done c) = absurd (h (accepted_number c))
      from (not_done n e) = rw e

    -- the count is the number of events
    pub run_count : (outcome_of L i m es a).number ≡ accepted → (outcome_of L i m es a).count ≡ length es
    run_count h = ap (λ (o : Outcome). o.count) (accepted_outcome (accepted_by h))

    -- the image that an accepted run leaves is accepted again, with the memory that it leaves
    pub run_again : Keeps L.after R.Ok L.size → (c : Accepted i m es a) (ys b : List ℕ)
        → all_known L.last ys ≡ true → length ys ≤ length b
        → Accepted (outcome_of L i m es a).image (outcome_of L i m es a).memory ys b
    run_again keeps c ys b k l =
        let o = run_ok L.after keeps c.state m es (R.ok i c.state c.image) c.memory in
        rw (accepted_outcome c)
        (record {
          state = (run_of L.after c.state m es).state;
          memory = o.memory;
          image = R.again (run_of L.after c.state m es).state o.state;
          events = k;
          room = l;
        })
