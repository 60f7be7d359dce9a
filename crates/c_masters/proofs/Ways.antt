-- SPDX-License-Identifier: Apache-2.0
-- The ways through the tests of the ask and of the call, and that no second outcome satisfies their contracts. A call that
-- passes its own tests is the list run's, whose laws are used as they stand.
use Prim.Native.Nat.{ℕ, ◌≤◌, ◌<◌}
use mathlib.Core.Path.{◌≡◌, refl, sym, ap, ◌∙◌}
use mathlib.Core.Bool.{Bool, true, false, cond}
use mathlib.Core.List.{List, [], ◌∷◌}
use lib.ListN.{length}
use borrow.Author.Tests.{eq-eqb, ne_eqb}
use Rattle.std.specs.Prelude.{Some, None}
use Rattle.numbers.specs.Numbers.{accepted, wrong_memory, wrong_state, unknown_event, short_answers, not_held}
use Rattle.fm3130.specs.Chip.{memory_size}
use Rattle.fm3130.specs.declared.State.{State}
use Rattle.fm3130_image.specs.Image.{decode_of}
use Rattle.fm3130_list.specs.Run.{RanThrough, all_known, outcome_of}
use Rattle.c_run.specs.Run.{outcome_with}
use Rattle.c_run.specs.declared.Ran.{Ran}
use Rattle.fm3130_list.proofs.Runs.{outcome_short_answers, outcome_written, outcome_done}
use Rattle.masters_hold.specs.Bus.{Holder, may_ask, may_call, master_number, standing_of}
use Rattle.c_masters.specs.Outcome.{ask_of, AskSettled, CallOutcome, refused_call, ran_call, bus_after, call_on, is_good}
use Rattle.c_masters.specs.Outcome.{call_of, CallSettled}
use Rattle.masters_hold.specs.declared.Master.{Master}

-- an ask
module _ (b : List ℕ) (x : ℕ) where
  pub ask_unknown : standing_of b x ≡ None → ask_of b x ≡ record { number = wrong_state; bus = b }
  unfolding ask_of
  ask_unknown h = rw h

  module _ (g : Holder) (y : Master) (h : standing_of b x ≡ Some (record { holder = g; master = y })) where
    pub ask_refused : may_ask g y ≡ false → ask_of b x ≡ record { number = not_held; bus = b }
    unfolding ask_of
    ask_refused q = rw (h, q)

    pub ask_answered : may_ask g y ≡ true → ask_of b x ≡ record { number = accepted; bus = master_number y ∷ [] }
    unfolding ask_of
    ask_answered q = rw (h, q)

-- a call
module _ (b : List ℕ) (x : ℕ) (i m es a : List ℕ) where
  pub call_wrong_memory : (length m ≡ memory_size → ⊥) → call_of b x i m es a ≡ refused_call wrong_memory b i m a
  unfolding call_of
  call_wrong_memory h = rw (ne_eqb (length m) memory_size h)

  module _ (h : length m ≡ memory_size) where
    pub call_wrong_image : decode_of i ≡ None → call_of b x i m es a ≡ refused_call wrong_state b i m a
    unfolding call_of
    call_wrong_image d = rw (eq-eqb (length m) memory_size h, d)

    module _ (s : State) (d : decode_of i ≡ Some s) where
      pub call_unknown : standing_of b x ≡ None → call_of b x i m es a ≡ refused_call wrong_state b i m a
      unfolding call_of
      call_unknown q = rw (eq-eqb (length m) memory_size h, d, q)

      module _ (g : Holder) (y : Master) (q : standing_of b x ≡ Some (record { holder = g; master = y })) where
        pub call_unknown_event : all_known es ≡ false → call_of b x i m es a ≡ refused_call unknown_event b i m a
        unfolding call_of
        call_unknown_event k = rw (eq-eqb (length m) memory_size h, d, q, k)

        module _ (k : all_known es ≡ true) where
          pub call_not_held : may_call g y es ≡ false → call_of b x i m es a ≡ refused_call not_held b i m a
          unfolding call_of
          call_not_held c = rw (eq-eqb (length m) memory_size h, d, q, k, c)

          module _ (c : may_call g y es ≡ true) where
            pub call_ran : call_of b x i m es a ≡ ran_call (outcome_of i m es a) es b
            unfolding call_of
            call_ran =
                let good : is_good (decode_of i) ≡ true = ap is_good d in
                let on : Bool → CallOutcome =
                λ t. cond t (call_on (standing_of b x) b i m es a) (refused_call wrong_state b i m a) in
                rw (eq-eqb (length m) memory_size h) (ap on good ∙ rw (q, k, c))

            pub call_short_answers : length a < length es → call_of b x i m es a ≡ refused_call short_answers b i m a
            call_short_answers l = call_ran ∙ rw (outcome_short_answers i m es a h s d k l) refl

            -- every event was done, and the bus is as the events leave it
            pub call_done : (i' m' a' b' : List ℕ) → length es ≤ length a → RanThrough s m es a i' m' a'
                → b' ≡ bus_after accepted es b
                → record { run = outcome_with (record { number = accepted; count = length es }) i' m' a'; bus = b' }
                ≡ call_of b x i m es a
            call_done i' m' a' b' l r z =
                let o = outcome_done i m es a h s d i' m' a' k l r in
                let n : (outcome_of i m es a).number ≡ accepted = rw (outcome_written i m es a h s d k l) refl in
                rw (z, o) (sym (call_ran ∙ rw n refl))

-- no second outcome satisfies the contracts
pub ask_unique : (b : List ℕ) (x n n₂ : ℕ) (b' b₂ : List ℕ) → AskSettled b x n b' → AskSettled b x n₂ b₂ → (n ≡ n₂) × (b' ≡ b₂)
ask_unique b x n n₂ b' b₂ p q = let same = p ∙ sym q in (λ k. (same k).number, λ k. (same k).bus)

pub call_unique : (b : List ℕ) (x : ℕ) (i m es a : List ℕ) (r r₂ : Ran) (b' b₂ i' i₂ m' m₂ a' a₂ : List ℕ)
    → CallSettled b x i m es a r b' i' m' a' → CallSettled b x i m es a r₂ b₂ i₂ m₂ a₂
    → (r ≡ r₂) × (b' ≡ b₂) × (i' ≡ i₂) × (m' ≡ m₂) × (a' ≡ a₂)
call_unique b x i m es a r r₂ b' b₂ i' i₂ m' m₂ a' a₂ p q =
    let same = p ∙ sym q in (
      λ k. record { number = (same k).run.number; count = (same k).run.count },
      λ k. (same k).bus,
      λ k. (same k).run.image,
      λ k. (same k).run.memory,
      λ k. (same k).run.answers,
    )
