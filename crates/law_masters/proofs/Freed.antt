-- SPDX-License-Identifier: Apache-2.0
-- When the bus is freed: the events of an answered call one after another; a refused call leaves the lent byte.
use Prim.Native.Nat.{ℕ}
use mathlib.Core.Path.{◌≡◌, refl, ap, ◌∙◌}
use mathlib.Core.Bool.{Bool, true, false, cond}
use mathlib.Core.List.{List, [], ◌∷◌, ◌++◌}
use native.Mathlib.Omega.{arith}
use lib.Dec.{eqb}
use lib.ListN.{length}
use borrow.Author.Tests.{eqb-true, eqb-false}
use Rattle.std.specs.Prelude.{Option, Some, None}
use Rattle.bits.proofs.Cases.{by_cond}
use Rattle.wire.proofs.Tests.{by_test}
use Rattle.fm3130.specs.Chip.{memory_size}
use Rattle.fm3130.specs.Event.{happening}
use Rattle.fm3130_image.specs.Image.{decode_of}
use Rattle.fm3130_list.specs.Run.{all_known, outcome_of}
use Rattle.masters_hold.specs.Bus.{freed_by, frees, may_call, standing_of, bus_freed}
use Rattle.masters_hold.specs.declared.Standing.{Standing}
use Rattle.masters_hold.proofs.Lists.{freed_other}
use Rattle.c_masters.specs.Outcome.{CallOutcome, call_on, is_good, call_of}
use Rattle.law_masters.specs.Each.{Each}
use Rattle.law_masters.specs.Freed.{Frees, stop, lost, gone, Quiet, Freed, KeptQuiet, KeptOpen, KeptRefused}

-- the lent byte after a call, by its number
record Left (b es : List ℕ) (o : CallOutcome) : Type 0 where
  pub answered : o.run.number ≡ 0 → o.bus ≡ bus_freed es b
  pub refused : (o.run.number ≡ 0 → ⊥) → o.bus ≡ b

module _ (b : List ℕ) (x : ℕ) (i m es a : List ℕ) where
  on_standing : (g : Option Standing) → Left b es (call_on g b i m es a)
  on_standing None = record { answered = λ n. absurd (omega arith); refused = λ n. refl }
  on_standing (Some s) =
      by_cond (Left b es) (all_known es)
      (λ k. by_cond (Left b es) (may_call s.holder s.master es)
      (λ c. record { answered = λ n. rw n; refused = λ n. by_number (eqb (outcome_of i m es a).number 0) refl n })
      (λ c. record { answered = λ n. absurd (omega arith); refused = λ n. refl }))
      (λ k. record { answered = λ n. absurd (omega arith); refused = λ n. refl })
    where
      by_number : (t : Bool) → eqb (outcome_of i m es a).number 0 ≡ t → ((outcome_of i m es a).number ≡ 0 → ⊥)
          → cond (eqb (outcome_of i m es a).number 0) (bus_freed es b) b ≡ b
      by_number true e n = absurd (n (eqb-true (outcome_of i m es a).number 0 e))
      by_number false e n = rw e

  left : Left b es (call_of b x i m es a)
  unfolding call_of
  left =
      by_cond (Left b es) (eqb (length m) memory_size)
      (λ h. by_cond (Left b es) (is_good (decode_of i)) (λ d. on_standing (standing_of b x))
      (λ d. record { answered = λ n. absurd (omega arith); refused = λ n. refl }))
      (λ h. record { answered = λ n. absurd (omega arith); refused = λ n. refl })

frees_append : (f : Bool) (xs ys : List ℕ) → frees f (xs ++ ys) ≡ frees (frees f xs) ys
frees_append f [] ys = refl
frees_append f (e ∷ xs) ys = frees_append (freed_by f (happening e)) xs ys

frees_at : (f : Bool) (e : ℕ) → Frees e → freed_by f (happening e) ≡ true
unfolding happening
frees_at f e stop = refl
frees_at f e lost = refl
frees_at f e gone = refl

-- freed, and no Start
stays_freed : (e : ℕ) → (e ≡ 0 → ⊥) → freed_by true (happening e) ≡ true
unfolding happening
stays_freed e n =
    by_test (eqb e 1) (λ p. rw (eqb-true e 1 p) refl)
    (λ p. by_test (eqb e 5) (λ q. rw (eqb-true e 5 q) refl)
    (λ q. by_test (eqb e 6) (λ r. rw (eqb-true e 6 r) refl)
    (λ r. freed_other true e n (eqb-false e 1 p) (eqb-false e 5 q) (eqb-false e 6 r))))

all_freed : (es : List ℕ) → Each (λ y. y ≡ 0 → ⊥) es → frees true es ≡ true
all_freed [] h = refl
all_freed (e ∷ es) h = rw (stays_freed e h.0) (all_freed es h.1)

-- not freed, and none that frees
stays_held : (e : ℕ) → Quiet e → freed_by false (happening e) ≡ false
unfolding happening
stays_held e q =
    by_test (eqb e 0) (λ p. rw (eqb-true e 0 p) refl)
    (λ p. freed_other false e (eqb-false e 0 p) q.stop q.lost q.gone)

all_held : (es : List ℕ) → Each Quiet es → frees false es ≡ false
all_held [] h = refl
all_held (e ∷ es) h = rw (stays_held e h.0) (all_held es h.1)

starts_again : (f : Bool) → freed_by f (happening 0) ≡ false
unfolding happening
starts_again f = refl

pub freed : Freed
freed b x i m a before after e f h n =
    let es = before ++ (e ∷ after) in
    let all : frees false es ≡ true =
    frees_append false before (e ∷ after)
    ∙ (ap (λ (t : Bool). frees t after) (frees_at (frees false before) e f) ∙ all_freed after h) in
    (left b x i m es a).answered n ∙ rw all

-- the lent byte where the events do not free the bus, whatever the number
kept_by : (b : List ℕ) (x : ℕ) (i m es a : List ℕ) → frees false es ≡ false → (call_of b x i m es a).bus ≡ b
kept_by b x i m es a all =
    let l = left b x i m es a in
    by_test (eqb (call_of b x i m es a).run.number 0)
    (λ t. l.answered (eqb-true (call_of b x i m es a).run.number 0 t) ∙ rw all)
    (λ t. l.refused (eqb-false (call_of b x i m es a).run.number 0 t))

pub kept_quiet : KeptQuiet
kept_quiet b x i m es a h = kept_by b x i m es a (all_held es h)

pub kept_open : KeptOpen
kept_open b x i m a before after h =
    kept_by b x i m (before ++ (0 ∷ after)) a
    (frees_append false before (0 ∷ after)
    ∙ (ap (λ (t : Bool). frees t after) (starts_again (frees false before)) ∙ all_held after h))

pub kept_refused : KeptRefused
kept_refused b x i m es a n = (left b x i m es a).refused n
