-- SPDX-License-Identifier: Apache-2.0
-- One event is the list of that event: both are the device's own definition of it. A tick says nothing exactly where no
-- supply is present or the companion's tick says nothing; and it says what the companion's says.
use Prim.Native.Nat.{ℕ, ◌+◌, ◌≤◌}
use mathlib.Core.Path.{◌≡◌, refl, sym, ap, subst, ◌∙◌}
use mathlib.Core.Bool.{true, false}
use mathlib.Core.List.{List, [], ◌∷◌}
use native.Mathlib.Omega.{arith}
use lib.Dec.{leb, eqb}
use lib.ListN.{length, take}
use borrow.Author.Tests.{eqb-true, eqb-false, leb-true, leb-false, le-leb}
use Rattle.std.specs.Prelude.{Option, Some, None}
use Rattle.wire.proofs.Tests.{by_test}
use Rattle.calendar.specs.Highest.{changed_of}
use Rattle.calendar.specs.declared.Rolled.TheVariants.{Nothing}
use Rattle.calendar.proofs.Highest.{changed_self}
use Rattle.fm3130_companion.specs.Part.{rolled_of}
use Rattle.fm3130_companion.proofs.Says.{tick_rolled, nothing_if_silent, nothing_only_if_silent}
use Rattle.fm3130.specs.Chip.{memory_size, Done}
use Rattle.fm3130.specs.Power.{is_supplied}
use Rattle.fm3130.specs.Event.{happening, rolled_by, rolled_in}
use Rattle.numbers.specs.Numbers.{accepted}
use Rattle.fm3130.specs.declared.State.{State}
use Rattle.fm3130.proofs.Cases.{tick_supplied, tick_unsupplied, no_tick}
use Rattle.fm3130_image.specs.Image.{decode_of}
use Rattle.bus_list.specs.Run as list
use Rattle.fm3130_list.specs.Run.{run_of, all_known}
use Rattle.fm3130_list.specs.Run as Run
use Rattle.fm3130_list.proofs.Runs.{outcome_written}
use Rattle.c_step.specs.Single.{Outcome, single_of}
use Rattle.c_step.specs.Laws.{AsTheListRun, SilentExactly, NothingExactly, SaysWhatChanged}
use Rattle.c_step.proofs.Ways.{single_wrong_memory, single_wrong_image, single_unknown_event, single_short, single_answered}

-- what number 0 says of what was given
record Accepted (i m : List ℕ) (e : ℕ) (t : List ℕ) : Type 0 where
  state : State
  memory : length m ≡ memory_size
  image : decode_of i ≡ Some state
  event : e ≤ 7
  room : 2 ≤ length t

accepted_by : (i m : List ℕ) (e : ℕ) (t : List ℕ) → (single_of i m e t).number ≡ accepted → Accepted i m e t
accepted_by i m e t h =
    by_test (eqb (length m) memory_size)
    (λ q. on_image (eqb-true (length m) memory_size q) (decode_of i) refl)
    (λ q. refuted 0 (ap (λ (o : Outcome). o.number) (single_wrong_memory i m e t (eqb-false (length m) memory_size q))))
  where
    refuted : (n : ℕ) → (single_of i m e t).number ≡ n + 1 → Accepted i m e t
    refuted n q = let z : n + 1 ≡ 0 = sym q ∙ h in absurd (omega arith)

    on_image : length m ≡ memory_size → (d : Option State) → decode_of i ≡ d → Accepted i m e t
    on_image l None q = refuted 1 (ap (λ (o : Outcome). o.number) (single_wrong_image i m e t l q))
    on_image l (Some s) q =
        by_test (leb e 7)
        (λ k. by_test (leb 2 (length t))
        (λ r. record { state = s; memory = l; image = q; event = leb-true _ _ k; room = leb-true _ _ r })
        (λ r. refuted 3 (ap (λ (o : Outcome). o.number) (single_short i m e t l s q (leb-true _ _ k) (leb-false _ _ r)))))
        (λ k. refuted 2 (ap (λ (o : Outcome). o.number) (single_unknown_event i m e t l s q (leb-false _ _ k))))

pub as_the_list_run : AsTheListRun
unfolding run_of list.all_known
as_the_list_run i m e t h =
    let a = accepted_by i m e t h in
    let room = a.room in
    let one = single_answered i m e t a.memory a.state a.image a.event a.room in
    let known : all_known (e ∷ []) ≡ true = rw (le-leb e 7 a.event) in
    let list = outcome_written i m (e ∷ []) t a.memory a.state a.image known (omega arith) in
    record {
      number = ap (λ (o : Run.Outcome). o.number) list;
      image = ap (λ (o : Outcome). o.image) one ∙ sym (ap (λ (o : Run.Outcome). o.image) list);
      memory = ap (λ (o : Outcome). o.memory) one ∙ sym (ap (λ (o : Run.Outcome). o.memory) list);
      answer =
          ap (λ (o : Outcome). take 1 o.told) one ∙ sym (ap (λ (o : Run.Outcome). take 1 o.answers) list);
    }

module _ (s : State) where
  -- a tick, with a supply and without
  tick_says : is_supplied s.power ≡ true → rolled_in s 4 ≡ rolled_of s.companion
  unfolding happening rolled_by
  tick_says h = rw h

  tick_silent : is_supplied s.power ≡ false → rolled_in s 4 ≡ Nothing
  unfolding happening rolled_by
  tick_silent h = rw h

  tick_exactly : SilentExactly s 4
  tick_exactly =
      by_test (is_supplied s.power)
      (λ p. record {
        then_nothing = λ h. tick_says p ∙ nothing_if_silent s.companion (rw p at h);
        only_then = λ h. rw p (nothing_only_if_silent s.companion (sym (tick_says p) ∙ h));
      })
      (λ p. record { then_nothing = λ h. tick_silent p; only_then = λ h. rw p refl })

pub nothing_exactly : NothingExactly
nothing_exactly s e =
    by_test (eqb e 4)
    (λ q. subst (λ (n : ℕ). SilentExactly s n) (sym (eqb-true e 4 q)) (tick_exactly s))
    (λ q. record { then_nothing = λ h. no_tick s e q; only_then = λ h. rw q refl })

pub says_what_changed : SaysWhatChanged
unfolding happening
says_what_changed s m =
    by_test (is_supplied s.power)
    (λ p. tick_says s p ∙ (tick_rolled s.companion
    ∙ ap (λ (d : Done). changed_of s.companion.core d.state.companion.core) (sym (tick_supplied s m p))))
    (λ p. tick_silent s p ∙ (sym (changed_self s.companion.core)
    ∙ ap (λ (d : Done). changed_of s.companion.core d.state.companion.core) (sym (tick_unsupplied s m p))))
