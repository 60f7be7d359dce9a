-- SPDX-License-Identifier: Apache-2.0
-- The supplies going and coming. Under a supply that is known each list of events computes; what is left is the answer
-- byte and POR, in the words of the law.
use Prim.Native.Nat.{ℕ}
use mathlib.Core.Path.{refl, ap, ◌∙◌}
use mathlib.Core.List.{[], ◌∷◌}
use Rattle.wire.specs.declared.Phase.TheVariants.{Idle}
use Rattle.bus.specs.declared.Power.TheVariants.{On, Backup, Off}
use Rattle.fm3130_registers.specs.Control.{por_set}
use Rattle.fm3130_companion.specs.Part.{pin_of, lost_of, returned_of}
use Rattle.fm3130.specs.Event.{happening, event_on}
use Rattle.fm3130_list.specs.Run.{run_of}
use Rattle.law_power.specs.Left.{as_it_was, pored, dark, shown_pored, Leave}
use Rattle.law_power.specs.Away.{PowerAway, PowerAwayAndBack, SuppliesGone, SuppliesGoneAndBack, PowerBack}
use Rattle.law_power.specs.Away.{OffUnchanged, FreshSeen}
use Rattle.law_power.proofs.Shown.{now, then, is_now, back, is_back}

-- each list of events under each supply, as the definitions have it
away_main : Leave On (5 ∷ []) (λ s m. as_it_was s m Backup Idle 0 0 (now s ∷ []))
unfolding run_of happening event_on pin_of
away_main s m on = rw on

away_backup : Leave Backup (5 ∷ [])
    (λ s m. as_it_was s m Backup s.phase s.address s.companion.address (now s ∷ []))
unfolding run_of happening event_on pin_of
away_backup s m on = rw on

pub power_away : PowerAway
power_away =
    record {
      main = λ s m on. away_main s m on ∙ ap (λ (x : ℕ). as_it_was s m Backup Idle 0 0 (x ∷ [])) (is_now s);
      backup =
          λ s m on. away_backup s m on
          ∙ ap (λ (x : ℕ). as_it_was s m Backup s.phase s.address s.companion.address (x ∷ [])) (is_now s);
    }

round_main : Leave On (5 ∷ 7 ∷ [])
    (λ s m. back s m Idle 0 0 (por_set s.companion.registers.control) (now s ∷ then s ∷ []))
unfolding run_of happening event_on pin_of returned_of
round_main s m on = rw on

round_backup : Leave Backup (5 ∷ 7 ∷ [])
    (λ s m. back s m s.phase s.address s.companion.address (por_set s.companion.registers.control)
    (now s ∷ then s ∷ []))
unfolding run_of happening event_on pin_of returned_of
round_backup s m on = rw on

pub power_away_and_back : PowerAwayAndBack
power_away_and_back =
    record {
      main =
          λ s m on. round_main s m on
          ∙ (is_back s m Idle 0 0 (now s ∷ [])
          ∙ ap (λ (x : ℕ). pored s m Idle 0 0 (x ∷ shown_pored s ∷ [])) (is_now s));
      backup =
          λ s m on. let q = s.phase in let a = s.address in let k = s.companion.address in
          round_backup s m on
          ∙ (is_back s m q a k (now s ∷ []) ∙ ap (λ (x : ℕ). pored s m q a k (x ∷ shown_pored s ∷ [])) (is_now s));
    }

pub supplies_gone : SuppliesGone
unfolding run_of happening event_on pin_of lost_of
supplies_gone = record { main = λ s m on. rw on; backup = λ s m on. rw on }

one_by_one_lem : Leave On (5 ∷ 6 ∷ 7 ∷ []) (λ s m. dark m On (now s ∷ 1 ∷ 5 ∷ []))
unfolding run_of happening event_on pin_of lost_of
one_by_one_lem s m on = rw on

pub supplies_gone_and_back : SuppliesGoneAndBack
unfolding run_of happening event_on pin_of lost_of
supplies_gone_and_back =
    record {
      main = λ s m on. rw on;
      backup = λ s m on. rw on;
      one_by_one = λ s m on. one_by_one_lem s m on ∙ ap (λ (x : ℕ). dark m On (x ∷ 1 ∷ 5 ∷ [])) (is_now s);
    }

back_main : Leave On (7 ∷ []) (λ s m. as_it_was s m On s.phase s.address s.companion.address (now s ∷ []))
unfolding run_of happening event_on pin_of
back_main s m on = rw on

back_none : Leave Off (7 ∷ []) (λ s m. as_it_was s m On s.phase s.address s.companion.address (now s ∷ []))
unfolding run_of happening event_on pin_of
back_none s m on = rw on

back_backup : Leave Backup (7 ∷ [])
    (λ s m. back s m s.phase s.address s.companion.address (por_set s.companion.registers.control)
    (then s ∷ []))
unfolding run_of happening event_on pin_of returned_of
back_backup s m on = rw on

pub power_back : PowerBack
power_back =
    record {
      main =
          λ s m on. back_main s m on
          ∙ ap (λ (x : ℕ). as_it_was s m On s.phase s.address s.companion.address (x ∷ [])) (is_now s);
      backup = λ s m on. back_backup s m on ∙ is_back s m s.phase s.address s.companion.address [];
      none =
          λ s m on. back_none s m on
          ∙ ap (λ (x : ℕ). as_it_was s m On s.phase s.address s.companion.address (x ∷ [])) (is_now s);
    }

pub off_unchanged : OffUnchanged
unfolding run_of happening event_on
off_unchanged = record { tick = λ s m on. rw on; lost = λ s m on. rw on; gone = λ s m on. rw on }

pub fresh_seen : FreshSeen
unfolding run_of lost_of
fresh_seen m = refl
