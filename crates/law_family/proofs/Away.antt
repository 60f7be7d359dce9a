-- SPDX-License-Identifier: Apache-2.0
-- The supplies going and coming. Under a supply that is known each list of events computes; what is left is POR, in the words
-- of the law.
use Prim.Native.Nat.{ℕ}
use mathlib.Core.Path.{◌≡◌, refl, ap, ◌∙◌}
use mathlib.Core.List.{List, [], ◌∷◌}
use native.Mathlib.Omega.{arith}
use Rattle.wire.specs.declared.Phase.{Phase}
use Rattle.wire.specs.declared.Phase.TheVariants.{Idle}
use Rattle.bus.specs.Happening.{happening}
use Rattle.bus.specs.Event.{event_on}
use Rattle.bus.specs.declared.Power.TheVariants.{On, Backup}
use Rattle.fm31_counters.specs.Power.{lost_of, por_set, returned_of, blank_of}
use Rattle.fm31.specs.Run.{run_of}
use Rattle.fm31.specs.declared.State.{State}
use Rattle.law_family.specs.Seen.{Seen, count_list}
use Rattle.law_family.specs.Left.{por_up, from_watchdog, pored, Leave}
use Rattle.law_family.specs.Away.{PowerAway, PowerAwayAndBack, SuppliesGone, SuppliesGoneAndBack, PowerBack, OffUnchanged}
use Rattle.law_family.specs.Away.{Unheard, FreshSeen}

pub power_away : PowerAway
unfolding run_of happening event_on
power_away = record { main = λ n k s m on. rw on; backup = λ n k s m on. rw on }

-- setting POR adds 40h where it was 0
por_up_lem : (flags : ℕ) → por_set flags ≡ por_up flags
por_up_lem flags = omega arith

-- what is left with this byte in 09h
abbrev back : State → List ℕ → Phase → ℕ → ℕ → List ℕ → ℕ → Seen
back s m q a k answers flags =
    record {
      power = On;
      phase = q;
      address = a;
      pointer = k;
      registers = flags ∷ from_watchdog s.counters.registers;
      snapshot = count_list s.counters.snapshot;
      memory = m;
      answers = answers;
    }

is_back : (s : State) (m : List ℕ) (q : Phase) (a k : ℕ) (answers : List ℕ)
    → back s m q a k answers (por_set s.counters.registers.flags) ≡ pored s m q a k answers
is_back s m q a k answers = ap (back s m q a k answers) (por_up_lem s.counters.registers.flags)

round_main : Leave On (5 ∷ 7 ∷ []) (λ s m. back s m Idle 0 0x09 (1 ∷ 1 ∷ []) (por_set s.counters.registers.flags))
unfolding run_of happening event_on returned_of
round_main n k s m on = rw on

round_backup : Leave Backup (5 ∷ 7 ∷ [])
    (λ s m. back s m s.bus.phase s.bus.address s.counters.address (1 ∷ 1 ∷ []) (por_set s.counters.registers.flags))
unfolding run_of happening event_on returned_of
round_backup n k s m on = rw on

pub power_away_and_back : PowerAwayAndBack
power_away_and_back =
    record {
      main = λ n k s m on. round_main n k s m on ∙ is_back s m Idle 0 0x09 (1 ∷ 1 ∷ []);
      backup =
          λ n k s m on. round_backup n k s m on
          ∙ is_back s m s.bus.phase s.bus.address s.counters.address (1 ∷ 1 ∷ []);
    }

pub supplies_gone : SuppliesGone
unfolding run_of happening event_on lost_of
supplies_gone = record { main = λ n k s m on. rw on; backup = λ n k s m on. rw on }

pub supplies_gone_and_back : SuppliesGoneAndBack
unfolding run_of happening event_on lost_of
supplies_gone_and_back =
    record { main = λ n k s m on. rw on; backup = λ n k s m on. rw on; one_by_one = λ n k s m on. rw on }

back_backup : Leave Backup (7 ∷ [])
    (λ s m. back s m s.bus.phase s.bus.address s.counters.address (1 ∷ []) (por_set s.counters.registers.flags))
unfolding run_of happening event_on returned_of
back_backup n k s m on = rw on

pub power_back : PowerBack
unfolding run_of happening event_on
power_back =
    record {
      main = λ n k s m on. rw on;
      backup =
          λ n k s m on. back_backup n k s m on
          ∙ is_back s m s.bus.phase s.bus.address s.counters.address (1 ∷ []);
      none = λ n k s m on. rw on;
    }

pub off_unchanged : OffUnchanged
unfolding run_of happening event_on
off_unchanged =
    record {
      tick = λ n k s m on. rw on;
      lost = λ n k s m on. rw on;
      gone = λ n k s m on. rw on;
      first = λ n k s m on. rw on;
      second = λ n k s m on. rw on;
    }

pub unheard : Unheard
unfolding run_of happening event_on
unheard = record { backup = λ n k s m on. rw on; none = λ n k s m on. rw on }

pub fresh_seen : FreshSeen
unfolding run_of blank_of lost_of
fresh_seen n k m = refl
