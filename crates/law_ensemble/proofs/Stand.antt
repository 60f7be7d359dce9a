-- SPDX-License-Identifier: Apache-2.0
-- The test of two phases is `Clear`, that of power and phase `OffIdle`; so two devices of a set that stands are `Calm`,
-- and every list of events keeps that.
use Prim.Native.Nat.{ℕ}
use mathlib.Core.Path.{◌≡◌, refl, sym, ap, subst}
use mathlib.Core.Bool.{true, false, ◌&&◌}
use mathlib.Core.List.{List, [], ◌∷◌}
use lib.Dec.{eqb, ltb}
use borrow.Author.Tests.{ltb-true, lt-ltb, eqb-true, eq-eqb}
use Rattle.wire.specs.declared.Phase.{Phase}
use Rattle.wire.specs.declared.Phase.TheVariants.{Idle, Slave, AddressHigh, AddressLow, Pointer, Write, Read}
use Rattle.wire.proofs.Tests.{by_test, and_split}
use Rattle.bus_limits.specs.Limits.{is_idle, power_within, bus_within}
use Rattle.bus_limits.proofs.Keeps.{bus_limits_of}
use Rattle.bus.specs.declared.Power.{Power}
use Rattle.bus.specs.declared.Power.TheVariants.{On, Backup, Off}
use Rattle.fm31_counters.specs.Map.{FIRST, LAST}
use Rattle.fm31.specs.Limits.{well_formed}
use Rattle.law_wired.proofs.Wire.{not_true}
use Rattle.law_wired.proofs.Pulls.{Clear, this_idle, that_idle, both_called}
use Rattle.set_event.specs.Set.{Held, Together, Place, number_of, at, size_in, select_in, after_event, after_events}
use Rattle.set_event.specs.Make.{is_within}
use Rattle.set_event.specs.Stand.{is_in_slave_byte, are_clear, stand_clear}
use Rattle.set_event.proofs.Facts.{here_is, place_has}
use Rattle.law_ensemble.specs.Transaction.{same_place, Here, Between, Unlike}
use Rattle.law_ensemble.specs.Stand.{bus_in, Stands, MadeStands, RunStands, StandsOn, MadeRunsOn}
use Rattle.law_ensemble.proofs.Pairs.{each_two, of_each_two}
use Rattle.law_ensemble.proofs.Made.{idle_is, unlike_of, made}
use Rattle.law_ensemble.proofs.Calm.{OffIdle, Calm, clear_this, clear_that, calm_run, off_run}

-- the test of two phases
called_is : (k b : ℕ) (q : Phase) → (ltb k 8 && is_in_slave_byte k b q) ≡ true → Clear (Slave k b) q
called_is k b Idle e = that_idle
called_is k b (Slave l c) e =
    let h = and_split (ltb k 8) (eqb l k && eqb c b) e in
    let g = and_split (eqb l k) (eqb c b) h.1 in
    subst (λ (z : ℕ). Clear (Slave k b) (Slave z c)) (sym (eqb-true l k g.0))
    (subst (λ (z : ℕ). Clear (Slave k b) (Slave k z)) (sym (eqb-true c b g.1))
    (both_called k b (ltb-true k 8 h.0)))
called_is k b (AddressHigh l c) e = not_true (and_split (ltb k 8) false e).1
called_is k b (AddressLow h l c) e = not_true (and_split (ltb k 8) false e).1
called_is k b (Pointer l c) e = not_true (and_split (ltb k 8) false e).1
called_is k b (Write s l c) e = not_true (and_split (ltb k 8) false e).1
called_is k b (Read s l c) e = not_true (and_split (ltb k 8) false e).1

clear_is : (p q : Phase) → are_clear p q ≡ true → Clear p q
clear_is Idle q e = this_idle
clear_is (Slave k b) q e =
    by_test (is_idle q) (λ i. clear_that _ _ (idle_is q i)) (λ i. called_is k b q (rw i at e))
clear_is (AddressHigh k b) q e = clear_that _ _ (idle_is q e)
clear_is (AddressLow h k b) q e = clear_that _ _ (idle_is q e)
clear_is (Pointer k b) q e = clear_that _ _ (idle_is q e)
clear_is (Write s k b) q e = clear_that _ _ (idle_is q e)
clear_is (Read s k b) q e = clear_that _ _ (idle_is q e)

idle_clear : (p : Phase) → are_clear p Idle ≡ true
idle_clear Idle = refl
idle_clear (Slave k b) = refl
idle_clear (AddressHigh k b) = refl
idle_clear (AddressLow h k b) = refl
idle_clear (Pointer k b) = refl
idle_clear (Write s k b) = refl
idle_clear (Read s k b) = refl

is_clear : (p q : Phase) → Clear p q → are_clear p q ≡ true
is_clear p q this_idle = refl
is_clear p q that_idle = idle_clear p
is_clear p q (both_called k b h) = rw (lt-ltb k 8 h, eq-eqb k k refl, eq-eqb b b refl)

clear_back : (p q : Phase) → Clear p q → Clear q p
clear_back p q this_idle = that_idle
clear_back p q that_idle = this_idle
clear_back p q (both_called k b h) = both_called k b h

-- a device without main power is idle
off_is : (w : Power) (p : Phase) → power_within w p ≡ true → OffIdle w p
unfolding power_within
off_is On p e = tt
off_is Backup p e = idle_is p e
off_is Off p e = idle_is p e

is_off : (w : Power) (p : Phase) → OffIdle w p → power_within w p ≡ true
unfolding power_within
is_off On p o = refl
is_off Backup p o = ap is_idle o
is_off Off p o = ap is_idle o

-- two devices of a set that stands
pub calm_of : (t : Together) → Unlike t → Stands t → (v w : Place) → Here t v → Here t w → same_place v w ≡ false
    → Calm (at v t) (at w t)
calm_of t u s v w a b d =
    record {
      unlike = u v w a b d;
      clear =
          each_two (λ (h k : Held). Clear (bus_in h).phase (bus_in k).phase) (λ h k c. clear_back _ _ c) stand_clear
          (λ h k e. clear_is _ _ e) t s.together v w a b d;
      this_off = off_is _ _ (s.powered v a);
      that_off = off_is _ _ (s.powered w b);
    }

-- no event changes how many there are
pub count_kept : (t : Together) (es : List ℕ) → (after_events t es).set.count ≡ t.set.count
count_kept t [] = refl
count_kept t (e ∷ es) = count_kept (after_event t e) es

pub here_before : (t : Together) (es : List ℕ) (v : Place) → Here (after_events t es) v → Here t v
here_before t es v a = subst (λ (n : ℕ). ltb (number_of v) n ≡ true) (count_kept t es) a

pub stands_on : StandsOn
stands_on t es u s =
    record {
      together =
          of_each_two stand_clear (after_events t es)
          (λ v w a b d.
          let a' = here_before t es v a in
          let b' = here_before t es w b in
          is_clear _ _ (calm_run t es v w a' b' (calm_of t u s v w a' b' d)).clear);
      powered = λ v a. is_off _ _ (off_run t es v (off_is _ _ (s.powered v (here_before t es v a))));
    }

idle_powered : (w : Power) (p : Phase) → p ≡ Idle → power_within w p ≡ true
unfolding power_within
idle_powered On p e = refl
idle_powered Backup p e = ap is_idle e
idle_powered Off p e = ap is_idle e

pub between_stands : (t : Together) → Between t → Stands t
between_stands t rest =
    record {
      together = of_each_two stand_clear t (λ v w a b d. is_clear _ _ (clear_this _ _ (rest v a)));
      powered = λ v a. idle_powered _ _ (rest v a);
    }

pub made_stands : MadeStands
made_stands t e = between_stands t (made t e).0

pub made_runs_on : MadeRunsOn
made_runs_on t es e = (stands_on t es (made t e).1 (made_stands t e)).together

-- the limits of a device ask that it is idle without main power
within_powered : (h : Held) → is_within h ≡ true → power_within (bus_in h).power (bus_in h).phase ≡ true
unfolding is_within well_formed
within_powered h e =
    let w = (and_split (ltb (select_in h) 4) _ e).1 in
    let l = (and_split (bus_within (size_in h) (select_in h) FIRST LAST (bus_in h)) _ w).0 in
    (bus_limits_of (size_in h) (select_in h) FIRST LAST (bus_in h) l).power

pub run_stands : RunStands
run_stands t w d s = (
  unlike_of t d,
  record {
    together = s;
    powered =
        λ v a.
        within_powered (at v t) (here_is t.set.count (number_of v) _ (place_has is_within t w v) a);
  },
)
