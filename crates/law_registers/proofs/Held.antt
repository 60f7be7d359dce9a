-- SPDX-License-Identifier: Apache-2.0
-- 02h to 08h beside the core while ticks come. A tick leaves the low bits of 00h, so where it left 02h to 08h once it leaves
-- them always.
use Prim.Native.Nat.{ℕ, zero, suc, ◌/◌, ◌%◌}
use mathlib.Core.Path.{◌≡◌, refl, sym, ap, ◌∙◌}
use mathlib.Core.Bool.{Bool, true, ◌||◌, false≢true}
use mathlib.Core.List.{List}
use native.Mathlib.Omega.{arith}
use Rattle.bits.specs.Weight.{has}
use Rattle.bits.proofs.Cases.{by_cond}
use Rattle.bus.specs.declared.Power.{Power}
use Rattle.bus.specs.declared.Power.TheVariants.{On, Backup, Off}
use Rattle.calendar.specs.Next.{next_of}
use Rattle.fm3130_registers.specs.Map.{OSCEN, AF, CF}
use Rattle.fm3130_companion.specs.Tick.{rung}
use Rattle.fm3130_companion.specs.Part.{tick_of}
use Rattle.fm3130.specs.Event.{happening, event_on, event_of}
use Rattle.fm3130.specs.Power.{is_supplied}
use Rattle.fm3130.specs.declared.State.{State}
use Rattle.fm3130_list.specs.Run.{run_of}
use Rattle.law_registers.specs.Held.{Held, CoreRunsOn, Follows}
use Rattle.law_registers.proofs.Clocking.{Desk}
use Rattle.law_registers.proofs.Flags.{flagged_below}

abbrev is_held : Desk → Bool
is_held c = has c.registers.control 0x02 || has c.registers.control 0x01

-- what a tick leaves where R or W is 1
pub record Leaves (c c' : Desk) : Type 0 where
  pub time : c'.registers.time ≡ c.registers.time
  pub low : c'.registers.control % 0x20 ≡ c.registers.control % 0x20

same : (c : Desk) → Leaves c c
same c = record { time = refl; low = refl }

pub tick_leaves : (c : Desk) → is_held c ≡ true → Leaves c (tick_of c)
unfolding tick_of
tick_leaves c h =
    by_cond (Leaves c) (has c.registers.trim OSCEN) (λ o. same c)
    (λ o. record { time = rw h; low = flagged_below c.registers.control (has c.registers.control AF || rung c) (has c.registers.control CF || (next_of c.core).century) })

-- the low bits settle whether 02h to 08h are held
pub still_held : (c c' : Desk) → Leaves c c' → is_held c ≡ true → is_held c' ≡ true
still_held c c' l h =
    let k = c.registers.control in
    let k' = c'.registers.control in
    let e = l.low in
    let w : k' / 2 % 2 ≡ k / 2 % 2 = omega arith in
    let r : k' / 1 % 2 ≡ k / 1 % 2 = omega arith in
    rw (w, r) h

event_leaves : (s : State) (m : List ℕ) (p : Power) → s.power ≡ p → is_held s.companion ≡ true
    → Leaves s.companion (event_of s m 4).state.companion
unfolding happening event_on
event_leaves s m On e h = rw e (tick_leaves s.companion h)
event_leaves s m Backup e h = rw e (tick_leaves s.companion h)
event_leaves s m Off e h = rw e (same s.companion)

pub held : Held
unfolding run_of
held s m zero h = refl
held s m (suc n) h =
    let s' = (event_of s m 4).state in
    let l = event_leaves s m s.power refl h in
    held s' (event_of s m 4).memory n (still_held s.companion s'.companion l h) ∙ l.time

-- one tick where a supply is present
tick_once : (s : State) (m : List ℕ) (p : Power) → s.power ≡ p → is_supplied p ≡ true
    → (event_of s m 4).state.companion ≡ tick_of s.companion
unfolding happening event_on
tick_once s m On e h = rw e refl
tick_once s m Backup e h = rw e refl
tick_once s m Off e h = absurd (false≢true h)

pub core_runs_on : CoreRunsOn
unfolding run_of tick_of
core_runs_on s m h o =
    let t : (tick_of s.companion).core ≡ (next_of s.companion.core).calendar = rw o refl in
    ap (λ (c : Desk). c.core) (tick_once s m s.power refl h) ∙ t

pub follows : Follows
unfolding run_of tick_of
follows s m h o w r =
    let e = tick_once s m s.power refl h in
    let t : (tick_of s.companion).registers.time ≡ (tick_of s.companion).core = rw (o, w, r) refl in
    ap (λ (c : Desk). c.registers.time) e ∙ (t ∙ sym (ap (λ (c : Desk). c.core) e))
