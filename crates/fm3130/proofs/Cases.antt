-- SPDX-License-Identifier: Apache-2.0
-- An event by what is known of it: a Clock outside a transfer, the event bytes of a Clock and of the return of main power, a
-- tick with a supply and without, an event that is no tick.
use Prim.Native.Nat.{ℕ, ◌/◌, ◌≤◌}
use mathlib.Core.Path.{◌≡◌, refl, sym, ◌∙◌}
use mathlib.Core.Bool.{Bool, true, false, true≢false, false≢true}
use mathlib.Core.List.{List}
use native.Mathlib.Omega.{arith}
use lib.Dec.{eqb}
use borrow.Author.Tests.{eqb-true, eqb-false}
use Rattle.bits.proofs.Cases.{by_cond}
use Rattle.wire.specs.Memory.{Cells, lent}
use Rattle.wire.specs.Machine.{Line, clock, masters_line, out, clocked}
use Rattle.wire.specs.declared.Phase.{Phase}
use Rattle.wire.specs.declared.Phase.TheVariants.{Idle}
use Rattle.calendar.specs.declared.Rolled.TheVariants.{Nothing}
use Rattle.bus.specs.declared.Power.{Power}
use Rattle.bus.specs.declared.Power.TheVariants.{On, Backup, Off}
use Rattle.bus.specs.Event.{resting}
use Rattle.bus.specs.Event as bus
use Rattle.bus.specs.Code.Outcome as outcome
use Rattle.bus.specs.declared.Beat.{Beat}
use Rattle.bus.specs.declared.Beat.TheVariants.{Second}
use Rattle.fm3130_companion.specs.Part.{tick_of, backed_of, lost_of, returned_of}
use Rattle.fm3130_companion.specs.declared.Companion.{Companion}
use Rattle.fm3130.specs.Chip.{fm3130, bus_of, state_with, Done}
use Rattle.fm3130.specs.Code.Bus.{with_companion, clocked_with}
use Rattle.fm3130.specs.Power.{is_supplied}
use Rattle.fm3130.specs.Event.{Happening, on_wire, beat, second, returned, happening, event_on, rolled_by, rolled_in}
use Rattle.fm3130.specs.declared.State.{State}

-- an event that touches no memory and leaves the line high; one that is not heard; a tick that counts
abbrev pub still : State → List ℕ → Done
still s m = record { state = s; memory = m; line = true }

abbrev pub unheard : State → List ℕ → Line → Done
unheard s m x = record { state = s; memory = m; line = masters_line x }

abbrev pub ticked : State → State
ticked s = with_companion s (tick_of s.companion)

-- a state in another phase
abbrev pub with_phase : State → Phase → State
with_phase s p = state_with (outcome.with_phase (bus_of s) p) s.companion

-- the state after main power was lost with backup; with both supplies gone; after main power returned to backup, to
-- none
abbrev pub backed_up : State → State
backed_up s = state_with (resting Backup) (backed_of s.companion)

abbrev pub dark : State
dark = state_with (resting Off) lost_of

abbrev pub restored : State → State
restored s = state_with (bus.powered (bus_of s)) (returned_of s.companion)

abbrev pub powered : State → State
powered s = state_with (bus.powered (bus_of s)) s.companion

-- a Clock outside a transfer leaves the state as it is
idle_clocked : (p : Phase) (m : Cells) (c : Companion) (d : Bool) → p ≡ Idle → clocked fm3130 p m c d ≡ out fm3130 p m c d
unfolding clocked
idle_clocked p m c d e = rw e

pub idle_clock : (s : State) (m : List ℕ) (high : Bool) → s.phase ≡ Idle
    → unheard s m (clock high) ≡ clocked_with s m s.phase high
idle_clock s m high e = rw (idle_clocked s.phase (lent m s.address) s.companion high e)

-- an event byte of 2 or 3 is a Clock, with the master's line high at 3
clock_by : (e : ℕ) (t : Bool) → eqb e 3 ≡ t → e / 2 ≡ 1 → happening e ≡ on_wire (clock t)
unfolding happening
clock_by e true q h = rw (eqb-true e 3 q)
clock_by e false q h =
    let n = eqb-false e 3 q in let two : e ≡ 2 = omega arith in rw two

pub happening_clock : (e : ℕ) → e / 2 ≡ 1 → happening e ≡ on_wire (clock (eqb e 3))
happening_clock e h = clock_by e (eqb e 3) refl h

-- the last of the eight
pub happening_returned : (e : ℕ) → e ≤ 7 → (e / 2 ≡ 1 → ⊥) → (e ≡ 0 → ⊥) → (e ≡ 1 → ⊥) → (e ≡ 4 → ⊥) → (e ≡ 5 → ⊥)
    → (e ≡ 6 → ⊥) → happening e ≡ returned
unfolding happening
happening_returned e h k a b c d f = let seven : e ≡ 7 = omega arith in rw seven

-- a tick with a supply goes to the companion, one without changes nothing
tick_by : (p : Power) (t : Beat) (s : State) (m : List ℕ) → is_supplied p ≡ true → event_on p (beat t) s m ≡ still
    (ticked s) m
unfolding event_on
tick_by On t s m h = refl
tick_by Backup t s m h = refl
tick_by Off t s m h = absurd (false≢true h)

pub tick_supplied : (s : State) (m : List ℕ) → is_supplied s.power ≡ true → event_on s.power second s m ≡ still (ticked s) m
tick_supplied s m h = tick_by s.power Second s m h

tick_without : (p : Power) (t : Beat) (s : State) (m : List ℕ) → is_supplied p ≡ false → event_on p (beat t) s m ≡ still
    s m
unfolding event_on
tick_without On t s m h = absurd (true≢false h)
tick_without Backup t s m h = absurd (true≢false h)
tick_without Off t s m h = refl

pub tick_unsupplied : (s : State) (m : List ℕ) → is_supplied s.power ≡ false → event_on s.power second s m ≡ still s m
tick_unsupplied s m h = tick_without s.power Second s m h

-- an event that is no tick says nothing
pub no_tick : (s : State) (e : ℕ) → eqb e 4 ≡ false → rolled_in s e ≡ Nothing
unfolding happening rolled_by
no_tick s e h =
    let Q : Happening → Type 0 = λ x. rolled_by x s ≡ Nothing in
    by_cond Q (eqb e 0) (λ q. refl)
    (λ q. by_cond Q (eqb e 1) (λ q. refl)
    (λ q. by_cond Q (eqb e 2) (λ q. refl)
    (λ q. by_cond Q (eqb e 3) (λ q. refl)
    (λ q. by_cond Q (eqb e 4) (λ q. absurd (true≢false (sym q ∙ h)))
    (λ q. by_cond Q (eqb e 5) (λ q. refl)
    (λ q. by_cond Q (eqb e 6) (λ q. refl) (λ q. by_cond Q (eqb e 7) (λ q. refl) (λ q. refl))))))))
