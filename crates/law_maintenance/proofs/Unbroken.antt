-- SPDX-License-Identifier: Apache-2.0
-- No failure inside the nine Clocks of a byte that was wholly read: while a byte of the memory goes out, the bus does not
-- fail, or the byte is dropped.
use Prim.Native.Nat.{ℕ, zero, suc}
use mathlib.Core.Path.{◌≡◌, refl, ◌∙◌, subst}
use mathlib.Core.Bool.{Bool, true, false, cond}
use mathlib.Core.List.{List, [], ◌∷◌}
use native.Mathlib.Omega.{arith}
use lib.Dec.{eqb}
use borrow.Author.Tests.{ne_eqb}
use Rattle.wire.specs.Memory.{lent}
use Rattle.wire.specs.Machine.{start, stop, clock, lined}
use Rattle.wire.specs.declared.Side.TheVariants.{Memory}
use Rattle.wire.specs.declared.Phase.{Phase}
use Rattle.wire.specs.declared.Phase.TheVariants.{Read}
use Rattle.bus_limits.specs.Limits.{is_idle, power_within}
use Rattle.bus.specs.declared.Power.{Power}
use Rattle.bus.specs.declared.Power.TheVariants.{On, Backup, Off}
use Rattle.fm3130.specs.Event.{Happening, on_wire, beat, lost, gone, returned, event_on, event_of}
use Rattle.fm3130.specs.declared.State.{State}
use Rattle.fm3130_list.specs.Run.{run_of}
use Rattle.lamps.specs.History.{Moment, History, moment, happened, left, past_of}
use Rattle.lamps.specs.Log.{clocks_of, refused_in, clocks_done, due_at, pulls, is_clock, gave_at, gave_what, mark_from}
use Rattle.lamps_eight.specs.Lit.{is_failure, none}
use Rattle.lamps.specs.Step.{begun, step_of}
use Rattle.lamps.specs.Statement.{answered_by}
use Rattle.law_maintenance.specs.Unbroken.{added_to, back_to, Unbroken}
use Rattle.lamps_eight.specs.declared.Mark.{Mark}
use Rattle.lamps_eight.specs.declared.Mark.TheVariants.{Ticked, Other}
use Rattle.lamps.specs.declared.Due.{Due}
use Rattle.lamps.specs.declared.Proving.{Proving}
use Rattle.lamps.proofs.Proven.{Stands, stands_begun, stands_next}
use Rattle.law_maintenance.proofs.Under.{no, At, at_map, idle_at, clock_at, along}
use Rattle.law_maintenance.proofs.Ninth.{ninth_of_lem}

-- no failure back to the byte's first Clock
abbrev Sound : (ℕ → List Mark) → ℕ → ℕ → Type 0
Sound f k b = none is_failure (f k) ≡ true

-- a line that is no Clock and no failure
sound_on : (y : Happening) (x : Mark) (f : ℕ → List Mark) → is_clock y ≡ false → is_failure x ≡ false
    → (k b : ℕ) → Sound f k b → Sound (added_to y x f) k b
sound_on y x f c e zero b h = refl
sound_on y x f c e (suc k) b h = rw (c, e) h

module _ (x : Moment) (K : ℕ) (D : Due) (U : Bool) (a v : ℕ) (f : ℕ → List Mark) where
  abbrev s : State
  s = x.state

  abbrev Added : Happening → ℕ → ℕ → Type 0
  Added y = Sound (added_to y (mark_from y K D U a v) f)

  sound_next : (p : Power) (y : Happening) → power_within p s.phase ≡ true
      → ((k b : ℕ) → s.phase ≡ Read Memory k b → K ≡ k) → At (Sound f) s.phase
      → At (Added y) (event_on p y s x.memory).state.phase
  unfolding event_on lined power_within
  sound_next On (on_wire start) w e h = tt
  sound_next On (on_wire stop) w e h = tt
  sound_next On (on_wire (clock d)) w e h =
      clock_at (Added (on_wire (clock d))) refl s.phase (lent x.memory s.address) s.companion d
      (λ k b q l.
      let n : eqb K 8 ≡ false = let j = e k b q in ne_eqb K 8 (λ z. omega arith) in
      let g : Sound f k b = subst (At (Sound f)) q h in
      rw n g)
  sound_next On (beat t') w e h = at_map (Sound f) (Added (beat t')) (sound_on (beat t') Ticked f refl refl) s.phase
      h
  sound_next On lost w e h = tt
  sound_next On gone w e h = tt
  sound_next On returned w e h = at_map (Sound f) (Added returned) (sound_on returned Other f refl refl) s.phase h
  sound_next Backup (on_wire y) w e h = idle_at (Added (on_wire y)) s.phase w
  sound_next Backup (beat t') w e h = idle_at (Added (beat t')) s.phase w
  sound_next Backup lost w e h = idle_at (Added lost) s.phase w
  sound_next Backup gone w e h = tt
  sound_next Backup returned w e h = idle_at (Added returned) s.phase w
  sound_next Off (on_wire y) w e h = idle_at (Added (on_wire y)) s.phase w
  sound_next Off (beat t') w e h = idle_at (Added (beat t')) s.phase w
  sound_next Off lost w e h = idle_at (Added lost) s.phase w
  sound_next Off gone w e h = idle_at (Added gone) s.phase w
  sound_next Off returned w e h = idle_at (Added returned) s.phase w

-- while a byte of the memory goes out, none is refused
not_refused : (r : Bool) (p : Phase) → (r ≡ true → is_idle p ≡ true) → (k b : ℕ) → p ≡ Read Memory k b → cond r 8 (clocks_of p) ≡ k
not_refused true p f k b q = no (rw q at (f refl))
not_refused false p f k b q = rw q

sound_step : (r : Proving) (x : Moment) (h : History) → Stands r x.state h → At (Sound (back_to h)) x.state.phase
    → At (Sound (back_to (x ∷ h))) (left x).state.phase
sound_step r x h g u =
    sound_next x (clocks_done x h) (due_at x h) (pulls x) (gave_at h) (gave_what h) (back_to h) x.state.power (happened x)
    g.follows.awake
    (not_refused (refused_in h) x.state.phase (λ e. g.follows.waiting (g.follows.refused ∙ e))) u

-- the record stands, and the byte under way is sound
record Here (s : State) (m : List ℕ) (h : History) : Type 0 where
  pub proving : Proving
  pub stands : Stands proving s h
  pub sound : At (Sound (back_to h)) s.phase

here_next : (s : State) (m : List ℕ) (e : ℕ) (h : History) → Here s m h
    → Here (event_of s m e).state (event_of s m e).memory (moment s m e ∷ h)
here_next s m e h g =
    record {
      proving = step_of g.proving s e (answered_by (event_of s m e));
      stands = stands_next g.proving s m e h g.stands;
      sound = sound_step g.proving (moment s m e) h g.stands g.sound;
    }

pub unbroken : Unbroken
unbroken s m es e a v i q =
    let g = along Here here_next s m es [] (record { proving = begun; stands = stands_begun s i; sound = rw i tt }) in
    let x = moment (run_of s m es).state (run_of s m es).memory e in
    (ninth_of_lem (Sound (back_to (past_of [] s m es))) x (past_of [] s m es) a v q g.sound).here
