-- SPDX-License-Identifier: Apache-2.0
-- The events that are no Clock, by the number of the supplies that the code tests; and that they touch no memory and leave
-- the line high.
use Prim.Native.Nat.{ℕ, ◌+◌, ◌*◌, ◌/◌}
use mathlib.Core.Path.{◌≡◌, refl}
use mathlib.Core.Bool.{Bool, true, cond, false≢true}
use lib.Dec.{eqb}
use mathlib.Core.List.{List, []}
use native.Mathlib.Omega.{arith}
use Rattle.wire.specs.Machine.{Line, start, stop, clock, lined}
use Rattle.wire.specs.declared.Phase.{Phase}
use Rattle.wire.specs.declared.Phase.TheVariants.{Idle, Slave, AddressHigh, AddressLow, Pointer, Write, Read}
use Rattle.bus_limits.specs.Limits.{is_idle, power_within}
use Rattle.bus_image.specs.Layout.{power_number}
use Rattle.bus.specs.declared.Power.{Power}
use Rattle.bus.specs.declared.Power.TheVariants.{On, Backup, Off}
use Rattle.calendar.specs.declared.Rolled.{Rolled}
use Rattle.calendar.specs.declared.Rolled.TheVariants.{Nothing}
use Rattle.fm3130_companion.specs.Part.{rolled_of}
use Rattle.fm3130.specs.Answer.{pin_shown, answer_byte}
use Rattle.fm3130.specs.Code.Bus.{clocked_with}
use Rattle.fm3130.specs.Chip.{Done}
use Rattle.fm3130.specs.Limits.{well_formed}
use Rattle.fm3130.specs.Event.{Happening, on_wire, beat, second, lost, gone, returned, happening, event_on, event_of, rolled_by, rolled_in}
use Rattle.fm3130.specs.declared.State.{State}
use Rattle.fm3130_companion.specs.Part.{pin_of}
use Rattle.fm3130.proofs.Cases.{still, with_phase, ticked, backed_up, dark, restored, powered, happening_clock, idle_clock}
use Rattle.fm3130.proofs.Entry.{limits_of}
use Rattle.fm3130_image.specs.Image.{image_of}
use Rattle.place_clock.specs.Code.Clocking.{Left}
use Rattle.place_event.specs.Code.Answering.{Answered}
use Rattle.place_event.specs.Code.Quiet.{quiet_of}

module _ (s : State) where
  -- while main power is present, and while it is not
  module _ (p : Power) (q : s.power ≡ p) where
    start_on : power_number p ≡ 0 → (event_on p (on_wire start) s []).state ≡ with_phase s (Slave 0 0)
    unfolding event_on lined
    start_on = by p q
      where
        by : (p : Power) → s.power ≡ p → power_number p ≡ 0 → (event_on p (on_wire start) s []).state ≡ with_phase s (Slave 0 0)
        by On q h = rw q
        by Backup q h = absurd (omega arith)
        by Off q h = absurd (omega arith)

    stop_on : power_number p ≡ 0 → (event_on p (on_wire stop) s []).state ≡ with_phase s Idle
    unfolding event_on lined
    stop_on = by p q
      where
        by : (p : Power) → s.power ≡ p → power_number p ≡ 0 → (event_on p (on_wire stop) s []).state ≡ with_phase s Idle
        by On q h = rw q
        by Backup q h = absurd (omega arith)
        by Off q h = absurd (omega arith)

    line_off : (x : Line) → (power_number p ≡ 0 → ⊥) → (event_on p (on_wire x) s []).state ≡ s
    unfolding event_on
    line_off = by p
      where
        by : (p : Power) (x : Line) → (power_number p ≡ 0 → ⊥) → (event_on p (on_wire x) s []).state ≡ s
        by On x h = absurd (h refl)
        by Backup x h = refl
        by Off x h = refl

    lost_on : power_number p ≡ 0 → (event_on p lost s []).state ≡ backed_up s
    unfolding event_on
    lost_on = by p
      where
        by : (p : Power) → power_number p ≡ 0 → (event_on p lost s []).state ≡ backed_up s
        by On h = refl
        by Backup h = absurd (omega arith)
        by Off h = absurd (omega arith)

    lost_off : (power_number p ≡ 0 → ⊥) → (event_on p lost s []).state ≡ s
    unfolding event_on
    lost_off = by p
      where
        by : (p : Power) → (power_number p ≡ 0 → ⊥) → (event_on p lost s []).state ≡ s
        by On h = absurd (h refl)
        by Backup h = refl
        by Off h = refl

    gone_supplied : (power_number p ≡ 2 → ⊥) → (event_on p gone s []).state ≡ dark
    unfolding event_on
    gone_supplied = by p
      where
        by : (p : Power) → (power_number p ≡ 2 → ⊥) → (event_on p gone s []).state ≡ dark
        by On h = refl
        by Backup h = refl
        by Off h = absurd (h refl)

    gone_off : power_number p ≡ 2 → (event_on p gone s []).state ≡ s
    unfolding event_on
    gone_off = by p
      where
        by : (p : Power) → power_number p ≡ 2 → (event_on p gone s []).state ≡ s
        by On h = absurd (omega arith)
        by Backup h = absurd (omega arith)
        by Off h = refl

    returned_backup : power_number p ≡ 1 → (event_on p returned s []).state ≡ restored s
    unfolding event_on
    returned_backup = by p
      where
        by : (p : Power) → power_number p ≡ 1 → (event_on p returned s []).state ≡ restored s
        by On h = absurd (omega arith)
        by Backup h = refl
        by Off h = absurd (omega arith)

    returned_else : (power_number p ≡ 1 → ⊥) → (event_on p returned s []).state ≡ powered s
    unfolding event_on
    returned_else = by p q
      where
        by : (p : Power) → s.power ≡ p → (power_number p ≡ 1 → ⊥) → (event_on p returned s []).state ≡ powered s
        by On q h = rw (← q)
        by Backup q h = absurd (h refl)
        by Off q h = refl

    second_supplied : (power_number p ≡ 2 → ⊥) → (event_on p second s []).state ≡ ticked s
    unfolding event_on
    second_supplied = by p q
      where
        by : (p : Power) → s.power ≡ p → (power_number p ≡ 2 → ⊥) → (event_on p second s []).state ≡ ticked s
        by On q h = rw q
        by Backup q h = refl
        by Off q h = absurd (h refl)

    second_off : power_number p ≡ 2 → (event_on p second s []).state ≡ s
    unfolding event_on
    second_off = by p
      where
        by : (p : Power) → power_number p ≡ 2 → (event_on p second s []).state ≡ s
        by On h = absurd (omega arith)
        by Backup h = absurd (omega arith)
        by Off h = refl

  pub start_heard : power_number s.power ≡ 0 → quiet_of (on_wire start) s ≡ with_phase s (Slave 0 0)
  start_heard = start_on s.power refl

  pub stop_heard : power_number s.power ≡ 0 → quiet_of (on_wire stop) s ≡ with_phase s Idle
  stop_heard = stop_on s.power refl

  pub line_unheard : (x : Line) → (power_number s.power ≡ 0 → ⊥) → quiet_of (on_wire x) s ≡ s
  line_unheard = line_off s.power refl

  pub loss_heard : power_number s.power ≡ 0 → quiet_of lost s ≡ backed_up s
  loss_heard = lost_on s.power refl

  pub loss_unheard : (power_number s.power ≡ 0 → ⊥) → quiet_of lost s ≡ s
  loss_unheard = lost_off s.power refl

  pub all_lost : (power_number s.power ≡ 2 → ⊥) → quiet_of gone s ≡ dark
  all_lost = gone_supplied s.power refl

  pub all_lost_before : power_number s.power ≡ 2 → quiet_of gone s ≡ s
  all_lost_before = gone_off s.power refl

  pub back_after_backup : power_number s.power ≡ 1 → quiet_of returned s ≡ restored s
  back_after_backup = returned_backup s.power refl

  pub back_else : (power_number s.power ≡ 1 → ⊥) → quiet_of returned s ≡ powered s
  back_else = returned_else s.power refl

  pub second_heard : (power_number s.power ≡ 2 → ⊥) → quiet_of second s ≡ ticked s
  second_heard = second_supplied s.power refl

  pub second_unheard : power_number s.power ≡ 2 → quiet_of second s ≡ s
  second_unheard = second_off s.power refl

  -- the field that a tick says
  rolled_by_lem : (p : Power) → s.power ≡ p → (power_number p ≡ 2 → ⊥) → rolled_by second s ≡ rolled_of s.companion
  unfolding rolled_by
  rolled_by_lem On q h = rw q
  rolled_by_lem Backup q h = rw q
  rolled_by_lem Off q h = absurd (h refl)

  pub rolled_heard : (power_number s.power ≡ 2 → ⊥) → rolled_by second s ≡ rolled_of s.companion
  rolled_heard = rolled_by_lem s.power refl

  rolled_without : (p : Power) → s.power ≡ p → power_number p ≡ 2 → rolled_by second s ≡ Nothing
  unfolding rolled_by
  rolled_without On q h = absurd (omega arith)
  rolled_without Backup q h = absurd (omega arith)
  rolled_without Off q h = rw q

  pub rolled_unheard : power_number s.power ≡ 2 → rolled_by second s ≡ Nothing
  rolled_unheard = rolled_without s.power refl

  -- what the pin shows
  shown_by_lem : (p : Power) → (power_number p ≡ 2 → ⊥) → pin_shown p s.companion ≡ pin_of s.companion
  shown_by_lem On h = refl
  shown_by_lem Backup h = refl
  shown_by_lem Off h = absurd (h refl)

  pub shown_supplied : (power_number s.power ≡ 2 → ⊥) → pin_shown s.power s.companion ≡ pin_of s.companion
  shown_supplied = shown_by_lem s.power

  shown_without : (p : Power) → power_number p ≡ 2 → pin_shown p s.companion ≡ 0
  shown_without On h = absurd (omega arith)
  shown_without Backup h = absurd (omega arith)
  shown_without Off h = refl

  pub shown_off : power_number s.power ≡ 2 → pin_shown s.power s.companion ≡ 0
  shown_off = shown_without s.power

-- no Clock
abbrev pub IsQuiet : Happening → Type 0
IsQuiet (on_wire start) = Unit {0}
IsQuiet (on_wire stop) = Unit {0}
IsQuiet (on_wire (clock d)) = ⊥
IsQuiet (beat t') = Unit {0}
IsQuiet lost = Unit {0}
IsQuiet gone = Unit {0}
IsQuiet returned = Unit {0}

still_on : (p : Power) (x : Happening) (s : State) (m : List ℕ) → IsQuiet x
    → event_on p x s m ≡ still (event_on p x s []).state m
unfolding event_on lined
still_on On (on_wire start) s m h = refl
still_on On (on_wire stop) s m h = refl
still_on On (on_wire (clock d)) s m h = absurd h
still_on On (beat t') s m h = refl
still_on On lost s m h = refl
still_on On gone s m h = refl
still_on On returned s m h = refl
still_on Backup (on_wire start) s m h = refl
still_on Backup (on_wire stop) s m h = refl
still_on Backup (on_wire (clock d)) s m h = absurd h
still_on Backup (beat t') s m h = refl
still_on Backup lost s m h = refl
still_on Backup gone s m h = refl
still_on Backup returned s m h = refl
still_on Off (on_wire start) s m h = refl
still_on Off (on_wire stop) s m h = refl
still_on Off (on_wire (clock d)) s m h = absurd h
still_on Off (beat t') s m h = refl
still_on Off lost s m h = refl
still_on Off gone s m h = refl
still_on Off returned s m h = refl

pub quiet_left : (s : State) (m : List ℕ) (e : ℕ) (x : Happening) (i' : List ℕ) → happening e ≡ x → IsQuiet x
    → i' ≡ image_of (quiet_of x s) → Left (event_of s m e) true i' m
quiet_left s m e x i' h n g =
    rw (h, still_on s.power x s m n) (record { line = refl; image = g; memory = refl })

-- the answer byte, by what the pin shows after the event
answer_by : (d : Done) (i' : List ℕ) (p r : ℕ) (l : Bool) → i' ≡ image_of d.state → l ≡ d.line
    → ((s : State) → i' ≡ image_of s → p ≡ 2 * pin_shown s.power s.companion) → r ≡ p + cond l 1 0
    → r ≡ answer_byte d.state d.line
answer_by d i' p r l g q h a = rw (a, h d.state g, q) refl

-- no transfer
idle_of : (p : Phase) → is_idle p ≡ true → p ≡ Idle
idle_of Idle h = refl
idle_of (Slave k b) h = absurd (false≢true h)
idle_of (AddressHigh k b) h = absurd (false≢true h)
idle_of (AddressLow f k b) h = absurd (false≢true h)
idle_of (Pointer k b) h = absurd (false≢true h)
idle_of (Write x k b) h = absurd (false≢true h)
idle_of (Read x k b) h = absurd (false≢true h)

-- a Clock: without main power there is no transfer, so it is not heard
clock_by : (p : Power) (s : State) (m : List ℕ) (d : Bool) → s.power ≡ p → power_within p s.phase ≡ true
    → event_on p (on_wire (clock d)) s m ≡ clocked_with s m s.phase d
unfolding event_on lined power_within
clock_by On s m d q w = rw q
clock_by Backup s m d q w = idle_clock s m d (idle_of s.phase w)
clock_by Off s m d q w = idle_clock s m d (idle_of s.phase w)

pub answered_clock : (s : State) (m : List ℕ) (e : ℕ) (i' m' : List ℕ) (p r : ℕ) {l : Bool} → well_formed s ≡ true → e / 2 ≡ 1
    → Left (clocked_with s m s.phase (eqb e 3)) l i' m'
    → ((s : State) → i' ≡ image_of s → p ≡ 2 * pin_shown s.power s.companion) → r ≡ p + cond l 1 0
    → Answered (event_of s m e) r i' m'
answered_clock s m e i' m' p r w h k g a =
    let z = clock_by s.power s m (eqb e 3) refl (limits_of s w).power in
    rw (happening_clock e h, z)
    (record {
      answer = answer_by (clocked_with s m s.phase (eqb e 3)) i' p r _ k.image k.line g a;
      image = k.image;
      memory = k.memory;
    })

pub answered_quiet : (d : Done) (i' m : List ℕ) (p r : ℕ) → Left d true i' m
    → ((s : State) → i' ≡ image_of s → p ≡ 2 * pin_shown s.power s.companion) → r ≡ p + cond true 1 0
    → Answered d r i' m
answered_quiet d i' m p r k g a =
    record { answer = answer_by d i' p r true k.image k.line g a; image = k.image; memory = k.memory }

-- a tick
pub happening_second : (e : ℕ) → e ≡ 4 → happening e ≡ second
unfolding happening
happening_second e h = rw h

pub told_second : (s : State) (e : ℕ) (r : Rolled) → e ≡ 4 → r ≡ rolled_by second s → r ≡ rolled_in s e
told_second s e r h q = rw (happening_second e h) q
