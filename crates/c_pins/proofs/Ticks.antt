-- SPDX-License-Identifier: Apache-2.0
-- The line of a byte's eighth Clock is high where the byte comes in, and a bit of the byte under way where it goes out: the
-- companion has no say in it.
use Prim.Native.Nat.{ℕ}
use mathlib.Core.Path.{◌≡◌, refl, sym, ap, subst, ◌∙◌}
use mathlib.Core.Bool.{Bool, true, false, false≢true}
use mathlib.Core.List.{List}
use lib.Dec.{eqb}
use borrow.Author.Tests.{eqb-true}
use Rattle.wire.specs.Memory.{Cells, lent}
use Rattle.wire.specs.declared.Side.TheVariants.{Memory, Companion}
use Rattle.wire.specs.declared.Phase.{Phase}
use Rattle.wire.specs.declared.Phase.TheVariants.{Idle, Slave, AddressHigh, AddressLow, Pointer, Write, Read}
use Rattle.bus.specs.declared.Power.{Power}
use Rattle.bus.specs.declared.Power.TheVariants.{On, Backup, Off}
use Rattle.fm3130_companion.specs.declared.Companion as C
use Rattle.fm3130.specs.Event.{happening, event_on, event_of}
use Rattle.fm3130.specs.Limits.{well_formed}
use Rattle.fm3130.specs.declared.State.{State}
use Rattle.fm3130.proofs.Wellformed.{event_ok}
use Rattle.c_line.specs.Line.{Pulls, pulls}
use Rattle.c_line.specs.Code.Line.{low_bit, taken_pulls, sent_pulls, pulled_at}
use Rattle.c_line.specs.Wires.{is_eighth}
use Rattle.c_line.proofs.Lines.{pulls_by_phase, slave_pulls, high_pulls, low_pulls, pointer_pulls, put_pulls, store_pulls, read_pulls}
use Rattle.c_pins.specs.Session.{TicksKeepEighth}

taken_eighth : (k : ℕ) (l h f : Bool) → eqb k 7 ≡ true → (taken_pulls k l h f).next ≡ false
taken_eighth k l h f q = subst (λ (n : ℕ). (taken_pulls n l h f).next ≡ false) (sym (eqb-true k 7 q)) at_seven
  where
    at_seven : (taken_pulls 7 l h f).next ≡ false
    at_seven = unfold taken_pulls in refl

sent_eighth : (k b f : ℕ) → eqb k 7 ≡ true → (sent_pulls k b f).next ≡ low_bit 7 b
sent_eighth k b f q = subst (λ (n : ℕ). (sent_pulls n b f).next ≡ low_bit 7 b) (sym (eqb-true k 7 q)) at_seven
  where
    at_seven : (sent_pulls 7 b f).next ≡ low_bit 7 b
    at_seven = unfold sent_pulls in refl

abbrev next_of : Pulls → Bool
next_of p = p.next

-- what is shown at an eighth Clock
abbrev shown_at : Phase → Bool
shown_at Idle = false
shown_at (Slave k b) = false
shown_at (AddressHigh k b) = false
shown_at (AddressLow h k b) = false
shown_at (Pointer k b) = false
shown_at (Write s k b) = false
shown_at (Read s k b) = low_bit 7 b

eighth_shown : (p : Phase) (m : Cells) (c : C.Companion) → is_eighth p ≡ true → pulled_at p m c ≡ shown_at p
unfolding is_eighth
eighth_shown Idle m c q = absurd (false≢true q)
eighth_shown (Slave k b) m c q = ap next_of (slave_pulls m c k b) ∙ taken_eighth k _ _ _ q
eighth_shown (AddressHigh k b) m c q = ap next_of (high_pulls m c k b) ∙ taken_eighth k _ _ _ q
eighth_shown (AddressLow h k b) m c q = ap next_of (low_pulls m c h k b) ∙ taken_eighth k _ _ _ q
eighth_shown (Pointer k b) m c q = ap next_of (pointer_pulls m c k b) ∙ taken_eighth k _ _ _ q
eighth_shown (Write Memory k b) m c q = ap next_of (put_pulls m c k b) ∙ taken_eighth k _ _ _ q
eighth_shown (Write Companion k b) m c q = ap next_of (store_pulls m c k b) ∙ taken_eighth k _ _ _ q
eighth_shown (Read s k b) m c q = ap next_of (read_pulls m c s k b) ∙ sent_eighth k b _ q

-- a tick moves no transfer
tick_phase : (w : Power) (p : Phase) (a : ℕ) (c : C.Companion) (m : List ℕ)
    → (event_of (record { power = w; phase = p; address = a; companion = c }) m 4).state.phase ≡ p
unfolding event_on happening
tick_phase On p a c m = refl
tick_phase Backup p a c m = refl
tick_phase Off p a c m = refl

eighth_pulls : (s : State) (m : List ℕ) → well_formed s ≡ true → is_eighth s.phase ≡ true → pulls s m ≡ shown_at s.phase
eighth_pulls s m w q =
    ap next_of (pulls_by_phase s m w) ∙ eighth_shown s.phase (lent m s.address) s.companion q

pub ticks_keep_eighth : TicksKeepEighth
ticks_keep_eighth s m w l =
    let o = event_ok s m 4 w l in
    let e : (event_of s m 4).state.phase ≡ s.phase = tick_phase s.power s.phase s.address s.companion m in
    record {
      line =
          λ q. eighth_pulls (event_of s m 4).state (event_of s m 4).memory o.state (ap is_eighth e ∙ q)
          ∙ ap shown_at e ∙ sym (eighth_pulls s m w q);
      phase = e;
    }
