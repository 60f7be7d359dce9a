-- SPDX-License-Identifier: Apache-2.0
-- The wire's level at a Clock is bit 0 of 01's answer; a level that the device hides does no harm; and nothing is done once
-- the bus was left.
use Prim.Native.Nat.{ℕ}
use mathlib.Core.Path.{◌≡◌, refl, sym, ap, ◌∙◌}
use mathlib.Core.Bool.{Bool, true, false, cond, not}
use mathlib.Core.List.{List, [], ◌∷◌}
use lib.Dec.{eqb}
use borrow.Author.Tests.{eqb-true}
use Rattle.wire.specs.Machine.{lined}
use Rattle.wire.specs.Memory.{lent}
use Rattle.wire.specs.declared.Phase.{Phase}
use Rattle.wire.proofs.Low.{clocked_low}
use Rattle.wire.proofs.Tests.{by_test}
use Rattle.bus.specs.declared.Power.{Power}
use Rattle.bus.specs.declared.Power.TheVariants.{On, Backup, Off}
use Rattle.fm3130_companion.specs.declared.Companion.{Companion}
use Rattle.fm3130.specs.Chip.{fm3130, Done}
use Rattle.fm3130.specs.Event.{happening, event_on, event_of}
use Rattle.fm3130.specs.declared.State.{State}
use Rattle.c_line.specs.Line.{pulls}
use Rattle.c_line.proofs.Lines.{pulled_line}
use Rattle.c_line.proofs.Wires.{hidden_level}
use Rattle.fm3130_list.specs.Run.{following, answer_to, run_of}
use Rattle.pins_levels.specs.Look.{stayed, driven_of}
use Rattle.pins_levels.specs.Session.{saw, told}
use Rattle.pins_levels.specs.declared.Token.{Token}
use Rattle.pins_levels.specs.declared.Due.{Due}
use Rattle.pins_levels.proofs.Steps.{driven_left, look_left, hand_left}
use Rattle.c_pins.specs.Entry.{Outcome, outcome, settle_of, eighth_in}
use Rattle.c_pins.specs.Session.{on_token, step_on, WireIsLine, shown_as, masked, Hidden, StaysLeft}
use Rattle.c_pins.proofs.Ways.{settle_left}

not_not : (b : Bool) → not (not b) ≡ b
not_not true = refl
not_not false = refl

low_line : (w : Power) (p : Phase) (a : ℕ) (c : Companion) (m : List ℕ)
    → (event_of (record { power = w; phase = p; address = a; companion = c }) m 2).line ≡ false
unfolding event_on happening lined
low_line On p a c m = clocked_low fm3130 p (lent m a) c
low_line Backup p a c m = refl
low_line Off p a c m = refl

pub wire_is_line : WireIsLine
unfolding pulls
wire_is_line s m true = sym (ap not (pulled_line (event_of s m 3)) ∙ not_not (event_of s m 3).line)
wire_is_line s m false = low_line s.power s.phase s.address s.companion m

shown_event : (s : State) (m : List ℕ) (e : ℕ) → event_of s m (shown_as (pulls s m) e) ≡ event_of s m e
shown_event s m e =
    by_test (eqb e 3)
    (λ q. let z = eqb-true e 3 q in
    ap (λ (b : Bool). event_of s m (cond b (cond (pulls s m) 2 3) e)) q ∙ by (pulls s m) refl ∙ ap (event_of s m) (sym z))
    (λ q. ap (λ (b : Bool). event_of s m (cond b (cond (pulls s m) 2 3) e)) q)
  where
    by : (p : Bool) → pulls s m ≡ p → event_of s m (cond (pulls s m) 2 3) ≡ event_of s m 3
    by true h = ap (λ (b : Bool). event_of s m (cond b 2 3)) h ∙ hidden_level s m h
    by false h = ap (λ (b : Bool). event_of s m (cond b 2 3)) h

pub hidden : Hidden
unfolding run_of masked
hidden s m [] = refl
hidden s m (e ∷ es) =
    ap (λ (d : Done). following (answer_to d ∷ []) (run_of d.state d.memory (masked (event_of s m e).state (event_of s m e).memory es)))
    (shown_event s m e)
    ∙ ap (following (answer_to (event_of s m e) ∷ [])) (hidden (event_of s m e).state (event_of s m e).memory es)

pub stays_left : StaysLeft
unfolding step_on
stays_left o (saw v a b) h =
    let t = o.token in
    ap (λ (d : Due). let x = driven_of t.pulling d.token a in let r = settle_of o.image o.memory (on_token x d) in
    outcome (driven_of x.pulling r.token b) r.image r.memory) (look_left t v h)
    ∙ ap (λ (x : Token). let r = settle_of o.image o.memory (on_token x (stayed t)) in
    outcome (driven_of x.pulling r.token b) r.image r.memory) (driven_left t.pulling t a h)
    ∙ ap (λ (r : Outcome). outcome (driven_of t.pulling r.token b) r.image r.memory)
    (sym (settle_left o.image o.memory (stayed t) h))
    ∙ ap (λ (x : Token). outcome x o.image o.memory) (driven_left t.pulling t b h)
stays_left o (told e b) h =
    let t = o.token in
    ap (λ (d : Due). let r = settle_of o.image o.memory d in
    outcome (driven_of d.token.pulling r.token b) r.image r.memory) (hand_left t e (eighth_in o.image) h)
    ∙ ap (λ (r : Outcome). outcome (driven_of t.pulling r.token b) r.image r.memory)
    (sym (settle_left o.image o.memory (stayed t) h))
    ∙ ap (λ (x : Token). outcome x o.image o.memory) (driven_left t.pulling t b h)
