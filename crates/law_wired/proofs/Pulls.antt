-- SPDX-License-Identifier: Apache-2.0
-- Of two devices one is idle, or both are in the same slave byte, before its acknowledge (`Clear`); every event
-- keeps that, since no slave byte names both.
use Prim.Native.Nat.{ℕ, ◌+◌, ◌<◌}
use mathlib.Core.Path.{◌≡◌, refl, sym, subst}
use mathlib.Core.Bool.{Bool, false}
use mathlib.Core.List.{List, [], ◌∷◌}
use native.Mathlib.Omega.{arith}
use Rattle.wire.specs.Bits.{pushed, Place, first, within, last, ack, place_at}
use Rattle.wire.specs.Slave.{answers}
use Rattle.wire.specs.Clock.{received_at, kept}
use Rattle.wire.specs.Kinds.{slave_byte}
use Rattle.wire.specs.Machine.{Parts, Line, start, stop, clock, line, State, clocked, lined}
use Rattle.wire.specs.Machine.{masters_line}
use Rattle.wire.specs.declared.Side.{Side}
use Rattle.wire.specs.declared.Side.TheVariants.{Memory, Companion}
use Rattle.wire.specs.declared.Named.{Named}
use Rattle.wire.specs.declared.Named.TheVariants.{Nobody, Reads, Writes}
use Rattle.wire.specs.declared.Phase.{Phase}
use Rattle.wire.specs.declared.Phase.TheVariants.{Idle, Slave}
use Rattle.law_merging.specs.Merge.{calling, onward}
use Rattle.law_merging.specs.Party.{to, foreign, Same, MayName}
use Rattle.law_merging.specs.Apart.{run}
use Rattle.law_merging.proofs.Reader.{Early, reader_early, AtNinth, early_place}
use Rattle.law_wired.specs.Wire.{Heard, nothing, this, told, Bench, Lawful, Word, says, ticks, Devices, step_wire}
use Rattle.law_wired.specs.Wire.{run_wire}
use Rattle.law_wired.specs.Pulls.{OnePulls}

pub data Clear : Phase → Phase → Type 0 where
  this_idle : {p : Phase} → Clear Idle p
  that_idle : {p : Phase} → Clear p Idle
  both_called : (k b : ℕ) → k < 8 → Clear (Slave k b) (Slave k b)

same_self : (x : Side) → Same x x
same_self Memory = tt
same_self Companion = tt

silent : (n : Named) (p : Phase) (b : ℕ) → MayName foreign n → Clear p (kept (answers n) (Slave 8 b))
unfolding answers kept
silent Nobody p b h = that_idle
silent (Reads s) p b h = absurd h
silent (Writes s) p b h = absurd h

-- at the eighth clock of a slave byte
called : (n m : Named) (b : ℕ) → ((x : Side) → MayName (to x) n → MayName foreign m)
    → Clear (kept (answers n) (Slave 8 b)) (kept (answers m) (Slave 8 b))
unfolding answers kept
called Nobody m b never = this_idle
called (Reads s) m b never = silent m (Slave 8 b) b (never s (same_self s))
called (Writes s) m b never = silent m (Slave 8 b) b (never s (same_self s))

module _ (P Q : Parts) (never : (x : Side) (b : ℕ) → MayName (to x) (P.names b) → MayName foreign (Q.names b))
  where
    slave_clear : (l : Place) (k b : ℕ) (d : Bool) → Early (onward l k b d) → (AtNinth l → ⊥)
        → Clear (received_at l (slave_byte P.names) tt k b d).phase (received_at l (slave_byte Q.names) tt k b
        d).phase
    unfolding received_at
    slave_clear first k b d h n = both_called (k + 1) (pushed b d) h
    slave_clear within k b d h n = both_called (k + 1) (pushed b d) h
    slave_clear last k b d h n = called (P.names (pushed b d)) (Q.names (pushed b d)) (pushed b d) (λ x e. never x
        (pushed b d) e)
    slave_clear ack k b d h n = absurd (n tt)

    clock_clear : (p r : Phase) (m : P.Cells) (c : P.Desk) (n : Q.Cells) (g : Q.Desk) (d : Bool) → Clear p r
        → Clear (clocked P p m c d).state.phase (clocked Q r n g d).state.phase
    unfolding clocked
    clock_clear p r m c n g d this_idle = this_idle
    clock_clear p r m c n g d that_idle = that_idle
    clock_clear p r m c n g d (both_called k b h) =
        slave_clear (place_at k) k b d (reader_early (calling k b) (clock d ∷ []) h) (early_place k h)

    pub line_clear : (p r : Phase) (m : P.Cells) (c : P.Desk) (n : Q.Cells) (g : Q.Desk) (x : Line) → Clear p r
        → Clear (lined P p m c x).state.phase (lined Q r n g x).state.phase
    unfolding lined
    line_clear p r m c n g start h = both_called 0 0 (omega arith)
    line_clear p r m c n g stop h = this_idle
    line_clear p r m c n g (clock d) h = clock_clear p r m c n g d h

    -- one of the two leaves the line to the master
    slave_line : (l : Place) (k b : ℕ) (d : Bool) → (AtNinth l → ⊥) → (received_at l (slave_byte Q.names) tt k b
        d).line ≡ d
    unfolding received_at
    slave_line first k b d n = refl
    slave_line within k b d n = refl
    slave_line last k b d n = refl
    slave_line ack k b d n = absurd (n tt)

    clock_one : (p r : Phase) (m : P.Cells) (c : P.Desk) (n : Q.Cells) (g : Q.Desk) (d : Bool) → Clear p r
        → ((clocked P p m c d).line ≡ d → ⊥) → (clocked Q r n g d).line ≡ d
    unfolding clocked
    clock_one p r m c n g d this_idle h = absurd (h refl)
    clock_one p r m c n g d that_idle h = refl
    clock_one p r m c n g d (both_called k b e) h = slave_line (place_at k) k b d (early_place k e)

    pub line_one : (p r : Phase) (m : P.Cells) (c : P.Desk) (n : Q.Cells) (g : Q.Desk) (x : Line) → Clear p r
        → ((lined P p m c x).line ≡ masters_line x → ⊥) → (lined Q r n g x).line ≡ masters_line x
    unfolding lined
    line_one p r m c n g start k h = refl
    line_one p r m c n g stop k h = refl
    line_one p r m c n g (clock d) k h = clock_one p r m c n g d k h

told_phase : (P : Parts) (u : State P) (z : Heard P.Tick) → (run P u (told z)).phase ≡ u.phase
told_phase P u nothing = refl
told_phase P u (this t) = refl

module _ (B : Bench) (K : Lawful B) (v j : B.Dev) (d : B.same v j ≡ false) where
  abbrev never : (x : Side) (b : ℕ) → MayName (to x) ((B.part v).names b) → MayName foreign ((B.part j).names b)
  never x b h = K.unlike v j x b d h

  clear_run : (s : Devices B) (l : List (Word B.Dev B.Tock)) → Clear (s v).phase (s j).phase
      → Clear (run_wire B s l v).phase (run_wire B s l j).phase
  clear_run s [] k = k
  clear_run s (says a x ∷ l) k =
      clear_run (step_wire B s (says a x)) l
      (line_clear (B.part v) (B.part j) never (s v).phase (s j).phase (s v).memory (s v).companion (s
      j).memory (s j).companion x k)
  clear_run s (ticks t ∷ l) k =
      clear_run (step_wire B s (ticks t)) l
      (subst (λ (z : Phase). Clear z (run (B.part j) (s j) (told (B.hear j t))).phase) (sym (told_phase (B.part
      v) (s v) (B.hear v t)))
      (subst (λ (z : Phase). Clear (s v).phase z) (sym (told_phase (B.part j) (s j) (B.hear j t))) k))

pub one_pulls : OnePulls
one_pulls B K s l v j x idle d h =
    let r = run_wire B s l in
    let k = clear_run B K v j d s l (subst (λ (z : Phase). Clear z (s j).phase) (sym (idle v)) this_idle) in
    line_one (B.part v) (B.part j) (λ y b e. K.unlike v j y b d e) (r v).phase (r j).phase (r v).memory (r
    v).companion (r j).memory (r j).companion x k h
