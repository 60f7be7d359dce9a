-- SPDX-License-Identifier: Apache-2.0
-- A read that sets its address gives the same bytes whatever the other master did before: both sessions are near the run
-- of the master's own events, and near devices answer such a read alike.
use Prim.Native.Nat.{ℕ}
use mathlib.Core.Path.{◌≡◌, refl, sym, subst, ◌∙◌}
use mathlib.Core.Bool.{Bool, true, false, false≢true}
use mathlib.Core.List.{List, ◌∷◌}
use Rattle.wire.specs.declared.Phase.TheVariants.{Idle}
use Rattle.fm3130.specs.Event.{on_wire, happening, event_on, event_of}
use Rattle.wire.specs.Machine.{start, lined}
use Rattle.bus_limits.specs.Limits.{power_within}
use Rattle.bus.specs.declared.Power.{Power}
use Rattle.bus.specs.declared.Power.TheVariants.{On, Backup, Off}
use Rattle.fm3130.specs.declared.State.{State}
use Rattle.fm3130_list.specs.Run.{run_of}
use Rattle.masters_hold.specs.declared.Master.{Master}
use Rattle.law_assurance.specs.Session.{after_acts, own_of, begin}
use Rattle.law_assurance.specs.Same.{ReadsIn, SameAnswers}
use Rattle.law_assurance.proofs.Near.{equal, weaken}
use Rattle.law_assurance.proofs.Steps.{Alike, lessen, idle_of}
use Rattle.law_assurance.proofs.Strict.{Strict, Answered, answered, answer_same}
use Rattle.law_assurance.proofs.Sessions.{Stands, free, session}

-- from a state between transfers
idle_dark : (p : Power) → power_within p Idle ≡ true
unfolding power_within
idle_dark On = refl
idle_dark Backup = refl
idle_dark Off = refl

starts : (me : Master) (A : ℕ → Bool) (s : State) (m : List ℕ) → s.phase ≡ Idle → Stands me A false (begin s m) s m
starts me A s m e =
    let dark : power_within s.power s.phase ≡ true = rw e (idle_dark s.power) in
    free refl refl
    (record {
      alike =
          record {
            power = refl;
            near = record { bytes = λ a z. refl; size = refl; registers = refl; core = refl; address = λ z. refl };
            dark = dark;
            dark₂ = dark;
          };
      phases = equal;
      placed = rw e tt;
    })
    e

-- near is near both ways
turned : {A : ℕ → Bool} {t : Bool} {h : State} {m : List ℕ} {r : State} {n : List ℕ} → Alike A t h m r n → Alike A t r n h m
turned g =
    record {
      power = sym g.power;
      near =
          record {
            bytes = λ a z. sym (g.near.bytes a z);
            size = sym g.near.size;
            registers = sym g.near.registers;
            core = sym g.near.core;
            address = λ z. sym (g.near.address z);
          };
      dark = g.dark₂;
      dark₂ = g.dark;
    }

-- a Start begins anew, whatever was under way; while off there is no transfer
module _ (A : ℕ → Bool) (h : State) (m : List ℕ) (r : State) (n : List ℕ) where
  idle_both : Alike A false h m r n → h.phase ≡ Idle → r.phase ≡ Idle → Strict A false false h m r n
  idle_both g p q =
      record {
        near = record { alike = g; phases = rw (p, q) equal; placed = rw p tt };
        phase = p ∙ sym q;
        place = λ z. absurd (false≢true z);
      }

  begins_on : (p : Power) → h.power ≡ p → r.power ≡ p → Alike A false h m r n
      → Strict A false false (event_on p (on_wire start) h m).state (event_on p (on_wire start) h m).memory
      (event_on p (on_wire start) r n).state (event_on p (on_wire start) r n).memory
  unfolding event_on lined power_within
  begins_on On e q g =
      record {
        near =
            record {
              alike = record { power = refl; near = weaken false (λ z. absurd (false≢true z)) g.near; dark = refl; dark₂ = refl };
              phases = equal;
              placed = tt;
            };
        phase = refl;
        place = λ z. absurd (false≢true z);
      }
  begins_on Backup e q g = idle_both g (idle_of h.phase (rw e at g.dark)) (idle_of r.phase (rw q at g.dark₂))
  begins_on Off e q g = idle_both g (idle_of h.phase (rw e at g.dark)) (idle_of r.phase (rw q at g.dark₂))

  begins_line : (p : Power) → (event_on p (on_wire start) h m).line ≡ (event_on p (on_wire start) r n).line
  unfolding event_on lined
  begins_line On = refl
  begins_line Backup = refl
  begins_line Off = refl

  begins : (u : Bool) (es : List ℕ) → Alike A u h m r n → ReadsIn A false false h m (0 ∷ es) → Answered A false false h m r n (0 ∷ es)
  unfolding run_of happening
  begins u es g₀ s =
      let g : Alike A false h m r n = lessen false (λ z. absurd (false≢true z)) g₀ in
      let k : Strict A false false (event_of h m 0).state (event_of h m 0).memory (event_of r n 0).state (event_of r n 0).memory =
      subst (λ (p : Power). Strict A false false (event_of h m 0).state (event_of h m 0).memory
      (event_on p (on_wire start) r n).state (event_on p (on_wire start) r n).memory) g.power
      (begins_on h.power refl (sym g.power) g) in
      let line : (event_of h m 0).line ≡ (event_of r n 0).line =
      subst (λ (p : Power). (event_of h m 0).line ≡ (event_on p (on_wire start) r n).line) g.power (begins_line h.power) in
      let first = answer_same A false (event_of h m 0).state (event_of h m 0).memory (event_of r n 0).state
      (event_of r n 0).memory (event_of h m 0).line (event_of r n 0).line k.near.alike line in
      let rest = answered A es false false (event_of h m 0).state (event_of h m 0).memory (event_of r n 0).state (event_of r n 0).memory k s.1 in
      record { answers = λ j. first j ∷ rest.answers j; reads = (tt, rest.reads) }

pub same_answers : SameAnswers
same_answers me A s m x y es g reads =
    let w = begin s m in
    let from = starts me A s m g.between in
    let one = session me A x false w s m from g.one in
    let two : (u : Bool) × Alike A u (after_acts w y).state (after_acts w y).memory
    (run_of s m (own_of me w x)).state (run_of s m (own_of me w x)).memory =
    rw g.alike (session me A y false w s m from g.two) in
    let wx = after_acts w x in
    let wy = after_acts w y in
    let r = run_of s m (own_of me w x) in
    let there = begins A wx.state wx.memory r.state r.memory one.0 es one.1 reads in
    let back = begins A r.state r.memory wy.state wy.memory two.0 es (turned two.1) there.reads in
    there.answers ∙ back.answers
