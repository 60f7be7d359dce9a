-- SPDX-License-Identifier: Apache-2.0
-- Ticks and edges before a Clock, and rows of them: on main power they lead on from phase to phase, and change the companion alone.
use Prim.Native.Nat.{ℕ}
use mathlib.Core.Path.{◌≡◌, refl, sym, ap, subst, ◌∙◌}
use mathlib.Core.Bool.{Bool, true}
use mathlib.Core.List.{List, [], ◌∷◌, ◌++◌, map}
use lib.ListN.{length, replicate}
use Rattle.wire.specs.declared.Phase.{Phase}
use Rattle.bus.specs.declared.Beat.{Beat}
use Rattle.bus.specs.declared.Beat.TheVariants.{Second, Cnt1, Cnt2}
use Rattle.bus.specs.declared.Power.{Power}
use Rattle.bus.specs.declared.Power.TheVariants.{On, Backup, Off}
use Rattle.fm31_counters.specs.Edge.{edge_of}
use Rattle.fm31_counters.specs.declared.Counters.{Counters}
use Rattle.fm31.specs.Chip.{beaten}
use Rattle.fm31.specs.Run.{Ended, run_of}
use Rattle.fm31.specs.declared.State.{State}
use Rattle.wire_clocks.specs.Clocks.{lines_of}
use Rattle.law_family.specs.Beats.{beat_events, after_beats, joined}
use Rattle.law_family.proofs.Runs.{on_bus, Leads, leads_then}
use Rattle.law_family.proofs.Beats.{beaten_by, beats_run}

-- the line of a tick and of an edge is at rest
abbrev pub quiet : Beat → Bool
quiet b = true

all_quiet : (bs : List Beat) → lines_of (replicate (length bs) 1) ≡ map quiet bs
all_quiet [] = refl
all_quiet (b ∷ bs) = ap (λ (x : List Bool). true ∷ x) (all_quiet bs)

-- of the companion they leave the address
beat_address : (b : Beat) (c : Counters) → (beaten b c).address ≡ c.address
unfolding edge_of
beat_address Second c = refl
beat_address Cnt1 c = refl
beat_address Cnt2 c = refl

pub beats_address : (bs : List Beat) (c : Counters) → (beaten_by bs c).address ≡ c.address
beats_address [] c = refl
beats_address (b ∷ bs) c = beats_address bs (beaten b c) ∙ beat_address b c

-- rows of them, one after another
abbrev pub beaten_rows : List (List Beat) → Counters → Counters
beaten_rows [] c = c
beaten_rows (bs ∷ rows) c = beaten_rows rows (beaten_by bs c)

beats_append : (bs cs : List Beat) (c : Counters) → beaten_by (bs ++ cs) c ≡ beaten_by cs (beaten_by bs c)
beats_append [] cs c = refl
beats_append (b ∷ bs) cs c = beats_append bs cs (beaten b c)

pub rows_joined : (rows : List (List Beat)) (c : Counters) → beaten_rows rows c ≡ beaten_by (joined rows) c
rows_joined [] c = refl
rows_joined (bs ∷ rows) c = rows_joined rows (beaten_by bs c) ∙ sym (beats_append bs (joined rows) c)

abbrev IsOn : Power → Type 0
IsOn On = Unit {0}
IsOn Backup = ⊥
IsOn Off = ⊥

on_is_on : On ≡ Off → ⊥
on_is_on e = subst IsOn e tt

module _ (size select : ℕ) where
  pub stays : (s : State) (m : List ℕ) → Leads size select s m [] s m []
  unfolding run_of
  stays s m = record { state = refl; memory = refl; lines = refl }

  module _ (p : Phase) (a : ℕ) (m : List ℕ) where
    beats_lead : (bs : List Beat) (c : Counters)
        → Leads size select (on_bus p a c) m (beat_events bs) (on_bus p a (beaten_by bs c)) m (map quiet bs)
    beats_lead bs c =
        let e = beats_run size select m (on_bus p a c) bs on_is_on in
        record {
          state = ap (λ (r : Ended). r.state) e;
          memory = ap (λ (r : Ended). r.memory) e;
          lines = ap (λ (r : Ended). lines_of r.answers) e ∙ all_quiet bs;
        }

    -- then another event, and the rest
    pub paced : {s' s'' : State} {m' m'' ys : List ℕ} {ks : List Bool} {l : Bool} (bs : List Beat) (e : ℕ) (c : Counters)
        → Leads size select (on_bus p a (beaten_by bs c)) m (e ∷ []) s' m' (l ∷ []) → Leads size select s' m' ys s'' m'' ks
        → Leads size select (on_bus p a c) m (beat_events bs ++ (e ∷ ys)) s'' m'' (map quiet bs ++ (l ∷ ks))
    paced bs e c one rest = leads_then size select (beats_lead bs c) (leads_then size select one rest)

    -- the companion as they alone leave it
    pub after_beats_lem : (c : Counters) (bs : List Beat) → after_beats size select (on_bus p a c) m bs ≡ beaten_by bs c
    after_beats_lem c bs = ap (λ (s : State). s.counters) (beats_lead bs c).state

    pub rows_alone : (c : Counters) (rows : List (List Beat))
        → beaten_rows rows c ≡ after_beats size select (on_bus p a c) m (joined rows)
    rows_alone c rows = rows_joined rows c ∙ sym (after_beats_lem c (joined rows))
