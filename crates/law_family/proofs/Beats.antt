-- SPDX-License-Identifier: Apache-2.0
-- Ticks and edges with a supply change the companion alone, and of it the counters; the answer to each is 1.
use Prim.Native.Nat.{ℕ}
use mathlib.Core.Path.{◌≡◌, refl, ap, ◌∙◌}
use mathlib.Core.Bool.{Bool}
use mathlib.Core.List.{List, [], ◌∷◌}
use lib.ListN.{length, replicate}
use Rattle.bits.specs.Weight.{has}
use Rattle.bus.specs.Happening.{happening}
use Rattle.bus.specs.Event.{event_on}
use Rattle.bus.specs.declared.Beat.{Beat}
use Rattle.bus.specs.declared.Beat.TheVariants.{Second, Cnt1, Cnt2}
use Rattle.bus.specs.declared.Power.{Power}
use Rattle.bus.specs.declared.Power.TheVariants.{On, Backup, Off}
use Rattle.fm31_counters.specs.Change.{with_counts, with_registers}
use Rattle.fm31_counters.specs.Edge.{edged, edge_of}
use Rattle.fm31_counters.specs.declared.Counts.{Counts}
use Rattle.fm31_counters.specs.declared.Counters.{Counters}
use Rattle.fm31_counters.specs.declared.Input.TheVariants as input
use Rattle.fm31.specs.Chip.{beaten}
use Rattle.fm31.specs.Run.{Ended, run_of}
use Rattle.fm31.specs.declared.State.{State}
use Rattle.law_family.specs.Beats.{beat_events}

-- so many of them, one after another
abbrev pub beaten_by : List Beat → Counters → Counters
beaten_by [] c = c
beaten_by (b ∷ bs) c = beaten_by bs (beaten b c)

-- the counters alone
abbrev pub counted_by : Bool → Beat → Counts → Counts
counted_by cc Second n = n
counted_by cc Cnt1 n = edged cc input.Cnt1 n
counted_by cc Cnt2 n = edged cc input.Cnt2 n

abbrev pub counted_all : Bool → List Beat → Counts → Counts
counted_all cc [] n = n
counted_all cc (b ∷ bs) n = counted_all cc bs (counted_by cc b n)

abbrev with_counts_in : Counters → Counts → Counters
with_counts_in c n = with_registers c (with_counts c.registers n)

one_counts : (b : Beat) (c : Counters)
    → beaten b c ≡ with_counts_in c (counted_by (has c.registers.counting 4) b c.registers.counts)
unfolding edge_of
one_counts Second c = refl
one_counts Cnt1 c = refl
one_counts Cnt2 c = refl

pub all_count : (bs : List Beat) (c : Counters)
    → beaten_by bs c ≡ with_counts_in c (counted_all (has c.registers.counting 4) bs c.registers.counts)
all_count [] c = refl
all_count (b ∷ bs) c =
    let n = counted_by (has c.registers.counting 4) b c.registers.counts in
    ap (beaten_by bs) (one_counts b c) ∙ all_count bs (with_counts_in c n)

-- all that a list of them leaves
abbrev pub beaten_in : State → List ℕ → List Beat → Ended
beaten_in s m bs =
    record {
      state = record { bus = s.bus; counters = beaten_by bs s.counters };
      memory = m;
      answers = replicate (length bs) 1;
    }

module _ (size select : ℕ) (m : List ℕ) where
  abbrev on_supply : Power → State → State
  on_supply p s = record { bus = record { power = p; phase = s.bus.phase; address = s.bus.address }; counters = s.counters }

  abbrev Beaten : Power → Type 0
  Beaten p =
      (s : State) (bs : List Beat) → run_of size select (on_supply p s) m (beat_events bs) ≡ beaten_in (on_supply p s) m bs

  abbrev after_one : Beat → State → State
  after_one b s = record { bus = s.bus; counters = beaten b s.counters }

  beats_on : Beaten On
  unfolding run_of happening event_on
  beats_on s [] = refl
  beats_on s (Second ∷ bs) = rw (beats_on (after_one Second s) bs)
  beats_on s (Cnt1 ∷ bs) = rw (beats_on (after_one Cnt1 s) bs)
  beats_on s (Cnt2 ∷ bs) = rw (beats_on (after_one Cnt2 s) bs)

  beats_backup : Beaten Backup
  unfolding run_of happening event_on
  beats_backup s [] = refl
  beats_backup s (Second ∷ bs) = rw (beats_backup (after_one Second s) bs)
  beats_backup s (Cnt1 ∷ bs) = rw (beats_backup (after_one Cnt1 s) bs)
  beats_backup s (Cnt2 ∷ bs) = rw (beats_backup (after_one Cnt2 s) bs)

  by_supply : (p : Power) → (p ≡ Off → ⊥) → Beaten p
  by_supply On h = beats_on
  by_supply Backup h = beats_backup
  by_supply Off h = absurd (h refl)

  pub beats_run : (s : State) (bs : List Beat) → (s.bus.power ≡ Off → ⊥) → run_of size select s m (beat_events bs) ≡ beaten_in s m bs
  beats_run s bs h = by_supply s.bus.power h s bs
