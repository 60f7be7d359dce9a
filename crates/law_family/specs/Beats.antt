-- SPDX-License-Identifier: Apache-2.0
-- Ticks and edges, in any number and order (02, number 5: "It has no calendar: ticks change nothing"; "Two new event bytes, 8 and
-- 9, are already polarity-filtered edges on CNT1 and CNT2").
--   beat_event, beat_events   their event bytes
--   ones, twos              how many of them are edges on CNT1, on CNT2
--   after_beats              the companion once they, and nothing else, have come
--   among, joined           things with some of them before each; all of some rows of them
use Rattle.std.specs.Prelude.{ℕ, suc, List, [], ◌∷◌, ◌++◌, map}
use Rattle.bus.specs.declared.Beat.{Beat}
use Rattle.bus.specs.declared.Beat.TheVariants.{Second, Cnt1, Cnt2}
use Rattle.fm31_counters.specs.declared.Counters.{Counters}
use Rattle.fm31.specs.Run.{run_of}
use Rattle.fm31.specs.declared.State.{State}

abbrev pub beat_event : Beat → ℕ
beat_event Second = 4
beat_event Cnt1 = 8
beat_event Cnt2 = 9

abbrev pub beat_events : List Beat → List ℕ
beat_events bs = map beat_event bs

abbrev pub ones : List Beat → ℕ
ones [] = 0
ones (Second ∷ bs) = ones bs
ones (Cnt1 ∷ bs) = suc (ones bs)
ones (Cnt2 ∷ bs) = ones bs

abbrev pub twos : List Beat → ℕ
twos [] = 0
twos (Second ∷ bs) = twos bs
twos (Cnt1 ∷ bs) = twos bs
twos (Cnt2 ∷ bs) = suc (twos bs)

abbrev pub after_beats : ℕ → ℕ → State → List ℕ → List Beat → Counters
after_beats size select s m bs = (run_of size select s m (beat_events bs)).state.counters

-- Auxiliary: before each thing of a list its row of ticks and edges, each as what f makes of it.
abbrev pub among : {A : Type 0} → (Beat → A) → List (List Beat) → List A → List A
among f [] ys = ys
among f (bs ∷ rows) [] = []
among f (bs ∷ rows) (y ∷ ys) = map f bs ++ (y ∷ among f rows ys)

abbrev pub joined : List (List Beat) → List Beat
joined [] = []
joined (bs ∷ rows) = bs ++ joined rows

-- Auxiliary: eight rows.
abbrev pub eight_rows : (b₀ b₁ b₂ b₃ b₄ b₅ b₆ b₇ : List Beat) → List (List Beat)
eight_rows b₀ b₁ b₂ b₃ b₄ b₅ b₆ b₇ = b₀ ∷ b₁ ∷ b₂ ∷ b₃ ∷ b₄ ∷ b₅ ∷ b₆ ∷ b₇ ∷ []
