-- SPDX-License-Identifier: Apache-2.0
-- 02, number 8, of calls: who may do which events. The lent byte h says who holds the bus: 0 nobody, 1 or 2 that master.
--   NotHeld    "a call with any event 0 to 3 by a master that does not hold it .. is refused with a new number 7, tested after
--              number 3 and before number 4, and changes nothing"
--   Neither    "Ticks and power events belong to neither"
--   Holding    the holder's call
use Rattle.std.specs.Prelude.{ℕ, ◌≤◌, ◌<◌, ◌≡◌, List, [], ◌∷◌, ◌++◌}
use Rattle.fm3130_list.specs.Run.{outcome_of}
use Rattle.c_masters.specs.Outcome.{CallOutcome, call_of}
use Rattle.law_masters.specs.Each.{Each, Handed}

abbrev pub refused_by7 : ℕ → List ℕ → List ℕ → List ℕ → CallOutcome
refused_by7 h i m a =
    record { run = record { number = 7; count = 0; image = i; memory = m; answers = a }; bus = h ∷ [] }

-- Whatever room there is for the answers.
abbrev pub NotHeld : Type 0
NotHeld =
    (h x : ℕ) (i m es a before after : List ℕ) (e : ℕ) → h ≤ 2 → 1 ≤ x → x ≤ 2 → (h ≡ x → ⊥) → Handed i m es
    → es ≡ before ++ (e ∷ after) → e ≤ 3 → call_of (h ∷ []) x i m es a ≡ refused_by7 h i m a

-- Whoever holds the bus, the call is the list run's.
abbrev pub Neither : Type 0
Neither =
    (h x : ℕ) (i m es a : List ℕ) → h ≤ 2 → 1 ≤ x → x ≤ 2 → Handed i m es → Each (λ e. 3 < e) es
    → (call_of (h ∷ []) x i m es a).run ≡ outcome_of i m es a

abbrev pub Holding : Type 0
Holding =
    (x : ℕ) (i m es a : List ℕ) → 1 ≤ x → x ≤ 2 → Handed i m es → (call_of (x ∷ []) x i m es a).run ≡ outcome_of i m es a
