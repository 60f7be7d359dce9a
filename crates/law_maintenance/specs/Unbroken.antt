-- SPDX-License-Identifier: Apache-2.0
-- "All of it after the last bus failure": when a line of the log says that a byte was wholly read, no line back to the first
-- of its nine Clocks is a failure. So a read whose ninth Clock is after the last failure is after it from its first Clock on.
use Rattle.std.specs.Prelude.{ℕ, zero, suc, ◌≡◌, true, cond, List, [], ◌∷◌}
use Rattle.wire.specs.declared.Phase.TheVariants.{Idle}
use Rattle.fm3130.specs.Event.{Happening}
use Rattle.fm3130.specs.declared.State.{State}
use Rattle.fm3130_list.specs.Run.{run_of}
use Rattle.lamps.specs.History.{History, moment, happened, past_of}
use Rattle.lamps.specs.Log.{is_clock, mark_of}
use Rattle.lamps_eight.specs.Lit.{is_failure, none}
use Rattle.lamps_eight.specs.declared.Mark.{Mark}
use Rattle.lamps_eight.specs.declared.Mark.TheVariants.{Gave}

-- Auxiliary: one line more; a Clock counts.
abbrev pub added_to : Happening → Mark → (ℕ → List Mark) → ℕ → List Mark
added_to y x older zero = []
added_to y x older (suc n) = x ∷ cond (is_clock y) (older n) (older (suc n))

-- The lines of the log back to the n-th Clock, that one too.
abbrev pub back_to : History → ℕ → List Mark
back_to [] n = []
back_to (x ∷ h) n = added_to (happened x) (mark_of x h) (back_to h) n

abbrev pub Unbroken : Type 0
Unbroken =
    (s : State) (m es : List ℕ) (e a v : ℕ) → s.phase ≡ Idle
    → mark_of (moment (run_of s m es).state (run_of s m es).memory e) (past_of [] s m es) ≡ Gave a v
    → none is_failure (back_to (past_of [] s m es) 8) ≡ true
