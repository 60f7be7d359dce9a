-- SPDX-License-Identifier: Apache-2.0
-- No two devices of a set pull the line low at the same moment, whatever came before: any event bytes at all, power
-- events too, and whatever supplies each of them began with.
use Rattle.std.specs.Prelude.{ℕ, ◌≡◌, false, List}
use Rattle.wire.specs.Machine.{Line, masters_line}
use Rattle.set_event.specs.Set.{Together, Place, at, done_in, after_events}
use Rattle.law_ensemble.specs.Transaction.{line_byte, same_place, Here, Unlike}
use Rattle.law_ensemble.specs.Stand.{Stands}

-- From every set that a list run takes, inside a transfer or not: if one of two devices pulls the line low, the other
-- does not. So what a device hears of the master is what is on the line, as far as it listens.
abbrev pub OnePulls : Type 0
OnePulls =
    (t : Together) (es : List ℕ) (v w : Place) (x : Line) → Stands t → Unlike t → Here t v → Here t w
    → same_place v w ≡ false
    → ((done_in (at v (after_events t es)) (line_byte x)).line ≡ masters_line x → ⊥)
    → (done_in (at w (after_events t es)) (line_byte x)).line ≡ masters_line x
